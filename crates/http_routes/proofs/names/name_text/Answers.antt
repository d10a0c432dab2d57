use Rattle.std.proofs.Common.{◌∙◌, sym}
use Rattle.http_routes.proofs.Ascii.{name_utf8, name_fits}
use Rattle.http_routes.proofs.names.name_text.Goals as goal

pub returns-then-name_ok-clause-fits : goal.returns-then-name_ok-clause-fits
returns-then-name_ok-clause-fits c = name_fits _ (sym c.name_ok.ensures ∙ c.if-name_ok.true)

pub returns-in-Err-clause-text : goal.returns-in-Err-clause-text
returns-in-Err-clause-text c = λ named. c.in-Err.ensures.cases.0 (name_utf8 _ named)
