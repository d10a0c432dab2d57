use Rattle.std.proofs.Common.{◌∙◌, sym}
use Rattle.http_routes.proofs.Ascii.{namespace_utf8, namespace_fits}
use Rattle.http_routes.proofs.names.namespace_text.Goals as goal

pub returns-then-namespace_ok-clause-fits : goal.returns-then-namespace_ok-clause-fits
returns-then-namespace_ok-clause-fits c = namespace_fits _ (sym c.namespace_ok.ensures ∙ c.if-namespace_ok.true)

pub returns-in-Err-clause-text : goal.returns-in-Err-clause-text
returns-in-Err-clause-text c = λ named. c.in-Err.ensures.cases.0 (namespace_utf8 _ named)
