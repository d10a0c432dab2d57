use Rattle.std.proofs.Common.{subst}
use Rattle.clap.specs.Words.{with_rule}
use Rattle.command_lines.specs.inner.Parsing.{Builds}
use Rattle.command_lines.proofs.Building.{with_argument}
use Rattle.command_lines.proofs.program.with_place.Goals as goal

pub returns-in-Ok : goal.returns-in-Ok
returns-in-Ok c = λ app is.
    subst (λ r. Builds (with_rule app r) c.arg.result) c.place.ensures.rule
    (with_argument app c.args.command c.in-Ok.command c.place.result c.arg.result c.in-Ok.is c.place.ensures.own c.arg.ensures is)
