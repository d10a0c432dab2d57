use Rattle.std.proofs.Common.{subst}
use Rattle.command_lines.specs.inner.Parsing.{Builds}
use Rattle.command_lines.proofs.program.with_command.Goals as goal

pub returns-in-Ok : goal.returns-in-Ok
returns-in-Ok c = λ app shape plain is one. c.with_added.ensures app shape plain (subst (Builds app) c.in-Ok.is is) one
