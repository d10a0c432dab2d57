use Rattle.std.proofs.Common.{arith}
use Rattle.std.proofs.Common.{map}
use Rattle.std.specs.Prelude.{string_bytes}
use Rattle.command_lines.specs.Given.{flag_in}
use Rattle.command_lines.proofs.LineWords.{no_end}
use Rattle.command_lines.proofs.words.take_value.Goals as goal

pub returns-then-end-eq0-clause-first : goal.returns-then-end-eq0-clause-first
returns-then-end-eq0-clause-first c =
    no_end (flag_in c.args.flag) c.args.end.now (map string_bytes c.args.rest.now) c.apart.result (grind (arith, c.if-end-eq0.true)) c.apart.ensures.first
