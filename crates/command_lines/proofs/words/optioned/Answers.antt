use Rattle.std.proofs.Common.{map}
use Rattle.std.specs.Prelude.{string_bytes}
use Rattle.command_lines.specs.Given.{values_in}
use Rattle.command_lines.specs.Lines.{no_values}
use Rattle.command_lines.proofs.LineWords.{line_found, one_end}
use Rattle.command_lines.proofs.words.optioned.Goals as goal

pub returns-in-Some-clause-only : goal.returns-in-Some-clause-only
returns-in-Some-clause-only c = λ line l.
    line_found c.args.word.now (map string_bytes c.args.options.now) (values_in c.in-Some.given) c.command_named.result line
    (λ after g. one_end (map string_bytes c.args.options.now) no_values (values_in c.in-Some.given) after c.in-Some.ensures g)
    c.command_named.ensures l
