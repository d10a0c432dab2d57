use Rattle.std.proofs.Common.{◌∙◌, ap}
use Rattle.clap.specs.Words.{subcommand_of}
use Rattle.command_lines.specs.Given.{line_of}
use Rattle.command_lines.specs.inner.Parsing.{program}
use Rattle.command_lines.proofs.LineMatches.{line_read}
use Rattle.command_lines.proofs.matching.read_command.Goals as goal

pub returns-in_ok-matches-in-Some-clause-is : goal.returns-in_ok-matches-in-Some-clause-is
returns-in_ok-matches-in-Some-clause-is c =
    line_read c.args.words.now (line_of c.in-Some.field-0) c.command_in.result c.in-Some.ensures.is
    (λ line is. c.command_in.ensures c.args.words.now line is (c.in_ok-matches-in-Some.ensures ∙ ap (subcommand_of program) c.as_slice.ensures))

pub returns-in_ok-matches-in-Some-clause-only : goal.returns-in_ok-matches-in-Some-clause-only
returns-in_ok-matches-in-Some-clause-only c = λ line is.
    c.command_in.ensures c.args.words.now line is (c.in_ok-matches-in-Some.ensures ∙ ap (subcommand_of program) c.as_slice.ensures)
