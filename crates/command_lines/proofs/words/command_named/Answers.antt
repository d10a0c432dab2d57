use Rattle.command_lines.specs.Given.{values_in}
use Rattle.command_lines.proofs.LineWords.{no_source}
use Rattle.command_lines.proofs.words.command_named.Goals as goal

pub returns-in-None : goal.returns-in-None
returns-in-None c = no_source c.args.word.now (values_in c.args.given) c.in-None.ensures
