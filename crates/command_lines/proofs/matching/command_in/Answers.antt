use Rattle.clap.specs.Words.{found_of, rows_of}
use Rattle.command_lines.proofs.LineMatches.{found_line, no_line_found}
use Rattle.command_lines.proofs.matching.command_in.Goals as goal

pub returns-in-Some : goal.returns-in-Some
returns-in-Some c = found_line c.args.matches.now c.in-Some.name.now (rows_of (found_of c.in-Some.inner.now)) c.named.result c.in-Some.ensures.name c.in-Some.ensures.rows c.named.ensures

pub returns-in-None : goal.returns-in-None
returns-in-None c = no_line_found c.args.matches.now c.in-None.ensures.name
