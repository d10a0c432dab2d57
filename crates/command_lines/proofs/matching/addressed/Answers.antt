use Rattle.std.proofs.Common.{◌∙◌, codes}
use Rattle.clap.specs.Words.{found_of, rows_of}
use Rattle.clap.proofs.WalkLemmas.{first_value-rows}
use Rattle.command_lines.specs.Given.{remote_in}
use Rattle.command_lines.proofs.LineMatches.{found_address, no_address}
use Rattle.command_lines.proofs.matching.addressed.Goals as goal

pub returns-in-Some : goal.returns-in-Some
returns-in-Some c =
    let f = found_of c.args.matches.now in
    found_address (remote_in c.args.work) (rows_of f) c.in-Some.url.now c.remote_at.result (c.in-Some.ensures ∙ first_value-rows f (codes "url")) c.remote_at.ensures

pub returns-in-None : goal.returns-in-None
returns-in-None c = let f = found_of c.args.matches.now in no_address (remote_in c.args.work) (rows_of f) (c.in-None.ensures ∙ first_value-rows f (codes "url"))
