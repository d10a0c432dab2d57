use Rattle.std.proofs.Common.{◌∙◌, codes}
use Rattle.clap.specs.Words.{found_of, rows_of}
use Rattle.clap.proofs.WalkLemmas.{first_value-rows}
use Rattle.command_lines.proofs.LineMatches.{found_drill, no_count_found, no_start_found}
use Rattle.command_lines.proofs.matching.drilled.Goals as goal

pub returns-in-Some-get_str : goal.returns-in-Some-get_str
returns-in-Some-get_str c =
    let f = found_of c.args.matches.now in
    found_drill (rows_of f) c.in-Some.start.now c.in-Some-get_str.count.now c.drill_with.result (c.in-Some.ensures ∙ first_value-rows f (codes "start"))
    (c.in-Some-get_str.ensures ∙ first_value-rows f (codes "count")) c.drill_with.ensures.only

pub returns-in-None-get_str : goal.returns-in-None-get_str
returns-in-None-get_str c = let f = found_of c.args.matches.now in no_count_found (rows_of f) (c.in-None-get_str.ensures ∙ first_value-rows f (codes "count"))

pub returns-in-None : goal.returns-in-None
returns-in-None c = let f = found_of c.args.matches.now in no_start_found (rows_of f) (c.in-None.ensures ∙ first_value-rows f (codes "start"))
