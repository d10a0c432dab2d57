use Rattle.std.proofs.Common.{◌∙◌, codes}
use Rattle.clap.specs.Words.{found_of}
use Rattle.clap.proofs.WalkLemmas.{first_value-rows}
use Rattle.command_lines.proofs.Giving.{same_values}
use Rattle.command_lines.proofs.matching.given.Goals as goal

pub returns : goal.returns
returns c =
    let f = found_of c.args.matches.now in
    same_values _ _ (c.get_str.ensures ∙ first_value-rows f (codes "crd"))
    (c.get_str-2.ensures ∙ first_value-rows f (codes "rules"))
    (c.get_str-3.ensures ∙ first_value-rows f (codes "hub"))
    (c.get_str-4.ensures ∙ first_value-rows f (codes "converter"))
    (c.get_str-5.ensures ∙ first_value-rows f (codes "to"))
    (c.get_str-6.ensures ∙ first_value-rows f (codes "turns"))
    (c.get_str-7.ensures ∙ first_value-rows f (codes "listen"))
    (c.get_str-8.ensures ∙ first_value-rows f (codes "workers"))
    (c.get_str-9.ensures ∙ first_value-rows f (codes "connections"))
