use Rattle.std.proofs.Common.{◌∙◌}
use Rattle.crd_loading.proofs.Parts.{together_parts, is_loaded, set_is}
use Rattle.crd_loading.proofs.from_texts.held.Goals as goal

pub new-requires : goal.new-requires
new-requires c =
    let given = c.into_parts-definition in
    let d = given.result.0 in
    let h = given.result.1 in
    let fs = given.result.2.items in
    let together = together_parts c.args.loaded d h fs given.ensures.definition given.ensures.hub given.ensures.spokes given.ensures.together in
    is_loaded d h fs c.in_ok-spokes.spokes together c.in_ok-spokes.ensures.spokes c.in_ok-spokes.ensures.definition

pub name_spokes-requires : goal.name_spokes-requires
name_spokes-requires c =
    let given = c.into_parts-definition in
    together_parts c.args.loaded given.result.0 given.result.1 given.result.2.items given.ensures.definition given.ensures.hub given.ensures.spokes given.ensures.together

pub returns : goal.returns
returns c =
    let given = c.into_parts-definition in
    c.new.ensures
    ∙ set_is c.args.loaded given.result.0 given.result.1 given.result.2.items c.in_ok-spokes.spokes given.ensures.definition given.ensures.hub given.ensures.spokes c.in_ok-spokes.ensures.spokes
