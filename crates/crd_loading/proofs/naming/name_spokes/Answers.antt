use Rattle.std.proofs.Common.{List, map, ap, sym, subst, ◌∙◌}
use Rattle.hub_cells.specs.Fit.{Fit}
use Rattle.hub_fills.specs.Fills.{fills_of}
use Rattle.hub_fills.specs.EachFit.{EachAllows}
use Rattle.keep_laws.specs.Spokes.{Spokes, IsDefinition, fills_at}
use Rattle.crd_loading.specs.Fits.{levels_in}
use Rattle.crd_loading.proofs.Defined.{all_allow, is_definition}
use Rattle.crd_loading.proofs.Parts.{parts, named_within, name_is, as_many, whole, fills_same}
use Rattle.crd_loading.proofs.naming.name_spokes.Goals as goal

pub all_fills-requires : goal.all_fills-requires
all_fills-requires c =
    subst EachAllows (sym c.as_slice.ensures.value) (all_allow c.valid_defaults.ensures (parts c.args.definition.now c.args.hub c.args.fits.items) c.requires)

pub named_spokes-requires : goal.named_spokes-requires
named_spokes-requires c =
    as_many c.versions-versions.result.now c.args.definition.now c.args.hub c.args.fits.items c.versions-versions.ensures.value c.requires

pub new-spokes-requires-clause-definition : goal.new-spokes-requires-clause-definition
new-spokes-requires-clause-definition c =
    let vs = c.versions-versions.result.now in
    let d = c.args.definition.now in
    let h = c.args.hub in
    let fs = c.args.fits.items in
    let n = c.in_ok-name.name.bytes in
    let e = c.versions-versions.ensures.value in
    let q = name_is vs d h c.index-versions-hub.result n e (named_within vs d h fs e c.requires) (c.in_ok-name.ensures ∙ c.as_str-2.ensures) in
    let is = whole vs d h fs c.in_ok-group.group.bytes n c.in_ok-items.items.items e (c.in_ok-group.ensures ∙ c.as_str.ensures ∙ c.group.ensures) q c.in_ok-items.ensures in
    subst IsDefinition (sym is) (is_definition c.valid_defaults.ensures (parts d h fs) c.requires c.room_of_rules.ensures c.none_late.ensures)

pub new-spokes-requires-clause-fills : goal.new-spokes-requires-clause-fills
new-spokes-requires-clause-fills c =
    let vs = c.versions-versions.result.now in
    let d = c.args.definition.now in
    let h = c.args.hub in
    let fs = c.args.fits.items in
    let n = c.in_ok-name.name.bytes in
    let e = c.versions-versions.ensures.value in
    let q = name_is vs d h c.index-versions-hub.result n e (named_within vs d h fs e c.requires) (c.in_ok-name.ensures ∙ c.as_str-2.ensures) in
    let is = whole vs d h fs c.in_ok-group.group.bytes n c.in_ok-items.items.items e (c.in_ok-group.ensures ∙ c.as_str.ensures ∙ c.group.ensures) q c.in_ok-items.ensures in
    let here = c.in_ok-fills.ensures ∙ ap (λ (gs : List Fit). map (λ (f : Fit). fills_of (levels_in gs) f.level) gs) c.as_slice.ensures.value in
    here ∙ fills_same (parts d h fs) c.requires ∙ ap (λ (a : Spokes). map (fills_at a) a.items) (sym is)

pub returns-clause-spokes : goal.returns-clause-spokes
returns-clause-spokes c =
    let vs = c.versions-versions.result.now in
    let d = c.args.definition.now in
    let h = c.args.hub in
    let fs = c.args.fits.items in
    let n = c.in_ok-name.name.bytes in
    let e = c.versions-versions.ensures.value in
    let q = name_is vs d h c.index-versions-hub.result n e (named_within vs d h fs e c.requires) (c.in_ok-name.ensures ∙ c.as_str-2.ensures) in
    c.new-spokes.ensures ∙ whole vs d h fs c.in_ok-group.group.bytes n c.in_ok-items.items.items e (c.in_ok-group.ensures ∙ c.as_str.ensures ∙ c.group.ensures) q c.in_ok-items.ensures

pub returns-clause-definition : goal.returns-clause-definition
returns-clause-definition c =
    let vs = c.versions-versions.result.now in
    let d = c.args.definition.now in
    let h = c.args.hub in
    let fs = c.args.fits.items in
    let n = c.in_ok-name.name.bytes in
    let e = c.versions-versions.ensures.value in
    let q = name_is vs d h c.index-versions-hub.result n e (named_within vs d h fs e c.requires) (c.in_ok-name.ensures ∙ c.as_str-2.ensures) in
    let is = c.new-spokes.ensures ∙ whole vs d h fs c.in_ok-group.group.bytes n c.in_ok-items.items.items e (c.in_ok-group.ensures ∙ c.as_str.ensures ∙ c.group.ensures) q c.in_ok-items.ensures in
    subst IsDefinition (sym is) (is_definition c.valid_defaults.ensures (parts d h fs) c.requires c.room_of_rules.ensures c.none_late.ensures)
