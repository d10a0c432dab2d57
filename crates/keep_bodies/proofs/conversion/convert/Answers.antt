use Rattle.std.proofs.Common.{◌∙◌}
use Rattle.hub_cells.specs.Side as sides
use Rattle.hub_cells.specs.Seen.{side}
use Rattle.keep_laws.specs.Settle.{converted}
use Rattle.keep_bodies.specs.Held.{held}
use Rattle.keep_bodies.proofs.Levels.{allowed_left, converted_is, made_in_order}
use Rattle.keep_bodies.proofs.Settled.{ready}
use Rattle.keep_bodies.proofs.Standing.{none_left, lent_order}
use Rattle.keep_bodies.proofs.conversion.convert.Goals as goal

pub level_over-requires-clause-order : goal.level_over-requires-clause-order
level_over-requires-clause-order c =
    lent_order c.as_slice.result.now c.args.kept.now c.as_slice.ensures c.requires.order

pub level_over-requires-clause-allowed : goal.level_over-requires-clause-allowed
level_over-requires-clause-allowed c =
    allowed_left (side c.args.from) c.args.f.now.level c.args.x.now c.args.kept.now _ (none_left c.as_slice.result.now ∙ c.as_slice.ensures) c.requires.allowed

pub sort-requires : goal.sort-requires
sort-requires c =
    let d = side c.args.from in
    let l = c.args.f.now.level in
    let x = held c.args.x.now c.args.kept.now in
    made_in_order d l c.args.x.now c.args.kept.now _ _ (none_left c.as_slice.result.now ∙ c.as_slice.ensures) (c.in_ok-sorted.ensures ∙ c.in_ok-made.ensures.entries) (c.rising_entries.ensures (sides.other d) l (converted d l x) (ready c.args.f.now c.cells.ensures.fitted) (c.converting.ensures.whole d l x (ready c.args.f.now c.cells.ensures.fitted) c.requires.allowed))

pub returns : goal.returns
returns c =
    converted_is (side c.args.from) c.args.f.now.level c.args.x.now _ c.args.kept.now _ _ _ (none_left c.as_slice.result.now ∙ c.as_slice.ensures) c.in_ok-made.ensures.fields (c.in_ok-sorted.ensures ∙ c.in_ok-made.ensures.entries) (c.from_vec.ensures ∙ c.in_ok-sort.ensures)
