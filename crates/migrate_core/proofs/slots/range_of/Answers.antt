use Rattle.std.proofs.Common.{sym, ◌∙◌, ap}
use Rattle.migrate_core.specs.inner.Slots.{is_held_by, held_span}
use Rattle.migrate_core.proofs.Changes.{none_has, span_of-none, span_at}
use Rattle.migrate_core.proofs.slots.range_of.Goals as goal

pub returns-in_default : goal.returns-in_default
returns-in_default c =
    sym (span_of-none c.args.claim c.args.slots.now
    (none_has (is_held_by c.args.claim) 0 c.args.slots.now (sym c.place_of.ensures.first ∙ c.in_default.is)))

pub returns : goal.returns
returns c =
    c.held_range.ensures
    ∙ ap held_span c.index-slots-place.is
    ∙ span_at c.args.claim c.in-Some.place c.args.slots.now c.index-slots-place.result (sym c.place_of.ensures.first ∙ c.in-Some.is)
