use Rattle.std.proofs.Common.{sym, ◌∙◌}
use Rattle.kube_meta.specs.Plan.{is_loose}
use Rattle.migrate_core.specs.inner.Slots.{held_as}
use Rattle.migrate_core.proofs.Changes.{changes, stays, none_has, some_has, hold_loose-first}
use Rattle.migrate_core.proofs.slots.hold_loose.Goals as goal

pub returns-in_default-clause-slots : goal.returns-in_default-clause-slots
returns-in_default-clause-slots c =
    stays is_loose (held_as c.args.claim) c.args.slots.now (sym c.loose_place.ensures.first ∙ c.in_default.is)
    ∙ hold_loose-first c.args.claim c.args.slots.now

pub returns-in_default-clause-was : goal.returns-in_default-clause-was
returns-in_default-clause-was c = sym (none_has is_loose 0 c.args.slots.now (sym c.loose_place.ensures.first ∙ c.in_default.is))

pub returns-clause-slots : goal.returns-clause-slots
returns-clause-slots c =
    changes is_loose (held_as c.args.claim) c.args.slots.now c.in-Some.place c.hold.new.self c.index-slots-place.result
    (sym c.loose_place.ensures.first ∙ c.in-Some.is) c.hold.ensures
    ∙ hold_loose-first c.args.claim c.args.slots.now

pub returns-clause-was : goal.returns-clause-was
returns-clause-was c = sym (some_has is_loose 0 c.in-Some.place c.args.slots.now (sym c.loose_place.ensures.first ∙ c.in-Some.is))
