use Rattle.std.proofs.Common.{sym, ◌∙◌}
use Rattle.kube_meta.specs.Plan.{Held, is_free}
use Rattle.migrate_core.proofs.Changes.{changes, stays, hold_free-first}
use Rattle.migrate_core.proofs.slots.hold_free.Goals as goal

pub returns-in-Some : goal.returns-in-Some
returns-in-Some c =
    changes is_free (λ s. Held c.args.claim c.args.range) c.args.slots.now c.in-Some.place c.take.new.self c.index-slots-place.result
    (sym c.free_place.ensures.first ∙ c.in-Some.is) c.take.ensures
    ∙ hold_free-first c.args.claim c.args.range c.args.slots.now

pub returns-in_default : goal.returns-in_default
returns-in_default c =
    stays is_free (λ s. Held c.args.claim c.args.range) c.args.slots.now (sym c.free_place.ensures.first ∙ c.in_default.is)
    ∙ hold_free-first c.args.claim c.args.range c.args.slots.now
