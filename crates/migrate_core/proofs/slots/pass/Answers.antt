use Rattle.std.proofs.Common.{sym, ◌∙◌}
use Rattle.kube_meta.specs.Plan.{Held, After}
use Rattle.migrate_core.specs.inner.Slots.{is_held_by, turned}
use Rattle.migrate_core.proofs.Changes.{changes, stays, changed-first}
use Rattle.migrate_core.proofs.slots.pass.Goals as goal

pub returns-in-Some : goal.returns-in-Some
returns-in-Some c =
    changes (is_held_by c.args.claim) (turned (λ r. Held c.args.claim (record r { after = After c.args.key }))) c.args.slots.now c.in-Some.place c.pass.new.self c.index-slots-place.result
    (sym c.place_of.ensures.first ∙ c.in-Some.is) c.pass.ensures
    ∙ changed-first (λ r. Held c.args.claim (record r { after = After c.args.key })) c.args.claim c.args.slots.now

pub returns-in_default : goal.returns-in_default
returns-in_default c =
    stays (is_held_by c.args.claim) (turned (λ r. Held c.args.claim (record r { after = After c.args.key }))) c.args.slots.now (sym c.place_of.ensures.first ∙ c.in_default.is)
    ∙ changed-first (λ r. Held c.args.claim (record r { after = After c.args.key })) c.args.claim c.args.slots.now
