use Rattle.std.proofs.Common.{rules, ◌≡◌, ◌+◌, ap, sym, ◌∙◌, List, length}
use Rattle.std.proofs.lemmas.List.{with_items_is}
use Rattle.kube_meta.specs.Plan.{Slot, Migration, running, may_claim, claimed}
use Rattle.migrate_core.specs.Rows.{keys}
use Rattle.migrate_core.specs.inner.Slots.{plan_of}
use Rattle.migrate_core.specs.Moves.{after_claim}
use Rattle.migrate_core.proofs.Plans.{copied_is_some, taken, untaken}
use Rattle.migrate_core.proofs.migrations.Migrations.claim.Goals as goal

pub returns-then-not-hold-clause-plan : goal.returns-then-not-hold-clause-plan
returns-then-not-hold-clause-plan g c =
    let v = c.self.inside in
    let rows = g.R.Records.rows c.args.records.now in
    let run = sym (copied_is_some c.running.result _ (c.running.ensures ∙ ap (λ (t : List Migration). running t) c.deref.ensures.value)) ∙ c.if-is_none.ensures in
    let may = c.if-not-hold.ensures.was ∙ ap (λ (t : List Slot). may_claim (plan_of v.cursor t (v.last + 1))) c.deref_mut.ensures.value in
    let slots = c.if-not-hold.ensures.slots ∙ c.deref_mut.ensures.value in
    let long : length c.hold.new.slots ≡ v.slots.len = search rules in
    let same = with_items_is v.slots c.hold.new.slots long in
    untaken v.items.items v.limit v.last v.cursor c.hold.new.cursor v.slots.items _ rows run may c.if-not-hold.ensures.cursor (same ∙ slots)
    ∙ ap (after_claim rows) c.self.view_is

pub returns-clause-plan : goal.returns-clause-plan
returns-clause-plan g c =
    let v = c.self.inside in
    let rows = g.R.Records.rows c.args.records.now in
    let run = sym (copied_is_some c.running.result _ (c.running.ensures ∙ ap (λ (t : List Migration). running t) c.deref.ensures.value)) ∙ c.if-is_none.ensures in
    let may = c.if-not-hold.ensures.was ∙ ap (λ (t : List Slot). may_claim (plan_of v.cursor t (v.last + 1))) c.deref_mut.ensures.value in
    let cursor = c.if-not-hold.ensures.cursor ∙ ap (λ (t : List Slot). (claimed (v.last + 1) (keys rows) (plan_of v.cursor t (v.last + 1))).cursor) c.deref_mut.ensures.value in
    let slots = c.if-not-hold.ensures.slots ∙ ap (λ (t : List Slot). (claimed (v.last + 1) (keys rows) (plan_of v.cursor t (v.last + 1))).slots) c.deref_mut.ensures.value in
    let long : length c.hold.new.slots ≡ v.slots.len = search rules in
    let same = with_items_is v.slots c.hold.new.slots long in
    taken v.items.items v.limit v.last v.cursor c.hold.new.cursor v.slots.items _ rows run may cursor (same ∙ slots) ∙ ap (after_claim rows) c.self.view_is
