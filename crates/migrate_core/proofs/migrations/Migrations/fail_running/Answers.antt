use Rattle.std.proofs.Common.{rules, ◌≡◌, ap, sym, ◌∙◌, List, length, is_some, replicate}
use Rattle.std.proofs.lemmas.List.{with_items_is}
use Rattle.std.specs.Vec.{with_items}
use Rattle.kube_meta.specs.declared.limits.Condition.TheVariants.{Failed}
use Rattle.kube_meta.specs.Plan.{Bound, Start, Slot, Free, Migration, running, ended, slot_count}
use Rattle.migrate_core.specs.Moves.{after_fail}
use Rattle.migrate_core.proofs.Plans.{seen, failed}
use Rattle.migrate_core.proofs.migrations.Migrations.fail_running.Goals as goal

pub returns-clause-plan : goal.returns-clause-plan
returns-clause-plan c =
    let v = c.self.inside in
    let run = sym (c.if-not-end.ensures.was ∙ ap (λ (t : List Migration). is_some (running t)) c.deref_mut.ensures.value) in
    let items = c.end.ensures.items ∙ ap (λ (t : List Migration). ended Failed t) c.deref_mut.ensures.value in
    let long : length c.end.new.items ≡ v.items.len = search rules in
    let same = with_items_is v.items c.end.new.items long in
    let count : length c.deref_mut-2.result.now ≡ slot_count = c.deref_mut-2.ensures.len ∙ c.self.invariant.0 in
    let slots = c.clear_all.ensures ∙ ap (λ n. replicate n Free) count in
    let long-2 : length c.clear_all.new.slots ≡ v.slots.len = search rules in
    let same-2 = with_items_is v.slots c.clear_all.new.slots long-2 in
    ap (λ (t : List Migration). seen t v.limit c.start-self-inside.result (with_items v.slots c.clear_all.new.slots).items v.last) (same ∙ items)
    ∙ ap (λ (t : Bound). seen (ended Failed v.items.items) v.limit t (with_items v.slots c.clear_all.new.slots).items v.last) c.start-self-inside.ensures
    ∙ ap (λ (t : List Slot). seen (ended Failed v.items.items) v.limit Start t v.last) (same-2 ∙ slots)
    ∙ failed v.items.items v.limit v.last v.cursor v.slots.items run
    ∙ ap after_fail c.self.view_is
