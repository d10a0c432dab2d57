use Rattle.std.proofs.Common.{rules, ◌≡◌, ap, sym, ◌∙◌, List, length}
use Rattle.std.proofs.lemmas.List.{with_items_is}
use Rattle.kube_meta.specs.Plan.{Slot, Migration, Loose, changed, running, span_of}
use Rattle.migrate_core.specs.View.{MigrationsView}
use Rattle.migrate_core.specs.Moves.{work_of, after_give_back}
use Rattle.migrate_core.proofs.Plans.{seen, copied_is_some, given_back}
use Rattle.migrate_core.proofs.migrations.Migrations.give_back.Goals as goal

pub returns-clause-plan : goal.returns-clause-plan
returns-clause-plan c =
    let v = c.self.inside in
    let run = sym (copied_is_some c.running.result _ (c.running.ensures ∙ ap (λ (t : List Migration). running t) c.deref.ensures.value)) ∙ c.if-is_none.ensures in
    let held = sym (copied_is_some c.range_of.result _ (c.range_of.ensures ∙ ap (λ (t : List Slot). span_of c.in-Some.claim t) c.deref-2.ensures.value)) ∙ c.if-is_none-2.ensures in
    let slots = c.loosen.ensures ∙ ap (λ (t : List Slot). changed (λ r. Loose r) c.in-Some.claim t) c.deref_mut.ensures.value in
    let long : length c.loosen.new.slots ≡ v.slots.len = search rules in
    let same = with_items_is v.slots c.loosen.new.slots long in
    ap (λ (t : List Slot). seen v.items.items v.limit v.cursor t v.last) (same ∙ slots)
    ∙ given_back c.args.w.now.claim c.in-Some.claim (seen v.items.items v.limit v.cursor v.slots.items v.last) (sym c.in-Some.ensures.value) run held
    ∙ ap (λ (t : MigrationsView). after_give_back (work_of c.args.w.now.claim t) t) c.self.view_is
