use Rattle.std.proofs.Common.{rules, ◌≡◌, ap, sym, ◌∙◌, List, length, None, Some}
use Rattle.std.proofs.lemmas.List.{with_items_is}
use Rattle.kube_meta.specs.Plan.{Slot, Migration, Free, changed, running, span_of}
use Rattle.migrate_core.specs.View.{MigrationsView}
use Rattle.migrate_core.specs.Rows.{elsewhere}
use Rattle.migrate_core.specs.Moves.{work_of, after_advance}
use Rattle.migrate_core.proofs.Plans.{seen, advanced}
use Rattle.migrate_core.proofs.migrations.Migrations.advance.Goals as goal

pub returns-clause-plan : goal.returns-clause-plan
returns-clause-plan g c =
    let v = c.self.inside in
    let rows = g.R.Records.rows c.args.records.now in
    let run : Some c.in-Some-running.item.now ≡ running v.items.items = c.in-Some-running.ensures ∙ ap (λ (t : List Migration). running t) c.deref.ensures.value in
    let held : Some c.in-Some-range_of.range.now ≡ span_of c.in-Some.claim v.slots.items = c.in-Some-range_of.ensures ∙ ap (λ (t : List Slot). span_of c.in-Some.claim t) c.deref-2.ensures.value in
    let none : elsewhere c.in-Some-range_of.range.now c.in-Some-running.item.now.target rows ≡ None =
    ap (λ t. elsewhere c.in-Some-range_of.range.now t rows) (sym c.target-target.ensures) ∙ sym c.first_elsewhere.ensures ∙ c.in_default-first_elsewhere.is in
    let slots = c.clear.ensures ∙ ap (λ (t : List Slot). changed (λ r. Free) c.in-Some.claim t) c.deref_mut.ensures.value in
    let long : length c.clear.new.slots ≡ v.slots.len = search rules in
    let same = with_items_is v.slots c.clear.new.slots long in
    ap (λ (t : List Slot). seen v.items.items v.limit v.cursor t v.last) (same ∙ slots)
    ∙ advanced c.args.w.now.claim c.in-Some.claim c.in-Some-running.item.now c.in-Some-range_of.range.now (seen v.items.items v.limit v.cursor v.slots.items v.last) rows c.in-Some.is run held none
    ∙ ap (λ (t : MigrationsView). after_advance (work_of c.args.w.now.claim t) rows t) c.self.view_is
