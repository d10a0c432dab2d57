use Rattle.std.proofs.Common.{rules, ◌≡◌, ap, ◌∙◌, List, sym, subst, length}
use Rattle.std.proofs.lemmas.List.{with_items_is}
use Rattle.kube_meta.specs.Key.{KeyView}
use Rattle.kube_meta.specs.Plan.{Slot, changed, Held, After}
use Rattle.migrate_core.specs.View.{MigrationsView}
use Rattle.migrate_core.specs.Moves.{IsInWork, work_of}
use Rattle.migrate_core.proofs.Plans.{seen, passed_on}
use Rattle.migrate_core.proofs.migrations.Migrations.pass_key.Goals as goal

pub returns-in-Some : goal.returns-in-Some
returns-in-Some c =
    let key : c.again.result ≡ c.args.key.now = c.again.ensures in
    let slots : c.pass.new.slots ≡ changed (λ r. Held c.in-Some.claim (record r { after = After c.args.key.now })) c.in-Some.claim c.self.inside.slots.items =
    c.pass.ensures
    ∙ ap (λ (k : KeyView). changed (λ r. Held c.in-Some.claim (record r { after = After k })) c.in-Some.claim c.deref_mut.result.now) key
    ∙ ap (λ (t : List Slot). changed (λ r. Held c.in-Some.claim (record r { after = After c.args.key.now })) c.in-Some.claim t) c.deref_mut.ensures.value in
    let long : length c.pass.new.slots ≡ c.self.inside.slots.len = search rules in
    let same = with_items_is c.self.inside.slots c.pass.new.slots long in
    let within : IsInWork c.args.key.now (work_of c.args.w.now.claim (seen c.self.inside.items.items c.self.inside.limit c.self.inside.cursor c.self.inside.slots.items c.self.inside.last)) =
    subst (λ (v : MigrationsView). IsInWork c.args.key.now (work_of c.args.w.now.claim v)) (sym c.self.view_is) c.requires in
    rw (← c.self.view_is)
    (ap (λ (t : List Slot). seen c.self.inside.items.items c.self.inside.limit c.self.inside.cursor t c.self.inside.last) (same ∙ slots)
    ∙ passed_on c.args.w.now.claim c.in-Some.claim c.args.key.now
    (seen c.self.inside.items.items c.self.inside.limit c.self.inside.cursor c.self.inside.slots.items c.self.inside.last) c.in-Some.is within)
