use Rattle.std.proofs.Common.{rules, ◌≡◌, true, ap, ◌∙◌, List, length}
use Rattle.std.proofs.lemmas.List.{with_items_is}
use Rattle.kube_meta.specs.declared.limits.Condition.TheVariants.{Succeeded}
use Rattle.kube_meta.specs.Plan.{Migration, is_done, ended}
use Rattle.migrate_core.specs.inner.Slots.{plan_of}
use Rattle.migrate_core.proofs.Plans.{seen, marked}
use Rattle.migrate_core.proofs.migrations.Migrations.mark.Goals as goal

pub returns-clause-plan : goal.returns-clause-plan
returns-clause-plan c =
    let done : is_done (plan_of c.self.inside.cursor c.self.inside.slots.items c.self.inside.last) ≡ true = search rules in
    let items : c.end.new.items ≡ ended Succeeded c.self.inside.items.items = search rules in
    let long : length c.end.new.items ≡ c.self.inside.items.len = search rules in
    let same = with_items_is c.self.inside.items c.end.new.items long in
    rw (← c.self.view_is)
    (ap (λ (t : List Migration). seen t c.self.inside.limit c.self.inside.cursor c.self.inside.slots.items c.self.inside.last) (same ∙ items)
    ∙ marked c.self.inside.items.items c.self.inside.limit c.self.inside.last c.self.inside.cursor c.self.inside.slots.items done)
