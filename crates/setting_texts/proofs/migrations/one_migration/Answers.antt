use Rattle.std.proofs.Common.{◌≡◌, ◌∙◌, ap, sym, subst, List}
use Rattle.std.specs.Prelude.{IfOk, Result, Some}
use Rattle.kj_value.specs.declared.error.NoMemory.{NoMemory}
use Rattle.kube_meta.specs.Plan.{Migration, named}
use Rattle.setting_texts.specs.Migrating.{HaveTargets}
use Rattle.setting_texts.proofs.NamedMigrations.{named-reply, named-target}
use Rattle.setting_texts.proofs.migrations.one_migration.Goals as goal

pub migration_text-requires : goal.migration_text-requires
migration_text-requires g c =
    let m = g.V.Versions.meaning c.args.lent.now.versions.now in
    let found : named c.args.name.now c.in_ok-items.items ≡ Some c.in-Some.item.now = ap (λ (qs : List Migration). named c.args.name.now qs) (sym c.as_slice.ensures) ∙ sym c.in-Some.ensures in
    named-target m c.args.name.now c.in_ok-items.items c.in-Some.item.now (subst (λ (r : Result (List Migration) NoMemory). IfOk r (λ qs. HaveTargets m qs)) c.in_ok-items.was c.requires) found

pub returns : goal.returns
returns g c = λ s listed.
    let m = g.V.Versions.meaning c.args.lent.now.versions.now in
    let found : named c.args.name.now c.in_ok-items.items ≡ Some c.in-Some.item.now = ap (λ (qs : List Migration). named c.args.name.now qs) (sym c.as_slice.ensures) ∙ sym c.in-Some.ensures in
    named-reply m s c.args.name.now c.in_ok-items.items c.in-Some.item.now c.in_ok-text.text.bytes (subst (λ (r : Result (List Migration) NoMemory). IfOk r (λ qs. qs ≡ s.migrations)) c.in_ok-items.was listed) found c.in_ok-text.ensures
