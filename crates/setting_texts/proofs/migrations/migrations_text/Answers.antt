use Rattle.std.proofs.Common.{◌≡◌, ◌<◌, ◌∙◌, ◌++◌, ap, sym, subst, List, ℕ}
use Rattle.kube_meta.specs.Plan.{Migration}
use Rattle.api_calls.specs.Documents.{by_name}
use Rattle.setting_texts.specs.Migrating.{HaveTargets}
use Rattle.call_texts.specs.PageTexts.{joined_from}
use Rattle.setting_texts.specs.inner.SettingTexts.{before_migrations, behind_migrations, migration_text}
use Rattle.setting_texts.proofs.Joined.{text_of-migrations}
use Rattle.call_texts.proofs.Pieces.{known, onward}
use Rattle.setting_texts.proofs.Sorting.{each-by_name}
use Rattle.setting_texts.proofs.migrations.migrations_text.Goals as goal

pub add_migrations-requires : goal.add_migrations-requires
add_migrations-requires g c =
    let m = g.V.Versions.meaning c.args.lent.now.versions.now in
    let sorted : c.as_slice.result.now ≡ by_name c.args.items = c.as_slice.ensures.value ∙ (c.in_ok-sort.ensures ∙ ap by_name c.into_vec-items.ensures) in
    subst (λ (qs : List Migration). HaveTargets m qs) (sym sorted) (each-by_name (λ q. q.target < m.count) c.args.items c.requires)

pub returns : goal.returns
unfolding before_migrations behind_migrations
returns g c =
    let m = g.V.Versions.meaning c.args.lent.now.versions.now in
    let sorted : c.as_slice.result.now ≡ by_name c.args.items = c.as_slice.ensures.value ∙ (c.in_ok-sort.ensures ∙ ap by_name c.into_vec-items.ensures) in
    let items = known (joined_from (migration_text m) 0 (by_name c.args.items)) (ap (λ (qs : List Migration). joined_from (migration_text m) 0 qs) sorted) c.in_ok-add_migrations.ensures in
    c.of_string.ensures
    ∙ ((onward c.in_ok-add.ensures (onward items c.in_ok-add-2.ensures)).text
    ∙ (ap (λ (t : List ℕ). t ++ (before_migrations ++ (joined_from (migration_text m) 0 (by_name c.args.items) ++ behind_migrations))) c.new-text.ensures.bytes
    ∙ sym (text_of-migrations m c.args.items)))
