use Rattle.std.proofs.Common.{ℕ, List, ◌++◌, ap, sym, subst, ◌∙◌}
use Rattle.std.proofs.lemmas.List.{append-nil, drop_all}
use Rattle.std.specs.Prelude.{string_bytes}
use Rattle.kube_meta.specs.Plan.{Migration}
use Rattle.call_texts.specs.PageTexts.{Adds, joined_from}
use Rattle.setting_texts.specs.inner.SettingTexts.{migration_text}
use Rattle.setting_texts.proofs.Joined.{joined-step}
use Rattle.setting_texts.proofs.migrations.add_migrations.Goals as goal

pub loop-i-preserved : goal.loop-i-preserved
loop-i-preserved g c =
    let m = g.V.Versions.meaning c.args.lent.now.versions.now in
    joined-step (migration_text m) c.args.items.now c.loop-i.i c.index-items-i.result (string_bytes c.loop-i.text) (string_bytes c.add.new.text) (string_bytes c.add_migration.new.text) _ c.loop-i-test.true c.index-items-i.is
    (subst (λ (b : List ℕ). Adds (string_bytes c.loop-i.text) b (string_bytes c.add.new.text)) c.comma_before.ensures c.in_ok-add.ensures) c.in_ok-add_migration.ensures c.loop-i.invariant

pub returns : goal.returns
returns g c =
    let m = g.V.Versions.meaning c.args.lent.now.versions.now in
    let made = string_bytes c.loop-i.text in
    record {
      text = sym (append-nil made) ∙ ap (λ (xs : List Migration). made ++ joined_from (migration_text m) c.loop-i.i xs) (sym (drop_all c.loop-i.i c.args.items.now c.loop-i-test.false)) ∙ c.loop-i.invariant;
    }
