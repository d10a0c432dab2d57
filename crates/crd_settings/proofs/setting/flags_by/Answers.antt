use Rattle.std.proofs.Common.{sym, ◌∙◌}
use Rattle.crd_settings.proofs.Compared.{few-own, legal-own}
use Rattle.crd_settings.proofs.setting.flags_by.Goals as goal

pub flags_in-requires : goal.flags_in-requires
flags_in-requires c =
    few-own c.args.definition.now _ _ c.kept.ensures (c.is_own.ensures.0 c.if-not-is_own.false) c.versions_in-versions.ensures

pub returns-clause-legal : goal.returns-clause-legal
returns-clause-legal c =
    legal-own c.args.definition.now _ _ _ c.kept.ensures (c.is_own.ensures.0 c.if-not-is_own.false) c.versions_in-versions.ensures c.flags_in.ensures
    (sym c.storages.ensures ∙ c.if-storages-ne1.false) (sym c.some_served.ensures ∙ c.if-not-some_served.false)
