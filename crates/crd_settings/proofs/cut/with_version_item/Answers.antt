use Rattle.crd_settings.proofs.Texts.{behind}
use Rattle.crd_settings.proofs.cut.with_version_item.Goals as goal

pub returns : goal.returns
returns c = behind _ _ c.comma_before.ensures c.in_ok-begun.ensures c.with_version.ensures
