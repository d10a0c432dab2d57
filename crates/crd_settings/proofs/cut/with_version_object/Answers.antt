use Rattle.crd_settings.proofs.Texts.{next, reads, object-text}
use Rattle.crd_settings.proofs.cut.with_version_object.Goals as goal

pub returns : goal.returns
returns c = reads _ (λ m. object-text _) (next (next c.in_ok-begun.ensures c.in_ok-inside.ensures) c.in_ok-ended.ensures)
