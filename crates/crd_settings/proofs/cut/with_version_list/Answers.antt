use Rattle.crd_settings.proofs.Texts.{next, reads, list-text}
use Rattle.crd_settings.proofs.cut.with_version_list.Goals as goal

pub returns : goal.returns
returns c = reads _ (λ m. list-text _) (next (next c.in_ok-begun.ensures c.in_ok-inside.ensures) c.in_ok-ended.ensures)
