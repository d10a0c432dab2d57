use Rattle.std.proofs.Common.{◌∙◌, sym}
use Rattle.edge_io.proofs.Fronts.{copied_front}
use Rattle.edge_io.proofs.sure.SureSourceSource.read.Goals as goal

pub returns-clause-bytes : goal.returns-clause-bytes
returns-clause-bytes c =
    rw (← c.self.view_is) (copied_front c.self.inside.bytes.items _ _ c.self.inside.taken _ (c.left-2.ensures ∙ sym c.self.view_is) c.copy_front.ensures)
