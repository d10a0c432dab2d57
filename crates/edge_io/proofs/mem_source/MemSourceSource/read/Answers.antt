use Rattle.edge_io.proofs.Fronts.{copied_front}
use Rattle.edge_io.proofs.mem_source.MemSourceSource.read.Goals as goal

pub returns-clause-bytes : goal.returns-clause-bytes
returns-clause-bytes c = rw (← c.self.view_is) (copied_front _ _ _ _ _ c.left-2.ensures c.copy_front.ensures)
