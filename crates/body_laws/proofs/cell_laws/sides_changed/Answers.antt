use Rattle.body_laws.proofs.Cells.{turned_cell}
use Rattle.body_laws.proofs.cell_laws.sides_changed.Goals as goal

pub returns : goal.returns
returns c = turned_cell
