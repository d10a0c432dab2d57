use Rattle.body_laws.proofs.Cells.{functions_cell}
use Rattle.body_laws.proofs.cell_laws.any_functions.Goals as goal

pub returns : goal.returns
returns c = functions_cell
