use Rattle.body_laws.proofs.Cells.{rule_is_cell}
use Rattle.body_laws.proofs.cell_laws.rules.Goals as goal

pub returns : goal.returns
returns c = rule_is_cell
