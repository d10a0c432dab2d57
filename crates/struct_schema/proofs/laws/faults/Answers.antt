use Rattle.struct_schema.proofs.Agrees.{agreement}
use Rattle.struct_schema.proofs.laws.faults.Goals as goal

pub returns : goal.returns
returns c = agreement
