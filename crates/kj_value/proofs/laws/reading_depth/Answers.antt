use Rattle.std.proofs.Common.{arith}
use Rattle.kj_value.proofs.Conversion.{depth-json_of}
use Rattle.kj_value.proofs.laws.reading_depth.Goals as goal

pub returns-clause-within : goal.returns-clause-within
returns-clause-within c = λ bytes m n j r h. (r.0, r.1, omega (arith, depth-json_of r.0 j r.3, h), r.3)

pub returns-clause-depth : goal.returns-clause-depth
returns-clause-depth c = λ bytes m j r. omega (arith, depth-json_of r.0 j r.3, r.2)
