use Rattle.api_calls.proofs.StartBodies.{one_name, never_both, always_one}
use Rattle.api_calls.proofs.laws.start_decided.Goals as goal

pub returns-clause-one : goal.returns-clause-one
returns-clause-one g c = λ it body n k. one_name c.one_reading.ensures (g.V.Means.meaning it) body n k

pub returns-clause-excludes : goal.returns-clause-excludes
returns-clause-excludes g c = λ it body name f. never_both c.one_reading.ensures (g.V.Means.meaning it) body name f

pub returns-clause-complete : goal.returns-clause-complete
returns-clause-complete g c = λ it body. always_one c.one_reading.ensures (g.V.Means.meaning it) body
