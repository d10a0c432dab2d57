use Rattle.record_region.proofs.OwnChunks.{pieces_apart, free_apart}
use Rattle.record_region.proofs.laws.apart.Goals as goal

pub returns-clause-pieces : goal.returns-clause-pieces
returns-clause-pieces c = pieces_apart

pub returns-clause-spare : goal.returns-clause-spare
returns-clause-spare c = free_apart
