use Rattle.wire_laws.proofs.chunks.Handed.{joined_read}
use Rattle.wire_laws.proofs.chunks.joined_is_read.Goals as goal

pub returns : goal.returns
returns c = λ bytes rest r reads short few. joined_read bytes rest r reads short few
