use Rattle.std.proofs.Common.{◌∙◌}
use Rattle.api_calls.proofs.StoredBytes.{stored_bytes, same_generation}
use Rattle.api_calls.proofs.versions.stored_fits.Goals as goal

pub returns-clause-form : goal.returns-clause-form
returns-clause-form g c = λ it v w n h x is known pairs weighs counts.
    stored_bytes (g.V.Versions.meaning it) v w n h x (g.met.V.Versions.stand it) is known pairs weighs counts

pub returns-clause-hub : goal.returns-clause-hub
returns-clause-hub g c = λ it v w n h x honest is known pairs weighs counts.
    stored_bytes (g.V.Versions.meaning it) v w n h x (g.met.V.Versions.stand it) is known pairs weighs
    (same_generation (g.V.Versions.meaning it) v h x (g.met.V.Versions.unstamped it) (g.met.V.Versions.one_to_one it honest) is known pairs ∙ counts)
