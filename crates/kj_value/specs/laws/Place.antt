-- What the place alone tells of a search.
use Rattle.std.proofs.Common.{◌≡◌, ℕ, Some, None, Result, Ok, Err, refl}
use Rattle.kj_value.specs.Fields.{place}

pub place_hit : (r : Result ℕ ℕ) (i : ℕ) → Some i ≡ place r → Ok i ≡ r
place_hit (Ok j) i e = cc
place_hit (Err j) i e = cc

pub place_miss : (r : Result ℕ ℕ) → None ≡ place r → (i : ℕ) × (Err i ≡ r)
place_miss (Ok j) e = cc
place_miss (Err j) e = (j, refl)
