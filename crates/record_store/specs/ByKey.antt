-- The place of a key in a list by rising key.
use Rattle.std.specs.Prelude.{ℕ, suc, List, [], ◌∷◌, Option, Result, Ok, Err, filter, not}
use Rattle.std.specs.Ordering.{match_ordering}
pub use Rattle.kj_value.specs.Fields.{next}
use Rattle.kube_meta.specs.Key.{KeyView, key_cmp}
use Rattle.kube_meta.specs.Page.{bound_after}
use Rattle.kube_meta.specs.Plan.{passed}
pub use Rattle.kube_meta.specs.ByKey.{IsBelowFirst, KeysRise, find, put, without}

-- ---- for private clauses: the place of the key, as `Ok`, or the place where it would go, as `Err`

abbrev pub place : KeyView → List KeyView → Result ℕ ℕ
place k [] = Err 0
place k (l ∷ ls) = match_ordering (key_cmp k l) (Err 0) (Ok 0) (next (place k ls))

-- how many keys are at or before the one whose place this is
abbrev pub place_behind : Result ℕ ℕ → ℕ
place_behind (Ok i) = suc i
place_behind (Err i) = i

-- the things behind a key, or all
abbrev pub all_behind : {X : Type 0} → (X → KeyView) → Option KeyView → List X → List X
all_behind key after xs = filter (λ x. not (passed (bound_after after) (key x))) xs
