-- A window over dated records: the newest that fit into two limits, and the number above which all are known. A record has a number, and a weight in chunks of 256 bytes; they stand in the order of their numbers.
use Rattle.std.specs.Prelude.{◌≡◌, ℕ, ◌+◌, ◌≤◌, ◌<◌, Bool, true, not, ◌&&◌, List, [], ◌∷◌, length, filter, nat_lt, if◌then◌else◌}
use Rattle.kube_meta.specs.declared.limits.Limits.{Limits}

-- the weights, together
abbrev pub weights : {X : Type 0} → (X → ℕ) → List X → ℕ
weights weight [] = 0
weights weight (x ∷ xs) = weight x + weights weight xs

-- so many records, and so heavy ones, may stand in the window
abbrev pub fits : {X : Type 0} → (X → ℕ) → Limits → List X → Bool
fits weight limits xs = not (nat_lt limits.window_records (length xs)) && not (nat_lt limits.window_chunks (weights weight xs))

-- the newest that fit, what came first being first
abbrev pub newest : {X : Type 0} → (X → ℕ) → Limits → List X → List X
newest weight limits [] = []
newest weight limits (x ∷ xs) = if fits weight limits (x ∷ xs) then x ∷ xs else newest weight limits xs

-- the number of the last record that doesn't fit any more, and f where all fit
abbrev pub floor_from : {X : Type 0} → (X → ℕ) → (X → ℕ) → Limits → ℕ → List X → ℕ
floor_from number weight limits f [] = f
floor_from number weight limits f (x ∷ xs) = if fits weight limits (x ∷ xs) then f else floor_from number weight limits (number x) xs

-- those with a number above f
abbrev pub above : {X : Type 0} → (X → ℕ) → ℕ → List X → List X
above number f xs = filter (λ x. nat_lt f (number x)) xs

-- the least number, at least 1, such that what is numbered above it fits
pub record IsFloor {X : Type 0} (number weight : X → ℕ) (limits : Limits) (xs : List X) (f : ℕ) : Type 0 where
  pub one : 1 ≤ f
  pub room : fits weight limits (above number f xs) ≡ true
  pub least : (g : ℕ) → 1 ≤ g → fits weight limits (above number g xs) ≡ true → f ≤ g

-- numbers rise, from above f
abbrev pub RisesFrom : {X : Type 0} → (X → ℕ) → ℕ → List X → Type 0
RisesFrom number f [] = Unit {0}
RisesFrom number f (x ∷ xs) = (f < number x) × RisesFrom number (number x) xs
