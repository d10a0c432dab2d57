-- The numbers of a window go on rising.
use Rattle.std.proofs.Common.{ℕ, ◌≤◌, ◌<◌, List, [], ◌∷◌, ◌++◌, Bool, true, false}
use Rattle.std.specs.Prelude.{if◌then◌else◌}
use Rattle.std.specs.List.{AllByRecursion as Each}
use Rattle.kube_meta.specs.Window.{fits, newest, floor_from, RisesFrom}
use Rattle.kube_meta.specs.declared.limits.Limits.{Limits}

module _ {X : Type 0} (number weight : X → ℕ) (limits : Limits) where
  pub rises-push : (f : ℕ) (xs : List X) (y : X) → RisesFrom number f xs → f < number y → Each (λ x. number x < number y) xs → RisesFrom number f (xs ++ y ∷ [])
  rises-push f [] y h first later = (first, tt)
  rises-push f (x ∷ xs) y h first later = (h.0, rises-push (number x) xs y h.1 later.0 later.1)

  pub rises-newest : (f : ℕ) (xs : List X) → RisesFrom number f xs → RisesFrom number (floor_from number weight limits f xs) (newest weight limits xs)
  rises-newest f [] h = tt
  rises-newest f (x ∷ xs) h = by (fits weight limits (x ∷ xs)) (rises-newest (number x) xs h.1)
    where
      by : (b : Bool) → RisesFrom number (floor_from number weight limits (number x) xs) (newest weight limits xs)
          → RisesFrom number (if b then f else floor_from number weight limits (number x) xs) (if b then x ∷ xs else newest weight limits xs)
      by true more = h
      by false more = more

  pub each-newest : (P : X → Type 0) (xs : List X) → Each P xs → Each P (newest weight limits xs)
  each-newest P [] h = tt
  each-newest P (x ∷ xs) h = by (fits weight limits (x ∷ xs)) (each-newest P xs h.1)
    where
      by : (b : Bool) → Each P (newest weight limits xs) → Each P (if b then x ∷ xs else newest weight limits xs)
      by true more = h
      by false more = more

  pub floor-le : (m f : ℕ) (xs : List X) → f ≤ m → Each (λ x. number x ≤ m) xs → floor_from number weight limits f xs ≤ m
  floor-le m f [] le h = le
  floor-le m f (x ∷ xs) le h = by (fits weight limits (x ∷ xs)) (floor-le m (number x) xs h.0 h.1)
    where
      by : (b : Bool) → floor_from number weight limits (number x) xs ≤ m → (if b then f else floor_from number weight limits (number x) xs) ≤ m
      by true more = le
      by false more = more
