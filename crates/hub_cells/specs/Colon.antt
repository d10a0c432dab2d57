-- A text and its last colon (58).
use Rattle.std.specs.Prelude.{ℕ, List, [], ◌∷◌, Bool, false, cond, ◌==◌, ◌||◌, Option, Some, None}

abbrev pub has_colon : List ℕ → Bool
has_colon [] = false
has_colon (x ∷ xs) = (x == 58) || has_colon xs

-- what stands before the last colon, and what stands after it
abbrev pub before_more : ℕ → List ℕ → Option (List ℕ × List ℕ) → Option (List ℕ × List ℕ)
before_more x xs (Some p) = Some (x ∷ p.0, p.1)
before_more x xs None = cond (x == 58) (Some ([], xs)) None

abbrev pub at_colon : List ℕ → Option (List ℕ × List ℕ)
at_colon [] = None
at_colon (x ∷ xs) = before_more x xs (at_colon xs)
