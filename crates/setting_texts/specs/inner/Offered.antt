-- The served versions, put in the order of their priority one after another.
use Rattle.std.specs.Prelude.{ℕ, suc, zero, List, [], ◌∷◌, if◌then◌else◌}
use Rattle.std.specs.Ordering.{is_gt}
use Rattle.api_calls.specs.Meaning.{Meaning}
use Rattle.api_calls.specs.Priority.{priority_cmp}
use Rattle.api_calls.specs.State.{served}
use Rattle.api_calls.specs.declared.flags.Flags.{Flags}

-- how many of the versions are to be preferred to one, before the first that isn't
abbrev pub rank_of : Meaning → ℕ → List ℕ → ℕ
rank_of m v [] = 0
rank_of m v (w ∷ ws) = if is_gt (priority_cmp (m.name v) (m.name w)) then suc (rank_of m v ws) else 0

-- a version at its rank
abbrev pub ranked_with : Meaning → ℕ → List ℕ → List ℕ
ranked_with m v [] = v ∷ []
ranked_with m v (w ∷ ws) = if is_gt (priority_cmp (m.name v) (m.name w)) then w ∷ ranked_with m v ws else v ∷ w ∷ ws

-- the served versions below a place
abbrev pub ranked_below : Meaning → Flags → ℕ → List ℕ
ranked_below m f zero = []
ranked_below m f (suc v) = if served f v then ranked_with m v (ranked_below m f v) else ranked_below m f v
