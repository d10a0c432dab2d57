-- Which of some things with keys stand at a version, and which elsewhere.
use Rattle.std.specs.Prelude.{ℕ, not, ◌&&◌, List, [], ◌∷◌, Option, None, Some, nat_eq, if◌then◌else◌}
use Rattle.kube_meta.specs.Key.{KeyView}
use Rattle.kube_meta.specs.Plan.{Span, in_span}

-- the key of the first one that stands at a version
abbrev pub first_at : {X : Type 0} → (X → ℕ) → (X → KeyView) → ℕ → List X → Option KeyView
first_at at key v [] = None
first_at at key v (x ∷ xs) = if nat_eq (at x) v then Some (key x) else first_at at key v xs

-- the first one of a span that stands elsewhere
abbrev pub elsewhere : {X : Type 0} → (X → ℕ) → (X → KeyView) → Span → ℕ → List X → Option X
elsewhere at key r v [] = None
elsewhere at key r v (x ∷ xs) = if in_span r (key x) && not (nat_eq (at x) v) then Some x else elsewhere at key r v xs
