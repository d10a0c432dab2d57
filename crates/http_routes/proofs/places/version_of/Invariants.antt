use Rattle.std.proofs.Common.{◌≡◌, ◌<◌, ℕ}
use Rattle.http_routes.proofs.places.version_of.Given as goal

-- no version so far has the name
abbrev pub invariant-loop-v : goal.invariant-loop-v
invariant-loop-v g l = (u : ℕ) → u < l.v → (g.V.Versions.meaning l.versions).name u ≡ l.name → ⊥
