use Rattle.std.proofs.Common.{◌≢◌, ◌<◌, ℕ}
use Rattle.crd_meaning.specs.Definition.{version_at}
use Rattle.hook_versions.proofs.names.find.Given as goal

-- none of the versions before has the name
abbrev pub invariant-loop-v : goal.invariant-loop-v
invariant-loop-v l = (u : ℕ) → u < l.v → (version_at l.fn.set u).name ≢ l.fn.wanted
