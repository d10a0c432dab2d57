use Rattle.std.proofs.Common.{◌≡◌, ◌<◌, ℕ, false, bytes_eq}
use Rattle.keep_laws.specs.Spokes.{api_version}
use Rattle.crd_meaning.specs.Definition.{version_at}
use Rattle.crd_admission.proofs.naming.version_named.Given as goal

-- the text is of none of the versions before
abbrev pub invariant-loop-v : goal.invariant-loop-v
invariant-loop-v l = (u : ℕ) → u < l.v → bytes_eq l.fn.text (api_version l.fn.set.view.group (version_at l.fn.set u).name) ≡ false
