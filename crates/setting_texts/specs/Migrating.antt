-- When the targets of migrations are known.
use Rattle.std.specs.Prelude.{◌<◌, List}
use Rattle.kube_meta.specs.Plan.{Migration}
use Rattle.api_calls.specs.Legal.{Each}
use Rattle.api_calls.specs.Meaning.{Meaning}

-- migrations to versions that are known
abbrev pub HaveTargets : Meaning → List Migration → Type 0
HaveTargets m qs = Each (λ q. q.target < m.count) qs
