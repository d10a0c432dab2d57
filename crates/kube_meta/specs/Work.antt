-- The work of a worker: what a claim on keys of the running migration comes to.
use Rattle.std.specs.Prelude.{ℕ, List, Option, None, Some}
use Rattle.kube_meta.specs.Plan.{Span, Slot, Migration, running, span_of}

-- a claim that is in a held slot of the running migration: its number, its span, and the migration's target
pub record Work : Type 0 where
  pub claim : ℕ
  pub span : Span
  pub target : ℕ

abbrev pub work_in : ℕ → ℕ → Option Span → Option Work
work_in c target None = None
work_in c target (Some r) = Some (record { claim = c; span = r; target = target })

abbrev pub work_under : Option Migration → ℕ → List Slot → Option Work
work_under None c slots = None
work_under (Some m) c slots = work_in c m.target (span_of c slots)

-- a claim that isn't in a held slot of the running migration has none
abbrev pub work_of : Option ℕ → List Migration → List Slot → Option Work
work_of None ms slots = None
work_of (Some c) ms slots = work_under (running ms) c slots
