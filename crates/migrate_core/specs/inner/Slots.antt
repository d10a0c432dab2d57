-- For private clauses: one slot, as a move of the plan changes it; a plan by its parts.
use Rattle.std.specs.Prelude.{ℕ, Bool, true, false, List, Option, None, Some, nat_eq}
use Rattle.kube_meta.specs.Plan.{Bound, Span, Slot, Free, Held, Loose, Plan}

abbrev pub is_held : Slot → Bool
is_held Free = false
is_held (Held d r) = true
is_held (Loose r) = false

abbrev pub is_held_by : ℕ → Slot → Bool
is_held_by c Free = false
is_held_by c (Held d r) = nat_eq d c
is_held_by c (Loose r) = false

-- a held slot becomes another
abbrev pub turned : (Span → Slot) → Slot → Slot
turned f Free = Free
turned f (Held d r) = f r
turned f (Loose r) = Loose r

-- a loose slot is held
abbrev pub held_as : ℕ → Slot → Slot
held_as c Free = Free
held_as c (Held d r) = Held d r
held_as c (Loose r) = Held c r

-- the span of a held slot
abbrev pub held_span : Slot → Option Span
held_span Free = None
held_span (Held d r) = Some r
held_span (Loose r) = None

abbrev pub plan_of : Bound → List Slot → ℕ → Plan
plan_of cursor slots last = record { cursor = cursor; slots = slots; last = last }
