-- What stands at a name in an object whose names rise.
use Rattle.std.proofs.Common.{ℕ, List, Bool, true, false, cond, Option, Some, None}
use Rattle.kj_value.specs.Json.{Json, Members, no_members, member}
use Rattle.kj_value.specs.Sound.{IsSoundJson, AreRising}
use Rattle.struct_schema.specs.Names.{is_name, value_at}

-- what stands at a name is sound
abbrev pub AtSound : Option Json → Type 0
AtSound None = Unit {0}
AtSound (Some x) = IsSoundJson x

pub at_sound : (n : List ℕ) (ms : Members) → AreRising ms → AtSound (value_at n ms)
at_sound n no_members h = tt
at_sound n (member l j ms) h = by_test (is_name n l) (at_sound n ms h.2)
  where
    by_test : (b : Bool) → AtSound (value_at n ms) → AtSound (cond b (Some j) (value_at n ms))
    by_test true q = h.1
    by_test false q = q
