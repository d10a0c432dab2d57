-- The calls of an object in memory: how many there were, the numbers of those that are to fail, and how many failed.
use Rattle.std.specs.Prelude.{ℕ, ◌+◌, ◌-◌, ◌^◌, min, List, Contains}

-- `failing` counts calls from 0
pub record Calls : Type 0 where
  pub made : ℕ
  pub failing : List ℕ
  pub faults : ℕ

-- one more, up to a counter's last value
abbrev pub one_more : ℕ → ℕ
one_more n = min (n + 1) (2 ^ 64 - 1)

-- the next call is one of those that are to fail
abbrev pub IsListed : Calls → Type 0
IsListed calls = Contains calls.failing calls.made

-- the calls after one that answered otherwise than `Failed`
abbrev pub answered : Calls → Calls
answered calls = record { made = one_more calls.made; failing = calls.failing; faults = calls.faults }

-- the calls after one that answered `Failed`
abbrev pub failed : Calls → Calls
failed calls = record { made = one_more calls.made; failing = calls.failing; faults = one_more calls.faults }
