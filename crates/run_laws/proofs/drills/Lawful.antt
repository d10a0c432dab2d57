-- What a definition keeps whose requests have one reply each.
use Rattle.std.specs.Prelude.{◌≡◌, List, ℕ, IsTrue}
use Rattle.api_calls.specs.Bodies.{RefusesStart, Starts}
use Rattle.api_calls.specs.Meaning.{Meaning, Fault}
use Rattle.api_calls.specs.Versions.{AdmitsWhole, DecidesAdmission, DecidesBodies, IgnoresStamps, IsOneToOne, NamesDiffer, Stand}
use Rattle.api_calls.specs.declared.flags.Flags.{Flags}

pub record Lawful (m : Meaning) : Type 0 where
  pub honest : IsTrue m.honest
  pub admitted : AdmitsWhole m
  pub decides : DecidesAdmission m
  pub one : IsOneToOne m
  pub unstamped : IgnoresStamps m
  pub stands : Stand m
  pub flags : DecidesBodies Flags m.sets m.refuses_flags
  pub names : NamesDiffer m
  pub starts : (body n k : List ℕ) → Starts m body n → Starts m body k → n ≡ k
  pub never_both : (body name : List ℕ) (f : Fault) → Starts m body name → RefusesStart m body f → ⊥
