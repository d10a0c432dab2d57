-- How the gate of a worker in a thread answers.
use Rattle.std.specs.Prelude.{◌≡◌, ◌≢◌, ◌⊎◌, ◌*◌, ℕ, min, Bool, true, false}
use Rattle.shared_api.specs.declared.step.TurnStep.{TurnStep}
use Rattle.shared_api.specs.declared.step.TurnStep.TheVariants.{Idle}

-- so many milliseconds a worker rests at most: the one that watches, and another, which a bell wakes
abbrev pub most_rest : Bool → ℕ
most_rest true = 100
most_rest false = 1000

-- Where the turn before did something the next rest takes 2 milliseconds. Else the gate rested, and the next rest takes twice as long, and
-- no longer than the most, where the bell wasn't rung since it was last heard; or 2 again where it was. It did not only where it says no.
-- `heard` and `now` are how often the bell was rung as the gate heard it before and hears it now.
pub record Rests (last : TurnStep) (most before after heard now : ℕ) (may : Bool) : Type 0 where
  pub begins : ¬ (last ≡ Idle) → after ≡ 2
  pub grows : last ≡ Idle → ((after ≡ min (before * 2) most) × (now ≡ heard)) ⊎ ((after ≡ 2) × (now ≢ heard)) ⊎ ((after ≡ before) × (may ≡ false))

-- where it says no it saw that its flag is up, of which nothing tells but a look at a flag that is up
abbrev pub Shows : Bool → Bool → Type 0
Shows true up = Unit {0}
Shows false up = up ≡ true
