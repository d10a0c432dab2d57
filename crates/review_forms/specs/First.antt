-- The first of several things that is told.
use Rattle.std.specs.Prelude.{Bool, List, [], ◌∷◌, Option, None, Some, if◌then◌else◌}
use Rattle.std.specs.Option.{option_or}

-- told exactly where the test holds
abbrev pub told_if : {A : Type 0} → Bool → A → Option A
told_if b a = if b then Some a else None

abbrev pub first_told : {A : Type 0} → List (Option A) → Option A
first_told [] = None
first_told (o ∷ os) = option_or o (first_told os)
