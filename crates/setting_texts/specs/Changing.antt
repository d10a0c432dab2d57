-- What is shown of the flags and the stored list.
use Rattle.std.specs.Prelude.{◌≡◌, ◌<◌, ℕ, Bool, true, false, List}
use Rattle.api_calls.specs.Ends.{TrimEnd, trimmed, untrimmed, unknown, still_stored}
use Rattle.api_calls.specs.declared.flags.Flags.{Flags}

abbrev pub is_trimmed : TrimEnd → Bool
is_trimmed (trimmed f stored) = true
is_trimmed (untrimmed f stored) = false
is_trimmed (unknown v) = false
is_trimmed (still_stored v key) = false

-- where the end tells flags and a stored list, they are these
abbrev pub ShowsChange : TrimEnd → Flags → List ℕ → Type 0
ShowsChange (trimmed f stored) g vs = (f ≡ g) × (stored ≡ vs)
ShowsChange (untrimmed f stored) g vs = (f ≡ g) × (stored ≡ vs)
ShowsChange (unknown v) g vs = Unit {0}
ShowsChange (still_stored v key) g vs = Unit {0}

-- a version that has to be kept is one of so many
abbrev pub HasVersion : ℕ → TrimEnd → Type 0
HasVersion count (trimmed f stored) = Unit {0}
HasVersion count (untrimmed f stored) = Unit {0}
HasVersion count (unknown v) = Unit {0}
HasVersion count (still_stored v key) = v < count
