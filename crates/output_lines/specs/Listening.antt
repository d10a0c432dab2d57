-- What is told of where a server listens.
use Rattle.std.specs.Prelude.{◌≡◌, ◌⊎◌, ◌++◌, ℕ, List, Option, codes}
use Rattle.std.specs.Io.KnownBytes.{append_known}
use Rattle.edge_io.specs.Sends.{AddsSome}
use Rattle.output_lines.specs.Lines.{ended_line}
use Rattle.output_lines.specs.declared.listening.Unserved.{Unserved}
use Rattle.output_lines.specs.declared.listening.Unserved.TheVariants.{NotListening, WriteFailed, NoMemory}

-- the line that names a place
abbrev pub listening_line : List ℕ → List ℕ
listening_line place = codes "listening on " ++ ended_line place

-- it was told at which place connections come
pub record Told (before written : Option (List ℕ)) : Type 0 where
  pub place : List ℕ
  pub wrote : written ≡ append_known before (listening_line place)

-- a front of that was written
pub record ToldSome (before written : Option (List ℕ)) : Type 0 where
  pub place : List ℕ
  pub front : AddsSome before written (listening_line place)

-- it was told, and handed on
abbrev pub Announced : Option (List ℕ) → Option (List ℕ) → Option (List ℕ) → Type 0
Announced before written flushed = Told before written × (flushed ≡ written)

-- a front of the line that names a place, or all of it, where the place is such a one
pub record Names (may : List ℕ → Type 0) (before written : Option (List ℕ)) : Type 0 where
  pub place : List ℕ
  pub is : may place
  pub front : AddsSome before written (listening_line place)

-- nothing was written, or that
abbrev pub NamesPlace : (List ℕ → Type 0) → Option (List ℕ) → Option (List ℕ) → Type 0
NamesPlace may before written = (written ≡ before) ⊎ Names may before written

-- ---- how it isn't told

-- where it doesn't listen, P holds
abbrev pub OnUnheard : Type 0 → Unserved → Type 0
OnUnheard P NotListening = P
OnUnheard P WriteFailed = Unit {0}
OnUnheard P NoMemory = Unit {0}

-- where it couldn't be told where it listens, P holds
abbrev pub OnUntold : Type 0 → Unserved → Type 0
OnUntold P WriteFailed = P
OnUntold P NotListening = Unit {0}
OnUntold P NoMemory = Unit {0}

-- what was written where serving ended so: nothing, a front of what is told, or all of that
abbrev pub Silent : Type 0 → Type 0 → Type 0 → Unserved → Type 0
Silent same some told NotListening = same ⊎ told
Silent same some told WriteFailed = some
Silent same some told NoMemory = same ⊎ told
