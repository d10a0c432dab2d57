-- Connections: what one begins with, what it comes to, and the lists that tell them.
use Rattle.std.specs.Prelude.{◌≡◌, ◌≢◌, ℕ, List, [], ◌∷◌, ◌++◌, AllPairs, Option, Some, None, IfSome, MatchOption}

-- a connection's number, and the bytes that its source held at first
pub record Origin : Type 0 where
  pub number : ℕ
  pub bytes : List ℕ

-- a connection that is closed: its origin, where that is told, how often its source and its sink failed, and the
-- bytes that were written to it and those of them that were handed on, where they are told
pub record Ending : Type 0 where
  pub origin : Option Origin
  pub read_faults : ℕ
  pub write_faults : ℕ
  pub written : Option (List ℕ)
  pub flushed : Option (List ℕ)

-- no two have one number
abbrev pub NumbersDiffer : List Origin → Type 0
NumbersDiffer origins = AllPairs (λ a b. a.number ≢ b.number) origins

-- a list, where it is told, has one more item at its end
abbrev pub AddsOne : {A : Type 0} → Option (List A) → Option (List A) → A → Type 0
AddsOne before now item = MatchOption before (now ≡ None) (λ items. now ≡ Some (items ++ item ∷ []))

-- where the list of origins is told, so is this one's, and the list has it at its end
abbrev pub HandsOut : Option (List Origin) → Option (List Origin) → Option Origin → Type 0
HandsOut before now origin = MatchOption before (now ≡ None) (λ items. (o : Origin) × (origin ≡ Some o) × (now ≡ Some (items ++ o ∷ [])))

-- all of the origin's bytes are left
abbrev pub HasAllLeft : Option Origin → Option (List ℕ) → Type 0
HasAllLeft origin left = IfSome origin (λ o. left ≡ Some o.bytes)

-- the sink has the origin's number
abbrev pub HasNumberOf : Option Origin → Option ℕ → Type 0
HasNumberOf origin number = IfSome origin (λ o. number ≡ Some o.number)

-- the numbers are equal, where they are told
abbrev pub NumbersAgree : Option Origin → Option ℕ → Type 0
NumbersAgree origin number = IfSome origin (λ o. IfSome number (λ n. o.number ≡ n))

-- what was written to a sink was handed on, unless the sink failed
abbrev pub IsHandedOn : ℕ → Option (List ℕ) → Option (List ℕ) → Type 0
IsHandedOn faults written flushed = faults ≡ 0 → flushed ≡ written
