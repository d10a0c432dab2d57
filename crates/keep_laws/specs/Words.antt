-- When an object is whole, in the words of its entries.
use Rattle.std.specs.Prelude.{◌≡◌, List, [], ◌∷◌, true, ◌⊎◌}
use Rattle.kj_value.specs.Fields.{Pairs}
use Rattle.kept_entries.specs.declared.entry.Entry.{Entry}
use Rattle.kept_entries.specs.Entry.{are_in_order}
use Rattle.hub_cells.specs.Side.{Side}
use Rattle.hub_cells.specs.Level.{Level}
use Rattle.keep_laws.specs.Known.{IsRising, IsKnown}
use Rattle.keep_laws.specs.Settle.{IsAllowed}
use Rattle.keep_laws.specs.Alive.{AliveAt}
use Rattle.keep_laws.specs.Whole.{Held, marks_of}

abbrev pub Has : Entry → List Entry → Type 0
Has e [] = ⊥
Has e (f ∷ fs) = (e ≡ f) ⊎ Has e fs

-- the names of each part rise
abbrev pub Parts : List Entry → Type 0
Parts es = (e : Entry) → Has e es → IsRising e.was

abbrev pub AllAlive : Side → Level → Pairs → List Entry → Type 0
AllAlive d l x es = (e : Entry) → Has e es → AliveAt d l x es e.at e.was

-- every name of the body is known, every tuple allowed, and the entries are in order and all alive
pub record IsSettledObject (d : Side) (l : Level) (x : Held) : Type 0 where
  pub known : IsKnown d l x.fields
  pub allowed : IsAllowed d l (marks_of d l x)
  pub parts : Parts x.entries
  pub order : are_in_order x.entries ≡ true
  pub alive : AllAlive d l x.fields x.entries
