-- What is so of defaults, and of what a level's names become.
use Rattle.std.specs.Prelude.{◌≡◌, ℕ, List, [], ◌∷◌, true, Option, Some, is_some, IfSome}
use Rattle.kj_value.specs.Json.{Json}
use Rattle.struct_schema.specs.Shape.{own}
use Rattle.hub_cells.specs.Side.{Side, hub}
use Rattle.hub_cells.specs.Cell.{one}
use Rattle.hub_cells.specs.Level.{Place, Cell, places, allowed_at, allows, have_default, can_default, Level, level, Inners, no_inner, inner}
use Rattle.hub_fills.specs.Fills.{Fills, fills, Within, nothing_within, within}

-- ---- each default is a value that its side allows

abbrev pub DefaultsAllowed : ℕ → List Place → Type 0
DefaultsAllowed n [] = Unit {0}
DefaultsAllowed n (p ∷ ps) = IfSome (own p.shape).default_value (λ j. allowed_at n p (Some j) ≡ true) × DefaultsAllowed n ps

abbrev pub CellsAllow : List Cell → Type 0
CellsAllow [] = Unit {0}
CellsAllow (c ∷ cs) = ((d : Side) → DefaultsAllowed c.depth (places d c)) × CellsAllow cs

abbrev mutual
  pub AllowDefaults : Level → Type 0
  AllowDefaults (level cs is) = CellsAllow cs × AllowWithin is

  pub AllowWithin : Inners → Type 0
  AllowWithin no_inner = Unit {0}
  AllowWithin (inner a b r l is) = AllowDefaults l × AllowWithin is

-- ---- a value that a cell's name of the hub's becomes is one that the hub allows there, in a cell that can have a default;
-- and a cell has one where either side has a default

pub record IsRight (c : Cell) (v : Option Json) : Type 0 where
  pub allowed : IfSome v (λ j. allows hub c (one j) ≡ true)
  pub can : is_some v ≡ true → can_default c ≡ true
  pub set : (d : Side) → have_default (places d c) ≡ true → is_some v ≡ true

abbrev pub AreRight : List Cell → List (Option Json) → Type 0
AreRight [] vs = Unit {0}
AreRight (c ∷ cs) [] = ⊥
AreRight (c ∷ cs) (v ∷ vs) = IsRight c v × AreRight cs vs

abbrev mutual
  pub RightFills : Level → Fills → Type 0
  RightFills (level cs is) (fills vs fs) = AreRight cs vs × RightWithin is fs

  pub RightWithin : Inners → Within → Type 0
  RightWithin no_inner fs = Unit {0}
  RightWithin (inner a b r l is) nothing_within = ⊥
  RightWithin (inner a b r l is) (within f fs) = RightFills l f × RightWithin is fs
