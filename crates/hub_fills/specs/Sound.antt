-- What is asked of the levels of all spokes at one object of the hub's.
use Rattle.std.specs.Prelude.{◌≡◌, ℕ, List, [], ◌∷◌, Option, None, Some, ◌⊎◌}
use Rattle.struct_schema.specs.Shape.{Shape}
use Rattle.hub_cells.specs.Side.{hub}
use Rattle.hub_cells.specs.Level.{Level, Fits, NoNameTwice}
use Rattle.hub_cells.specs.Fit.{Stands}
use Rattle.hub_fills.specs.Late.{NoLate}
use Rattle.hub_fills.specs.Right.{AllowDefaults}

-- the level l, to which n names of objects lead, fits the hub's schema h; its defaults are values that it allows; and none
-- of its names is late among the levels of all spokes
pub record IsAmong (n : ℕ) (h : Shape) (ms : List (Option Level)) (l : Level) : Type 0 where
  pub stands : Stands hub n h l
  pub fits : Fits l
  pub once : NoNameTwice hub l
  pub defaults : AllowDefaults l
  pub late : NoLate ms l

abbrev pub IfThere : (Level → Type 0) → Option Level → Type 0
IfThere P None = Unit {0}
IfThere P (Some l) = P l

abbrev pub EachLevel : (Level → Type 0) → List (Option Level) → Type 0
EachLevel P [] = Unit {0}
EachLevel P (m ∷ ms) = IfThere P m × EachLevel P ms

abbrev pub AreAmong : ℕ → Shape → List (Option Level) → Type 0
AreAmong n h ms = EachLevel (IsAmong n h ms) ms

abbrev pub HasLevel : Option Level → List (Option Level) → Type 0
HasLevel o [] = ⊥
HasLevel o (m ∷ ms) = (o ≡ m) ⊎ HasLevel o ms
