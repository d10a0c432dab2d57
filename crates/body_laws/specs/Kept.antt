-- What an object keeps of the other side: the tree that its annotation's entries are read as.
use Rattle.std.specs.Prelude.{List, [], ◌∷◌, Option, None}
use Rattle.kj_value.specs.Fields.{Pairs}
use Rattle.hub_cells.specs.Cell.{Tuple}
use Rattle.body_laws.specs.Cell.{Cell}
use Rattle.body_laws.specs.Frame.{Level, level, Inners, no_inner, inner}

-- a cell's values at the other side
abbrev pub CellsKept : List Cell → Type 0
CellsKept [] = Unit {0}
CellsKept (c ∷ cs) = Option Tuple × CellsKept cs

-- the other side's own fields; what each cell keeps; and what each object inside keeps
abbrev mutual
  pub Kept : Level → Type 0
  Kept (level cs is) = Pairs × CellsKept cs × InnersKept is

  pub InnersKept : Inners → Type 0
  InnersKept no_inner = Unit {0}
  InnersKept (inner a b l is) = Kept l × InnersKept is

-- ---- nothing is kept

abbrev pub no_cells : (cs : List Cell) → CellsKept cs
no_cells [] = tt
no_cells (c ∷ cs) = (None, no_cells cs)

abbrev mutual
  pub nothing : (l : Level) → Kept l
  nothing (level cs is) = ([], no_cells cs, nothing_inside is)

  pub nothing_inside : (is : Inners) → InnersKept is
  nothing_inside no_inner = tt
  nothing_inside (inner a b l is) = (nothing l, nothing_inside is)
