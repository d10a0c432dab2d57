-- The rules of two versions of an object as levels: cells, and the objects that both have, each with a level of its own.
use Rattle.std.specs.Prelude.{List, [], ◌∷◌, ◌++◌}
use Rattle.hub_cells.specs.Side.{Side}
use Rattle.hub_cells.specs.Level.{Name, named, AreDistinct}
use Rattle.body_laws.specs.Cell.{Cell, IsCell}

-- an inner object has its name at the spoke, its name at the hub, and its level
mutual
  pub data Level : Type 0 where
    level : List Cell → Inners → Level

  pub data Inners : Type 0 where
    no_inner : Inners
    inner : Name → Name → Level → Inners → Inners

-- ---- the names that a level pairs. Every other name, known to its version or not, is on its side only

abbrev pub cells_names : Side → List Cell → List Name
cells_names d [] = []
cells_names d (c ∷ cs) = c.names d ++ cells_names d cs

abbrev pub inner_names : Side → Inners → List Name
inner_names d no_inner = []
inner_names d (inner a b l is) = named d a b ∷ inner_names d is

abbrev pub level_names : Side → Level → List Name
level_names d (level cs is) = cells_names d cs ++ inner_names d is

abbrev pub AreCells : List Cell → Type 0
AreCells [] = Unit {0}
AreCells (c ∷ cs) = IsCell c × AreCells cs

-- at every level cells are cells, and on each side no name stands twice
abbrev mutual
  pub IsFrame : Level → Type 0
  IsFrame (level cs is) = AreCells cs × ((d : Side) → AreDistinct (cells_names d cs ++ inner_names d is)) × AreFrames is

  pub AreFrames : Inners → Type 0
  AreFrames no_inner = Unit {0}
  AreFrames (inner a b l is) = IsFrame l × AreFrames is
