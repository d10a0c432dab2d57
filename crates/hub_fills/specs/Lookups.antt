-- What a level has at a name of the hub's.
use Rattle.std.specs.Prelude.{List, [], ◌∷◌, cond, Option, None, Some}
use Rattle.std.specs.Str.{bytes_eq}
use Rattle.hub_cells.specs.Side.{hub}
use Rattle.hub_cells.specs.Level.{Name, Cell, names, Level, cells_in, Inners, no_inner, inner, inners_in}
use Rattle.hub_cells.specs.Fit.{has_name}

-- the first cell that has the name, and the first object of that name
abbrev pub cell_at : Name → List Cell → Option Cell
cell_at k [] = None
cell_at k (c ∷ cs) = cond (has_name k (names hub c)) (Some c) (cell_at k cs)

abbrev pub level_at : Name → Inners → Option Level
level_at k no_inner = None
level_at k (inner a b r l is) = cond (bytes_eq k b) (Some l) (level_at k is)

-- of a spoke that may not have the object
abbrev pub cell_in : Name → Option Level → Option Cell
cell_in k None = None
cell_in k (Some l) = cell_at k (cells_in l)

abbrev pub level_in : Name → Option Level → Option Level
level_in k None = None
level_in k (Some l) = level_at k (inners_in l)

-- these names of objects lead to it
abbrev pub level_under : List Name → Option Level → Option Level
level_under [] m = m
level_under (k ∷ ks) m = level_under ks (level_in k m)
