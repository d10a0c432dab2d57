-- A default that comes too late: a spoke has one for a name of the hub's that has none, and some spoke doesn't hold that
-- name's values as they are, or scaled.
use Rattle.std.specs.Prelude.{◌≡◌, List, [], ◌∷◌, map, Bool, true, false, ◌&&◌, not, Option, None, Some, is_none}
use Rattle.struct_schema.specs.Shape.{own}
use Rattle.hub_cells.specs.Cell.{Kind, same, spoke_only, hub_only, split, table, scale}
use Rattle.hub_cells.specs.Level.{Name, Place, Cell, have_default, Level, level, Inners, no_inner, inner}
use Rattle.hub_fills.specs.Lookups.{cell_in, level_in}

abbrev pub is_plain : Kind → Bool
is_plain same = true
is_plain spoke_only = false
is_plain hub_only = false
is_plain split = false
is_plain (table ps x y) = false
is_plain (scale k) = true

abbrev pub pairs_plainly : Option Cell → Bool
pairs_plainly None = false
pairs_plainly (Some c) = is_plain c.kind

-- every spoke pairs the name by `same` or `scale`
abbrev pub all_pair : List (Option Level) → Name → Bool
all_pair [] k = true
all_pair (m ∷ ms) k = pairs_plainly (cell_in k m) && all_pair ms k

-- the spoke's name of a cell has a default, and the hub's, with which it is paired, has none
abbrev pub is_one_sided : List Place → List Place → Bool
is_one_sided ps [] = false
is_one_sided ps (q ∷ []) = have_default ps && is_none (own q.shape).default_value
is_one_sided ps (q ∷ r ∷ qs) = false

abbrev pub is_late_at : List (Option Level) → List Place → List Place → Bool
is_late_at ms ps [] = false
is_late_at ms ps (q ∷ []) = is_one_sided ps (q ∷ []) && not (all_pair ms q.name)
is_late_at ms ps (q ∷ r ∷ qs) = false

abbrev pub is_late : List (Option Level) → Cell → Bool
is_late ms c = is_late_at ms c.spoke c.hub

abbrev pub NoneLate : List (Option Level) → List Cell → Type 0
NoneLate ms [] = Unit {0}
NoneLate ms (c ∷ cs) = (is_late ms c ≡ false) × NoneLate ms cs

-- no name of the level, nor of the objects inside, is late; `ms` are the levels of all spokes at that object
abbrev mutual
  pub NoLate : List (Option Level) → Level → Type 0
  NoLate ms (level cs is) = NoneLate ms cs × NoLateWithin ms is

  pub NoLateWithin : List (Option Level) → Inners → Type 0
  NoLateWithin ms no_inner = Unit {0}
  NoLateWithin ms (inner a b r l is) = NoLate (map (level_in b) ms) l × NoLateWithin ms is
