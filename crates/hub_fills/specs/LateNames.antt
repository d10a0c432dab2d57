-- The names whose defaults come too late, by their paths, and the first of them by bytes.
use Rattle.std.specs.Prelude.{ℕ, List, [], ◌∷◌, ◌++◌, map, cond, codes, fold, Option, None, Some}
use Rattle.struct_schema.specs.Fault.{lesser}
use Rattle.hub_cells.specs.Side.{hub}
use Rattle.hub_cells.specs.Level.{Name, Cell, names, Level, level, Inners, no_inner, inner}
use Rattle.hub_fills.specs.Lookups.{level_in}
use Rattle.hub_fills.specs.Late.{is_late}

-- names joined by points
abbrev pub joined : List Name → List ℕ
joined [] = []
joined (n ∷ []) = n
joined (n ∷ m ∷ ns) = n ++ codes "." ++ joined (m ∷ ns)

-- of a level of one spoke, to which these names of objects lead at the hub; `ms` are the levels of all spokes there
abbrev pub late_cells : List (Option Level) → List Name → List Cell → List (List Name)
late_cells ms path [] = []
late_cells ms path (c ∷ cs) = cond (is_late ms c) ((path ++ names hub c) ∷ late_cells ms path cs) (late_cells ms path cs)

abbrev mutual
  pub late_in : List (Option Level) → List Name → Level → List (List Name)
  late_in ms path (level cs is) = late_cells ms path cs ++ late_within ms path is

  pub late_within : List (Option Level) → List Name → Inners → List (List Name)
  late_within ms path no_inner = []
  late_within ms path (inner a b r l is) = late_in (map (level_in b) ms) (path ++ b ∷ []) l ++ late_within ms path is

-- of these spokes
abbrev pub late_among : List (Option Level) → List (Option Level) → List (List Name)
late_among ms [] = []
late_among ms (None ∷ os) = late_among ms os
late_among ms (Some l ∷ os) = late_in ms [] l ++ late_among ms os

-- the first by the bytes of its path
abbrev pub first_late : List (Option Level) → Option (List ℕ)
first_late ms = fold lesser None (map joined (late_among ms ms))
