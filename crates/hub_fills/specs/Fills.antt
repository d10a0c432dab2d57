-- What the names of the hub's object become where they aren't there, in the root and in each object inside: the hub's
-- default, or else the hub's value that matches the default of the first spoke that has one.
use Rattle.std.specs.Prelude.{List, [], ◌∷◌, map, Option, None, Some}
use Rattle.kj_value.specs.Json.{Json}
use Rattle.struct_schema.specs.Shape.{own}
use Rattle.struct_schema.specs.Fault.{or_else}
use Rattle.hub_cells.specs.Side.{spoke}
use Rattle.hub_cells.specs.Cell.{Kind, Tuple, one}
use Rattle.hub_cells.specs.Cross.{matched}
use Rattle.hub_cells.specs.Level.{Place, Cell, Level, level, Inners, no_inner, inner}
use Rattle.hub_fills.specs.Lookups.{cell_in, level_in}

-- for the cells of a level in their order, and for the objects inside in theirs
mutual
  pub data Fills : Type 0 where
    fills : List (Option Json) → Within → Fills

  pub data Within : Type 0 where
    nothing_within : Within
    within : Fills → Within → Within

-- ---- the defaults of one cell

-- that of the only name
abbrev pub default_of : List Place → Option Json
default_of [] = None
default_of (p ∷ []) = (own p.shape).default_value
default_of (p ∷ q ∷ ps) = None

-- the only value
abbrev pub one_value : Tuple → Option Json
one_value [] = None
one_value (o ∷ []) = o
one_value (o ∷ p ∷ os) = None

abbrev pub value_in : Option Tuple → Option Json
value_in None = None
value_in (Some t) = one_value t

abbrev pub match_of : Kind → Option Json → Option Json
match_of k None = None
match_of k (Some j) = value_in (matched spoke k (one j))

abbrev pub hub_default : Cell → Option Json
hub_default c = default_of c.hub

-- the hub's value that matches the spoke's default
abbrev pub spoke_default : Cell → Option Json
spoke_default c = match_of c.kind (default_of c.spoke)

-- ---- of all spokes, in their order: their levels at one object of the hub's, none where a spoke has no such object

abbrev pub cell_default : Option Cell → Option Json
cell_default None = None
cell_default (Some c) = spoke_default c

-- what one has for the only name of the hub's in a cell
abbrev pub default_from : Option Level → List Place → Option Json
default_from m [] = None
default_from m (q ∷ []) = cell_default (cell_in q.name m)
default_from m (q ∷ r ∷ qs) = None

abbrev pub first_default : List (Option Level) → List Place → Option Json
first_default [] qs = None
first_default (m ∷ ms) qs = or_else (default_from m qs) (first_default ms qs)

abbrev pub fill_of : List (Option Level) → Cell → Option Json
fill_of ms c = or_else (hub_default c) (first_default ms c.hub)

abbrev mutual
  pub fills_of : List (Option Level) → Level → Fills
  fills_of ms (level cs is) = fills (map (fill_of ms) cs) (fills_within ms is)

  pub fills_within : List (Option Level) → Inners → Within
  fills_within ms no_inner = nothing_within
  fills_within ms (inner a b r l is) = within (fills_of (map (level_in b) ms) l) (fills_within ms is)
