-- The rules of one spoke, fitted to the two schemas: cells and inner objects, level by level.
use Rattle.std.specs.Prelude.{◌≡◌, ℕ, ◌+◌, pos, negsuc, List, [], ◌∷◌, ◌++◌, map, Bool, true, false, ◌&&◌, ◌||◌, not, leb, Option, Some, None, is_some}
use Rattle.kj_value.specs.Json.{Json, null, boolean, whole, text, list, object, depth}
use Rattle.kj_value.specs.Fields.{Pairs, field}
use Rattle.struct_schema.specs.Shape.{Shape, own}
use Rattle.struct_schema.specs.Keywords.{at_least, at_most}
use Rattle.struct_schema.specs.Valid.{valid}
use Rattle.struct_schema.specs.Stays.{stays}
use Rattle.hub_cells.specs.declared.allowed.TheConstants.{STORED_LEVELS}
use Rattle.hub_cells.specs.Side.{Side, spoke, hub, other}
use Rattle.hub_cells.specs.Cell.{Kind, same, spoke_only, hub_only, split, table, scale, Tuple, IsRegular}
use Rattle.hub_cells.specs.Cross.{matched, shown}

abbrev pub Name : Type 0
Name = List ℕ

-- a name of a cell: the schema of its values, and whether the object has to have it
pub record Place : Type 0 where
  pub name : Name
  pub shape : Shape
  pub required : Bool

-- `depth` is how many object names lead to the cell's level
pub record Cell : Type 0 where
  pub spoke : List Place
  pub hub : List Place
  pub kind : Kind
  pub depth : ℕ

abbrev pub places : Side → Cell → List Place
places spoke c = c.spoke
places hub c = c.hub

abbrev pub names : Side → Cell → List Name
names d c = map (λ p. p.name) (places d c)

abbrev pub named : Side → Name → Name → Name
named spoke a b = a
named hub a b = b

-- the values at the names
abbrev pub tuple_of : List Name → Pairs → Tuple
tuple_of ns ps = map (λ n. field n ps) ns

-- an inner object has its name on each side, whether both schemas require it, and its level
mutual
  pub data Level : Type 0 where
    level : List Cell → Inners → Level

  pub data Inners : Type 0 where
    no_inner : Inners
    inner : Name → Name → Bool → Level → Inners → Inners

abbrev pub cells_in : Level → List Cell
cells_in (level cs is) = cs

abbrev pub inners_in : Level → Inners
inners_in (level cs is) = is

-- ---- what a side's schema allows in a cell

-- a number of a JSON value has 64 bits
abbrev pub is_word : Json → Bool
is_word null = true
is_word (boolean b) = true
is_word (whole z) = at_least (Some (negsuc 9223372036854775807)) z && at_most (Some (pos 9223372036854775807)) z
is_word (text t) = true
is_word (list js) = true
is_word (object ms) = true

-- a value that is valid and its own filling, and with which the object is at most 64 deep; a name that isn't there isn't
-- required. Whether it has a default isn't asked
abbrev pub allowed_at : ℕ → Place → Option Json → Bool
allowed_at n p None = not p.required
allowed_at n p (Some j) = valid p.shape j && stays p.shape j && leb (n + 1 + depth j) STORED_LEVELS && is_word j

abbrev pub all_allowed : ℕ → List Place → Tuple → Bool
all_allowed n [] [] = true
all_allowed n [] (o ∷ os) = false
all_allowed n (p ∷ ps) [] = false
all_allowed n (p ∷ ps) (o ∷ os) = allowed_at n p o && all_allowed n ps os

abbrev pub allows : Side → Cell → Tuple → Bool
allows d c t = all_allowed c.depth (places d c) t

-- what was matched or shown for an allowed tuple is allowed
abbrev pub MatchAllowed : Cell → Side → Option Tuple → Tuple → Type 0
MatchAllowed c d None t = allows (other d) c (shown d c.kind t) ≡ true
MatchAllowed c d (Some u) t = allows (other d) c u ≡ true

-- one of the values is there
abbrev pub some_there : Tuple → Bool
some_there [] = false
some_there (None ∷ os) = some_there os
some_there (Some j ∷ os) = true

-- one of the names has a default
abbrev pub have_default : List Place → Bool
have_default [] = false
have_default (p ∷ ps) = is_some (own p.shape).default_value || have_default ps

-- a name may have a default in one version alone where its values are equal or scaled; in a table its names have one on
-- both sides or on neither
abbrev pub may_default : Kind → List Place → List Place → Bool
may_default same ps qs = true
may_default spoke_only ps qs = false
may_default hub_only ps qs = false
may_default split ps qs = false
may_default (table xs x y) ps qs = have_default ps || have_default qs
may_default (scale k) ps qs = true

abbrev pub can_default : Cell → Bool
can_default c = may_default c.kind c.spoke c.hub

-- what was matched or shown for it is there
abbrev pub MatchThere : Cell → Side → Option Tuple → Tuple → Type 0
MatchThere c d None t = some_there (shown d c.kind t) ≡ true
MatchThere c d (Some u) t = some_there u ≡ true

-- the kinds that have one name a side
abbrev pub has_one_name : Kind → Bool
has_one_name same = true
has_one_name spoke_only = false
has_one_name hub_only = false
has_one_name split = false
has_one_name (table xs x y) = true
has_one_name (scale k) = true

abbrev pub is_one : List Place → Bool
is_one [] = false
is_one (p ∷ []) = true
is_one (p ∷ q ∷ ps) = false

-- an allowed tuple is answered by one that is allowed. Only a cell that can have a default has one, and then a tuple that is
-- there is answered by one that is there; and where the spoke's name has a default, what it allows matches, or the hub's name
-- has a default too
pub record CellFits (c : Cell) : Type 0 where
  pub regular : IsRegular c.kind
  pub absent : (d : Side) → matched d c.kind (tuple_of (names d c) []) ≡ Some (tuple_of (names (other d) c) [])
  pub answer : (d : Side) (t : Tuple) → allows d c t ≡ true → MatchAllowed c d (matched d c.kind t) t
  pub there : (d : Side) (t : Tuple) → can_default c ≡ true → allows d c t ≡ true → some_there t ≡ true → MatchThere c d (matched d c.kind t) t
  pub single : has_one_name c.kind ≡ true → (is_one c.spoke && is_one c.hub) ≡ true
  pub defaults : (d : Side) → have_default (places d c) ≡ true → can_default c ≡ true
  pub matches : (t : Tuple) → have_default c.spoke ≡ true → allows spoke c t ≡ true → (is_some (matched spoke c.kind t) || have_default c.hub) ≡ true

abbrev pub CellsFit : List Cell → Type 0
CellsFit [] = Unit {0}
CellsFit (c ∷ cs) = CellFits c × CellsFit cs

abbrev mutual
  pub Fits : Level → Type 0
  Fits (level cs is) = CellsFit cs × InnersFit is

  pub InnersFit : Inners → Type 0
  InnersFit no_inner = Unit {0}
  InnersFit (inner a b r l is) = Fits l × InnersFit is

-- ---- all names of a level on one side, and that none stands twice

abbrev pub cells_names : Side → List Cell → List Name → List Name
cells_names d [] ns = ns
cells_names d (c ∷ cs) ns = names d c ++ cells_names d cs ns

abbrev pub inner_names : Side → Inners → List Name
inner_names d no_inner = []
inner_names d (inner a b r l is) = named d a b ∷ inner_names d is

abbrev pub level_names : Side → Level → List Name
level_names d (level cs is) = cells_names d cs (inner_names d is)

abbrev pub IsFresh : Name → List Name → Type 0
IsFresh k [] = Unit {0}
IsFresh k (n ∷ ns) = (k ≡ n → ⊥) × IsFresh k ns

abbrev pub AreDistinct : List Name → Type 0
AreDistinct [] = Unit {0}
AreDistinct (n ∷ ns) = IsFresh n ns × AreDistinct ns

abbrev mutual
  pub NoNameTwice : Side → Level → Type 0
  NoNameTwice d (level cs is) = AreDistinct (cells_names d cs (inner_names d is)) × NoneTwice d is

  pub NoneTwice : Side → Inners → Type 0
  NoneTwice d no_inner = Unit {0}
  NoneTwice d (inner a b r l is) = NoNameTwice d l × NoneTwice d is
