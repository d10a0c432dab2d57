-- The body of an object at one side and what it keeps, brought over to the other side. Every body goes over: nothing is asked of its
-- values, nor of what is kept.
use Rattle.std.specs.Prelude.{List, [], ◌∷◌, ◌++◌, length, Bool, ◌&&◌, ◌==◌, cond, Option, Some, None}
use Rattle.kj_value.specs.Json.{Json, null, boolean, whole, text, list, object, members_of}
use Rattle.kj_value.specs.Fields.{Pairs, field, with_field}
use Rattle.kj_value.specs.Kinds.{pairs_of}
use Rattle.hub_cells.specs.Side.{Side, other}
use Rattle.hub_cells.specs.Cell.{Tuple}
use Rattle.hub_cells.specs.Level.{Name, named, tuple_of}
use Rattle.hub_cells.specs.Fit.{has_name}
use Rattle.body_laws.specs.Cell.{Cell, tuple_same}
use Rattle.body_laws.specs.Frame.{Level, level, Inners, no_inner, inner, cells_names, inner_names}
use Rattle.body_laws.specs.Kept.{CellsKept, Kept, InnersKept, nothing}

-- ---- fields

-- the fields with those of the values that are there
abbrev pub put : List Name → Tuple → Pairs → Pairs
put [] os ps = ps
put (n ∷ ns) [] ps = ps
put (n ∷ ns) (None ∷ os) ps = put ns os ps
put (n ∷ ns) (Some j ∷ os) ps = put ns os (with_field n j ps)

-- the fields that have none of these names; of two with one name the first
abbrev pub own : List Name → Pairs → Pairs
own ns [] = []
own ns (p ∷ ps) = cond (has_name p.0 ns) (own ns ps) (with_field p.0 p.1 (own ns ps))

-- ---- a cell

-- what is kept counts where it has as many values as the cell has names, and is shown as what stands here
abbrev pub alive : Side → Cell → Tuple → Tuple → Bool
alive d c t was = (length was == length (c.names (other d))) && tuple_same (c.shown (other d) was) t

abbrev pub tuple_over : Side → Cell → Tuple → Option Tuple → Tuple
tuple_over d c t None = c.shown d t
tuple_over d c t (Some was) = cond (alive d c t was) was (c.shown d t)

abbrev pub unmatched : Side → Cell → Tuple → Option Tuple
unmatched d c t = cond (c.matches d t) None (Some t)

abbrev pub tuple_left : Side → Cell → Tuple → Option Tuple → Option Tuple
tuple_left d c t None = unmatched d c t
tuple_left d c t (Some was) = cond (alive d c t was) None (unmatched d c t)

abbrev pub cells_over : Side → (cs : List Cell) → Pairs → CellsKept cs → Tuple
cells_over d [] x k = []
cells_over d (c ∷ cs) x k = tuple_over d c (tuple_of (c.names d) x) k.0 ++ cells_over d cs x k.1

abbrev pub cells_left : Side → (cs : List Cell) → Pairs → CellsKept cs → CellsKept cs
cells_left d [] x k = tt
cells_left d (c ∷ cs) x k = (tuple_left d c (tuple_of (c.names d) x) k.0, cells_left d cs x k.1)

-- ---- an object inside: an object goes over by its level, and any other value as it is

abbrev pub json_over : (Pairs → Pairs) → Json → Json
json_over f null = null
json_over f (boolean b) = boolean b
json_over f (whole z) = whole z
json_over f (text t) = text t
json_over f (list js) = list js
json_over f (object ms) = object (members_of (f (pairs_of ms)))

abbrev pub value_over : (Pairs → Pairs) → Option Json → Option Json
value_over f None = None
value_over f (Some j) = Some (json_over f j)

-- beside anything but an object nothing is kept
abbrev pub json_left : {K : Type 0} → K → (Pairs → K) → Json → K
json_left k f null = k
json_left k f (boolean b) = k
json_left k f (whole z) = k
json_left k f (text t) = k
json_left k f (list js) = k
json_left k f (object ms) = f (pairs_of ms)

abbrev pub value_left : {K : Type 0} → K → (Pairs → K) → Option Json → K
value_left k f None = k
value_left k f (Some j) = json_left k f j

-- ---- a level: the other side has its cells' values, its objects inside, and those own fields that are kept

abbrev mutual
  pub over : Side → (l : Level) → Pairs → Kept l → Pairs
  over d (level cs is) x k =
      put (cells_names (other d) cs ++ inner_names (other d) is) (cells_over d cs x k.1 ++ inners_over d is x k.2) (own (cells_names (other d) cs ++ inner_names (other d) is) k.0)

  pub inners_over : Side → (is : Inners) → Pairs → InnersKept is → Tuple
  inners_over d no_inner x k = []
  inners_over d (inner a b l is) x k =
      value_over (λ y. over d l y k.0) (field (named d a b) x) ∷ inners_over d is x k.1

-- what the other side keeps of this one: its own fields, and the values that don't match
abbrev mutual
  pub left : Side → (l : Level) → Pairs → Kept l → Kept l
  left d (level cs is) x k =
      (own (cells_names d cs ++ inner_names d is) x, cells_left d cs x k.1, inners_left d is x k.2)

  pub inners_left : Side → (is : Inners) → Pairs → InnersKept is → InnersKept is
  inners_left d no_inner x k = tt
  inners_left d (inner a b l is) x k =
      (value_left (nothing l) (λ y. left d l y k.0) (field (named d a b) x), inners_left d is x k.1)

-- ---- a body with what it keeps

pub record Held (l : Level) : Type 0 where
  pub fields : Pairs
  pub kept : Kept l

abbrev pub crossed : Side → (l : Level) → Held l → Held l
crossed d l x = record { fields = over d l x.fields x.kept; kept = left d l x.fields x.kept }

-- over and back
abbrev pub settled : Side → (l : Level) → Held l → Held l
settled d l x = crossed (other d) l (crossed d l x)
