-- An object of one side as its fields and its entries, and the marks that it is read as.
use Rattle.std.specs.Prelude.{List, [], ◌∷◌, ◌++◌, map, Option, Some, None}
use Rattle.kj_value.specs.Json.{Json, object, members_of}
use Rattle.kj_value.specs.Fields.{Pairs, field}
pub use Rattle.kj_value.specs.Kinds.{pairs_of, as_object}
use Rattle.hub_cells.specs.Side.{Side, other}
use Rattle.hub_cells.specs.Cell.{Tuple}
use Rattle.hub_cells.specs.Level.{Cell, Level, level, Inners, no_inner, inner, names, named, cells_names, inner_names}
use Rattle.keep_laws.specs.Marked.{Marks, Marked, MarkedInners, there}
use Rattle.hub_cells.specs.Level.{Name, tuple_of}
use Rattle.kept_entries.specs.declared.entry.Entry.{Entry}
use Rattle.keep_laws.specs.Entry.{put, part, kept_of, inside, under, in_order}

-- ---- from fields and entries to marks

abbrev pub object_in : Option Json → Option Pairs
object_in None = None
object_in (Some j) = as_object j

abbrev pub read_cells : Side → (cs : List Cell) → Pairs → List Entry → Marks cs
read_cells d [] x es = tt
read_cells d (c ∷ cs) x es = ((tuple_of (names d c) x, kept_of (names (other d) c) es), read_cells d cs x es)

abbrev mutual
  pub read : Side → (l : Level) → Pairs → List Entry → Marked l
  read d (level cs is) x es = (read_cells d cs x es, read_inners d is x es)

  pub read_inners : Side → (is : Inners) → Pairs → List Entry → MarkedInners is
  read_inners d no_inner x es = tt
  read_inners d (inner a b rq l is) x es =
      (there (λ (y : Pairs). read d l y (inside (named (other d) a b) es)) (object_in (field (named d a b) x)), read_inners d is x es)

-- ---- from marks to fields and entries

abbrev pub cells_values : (cs : List Cell) → Marks cs → Tuple → Tuple
cells_values [] ms os = os
cells_values (c ∷ cs) ms os = ms.0.0 ++ cells_values cs ms.1 os

abbrev pub as_field : Option Pairs → Option Json
as_field None = None
as_field (Some ps) = Some (object (members_of ps))

abbrev mutual
  pub body : Side → (l : Level) → Marked l → Pairs
  body d (level cs is) m =
      put (cells_names d cs (inner_names d is)) (cells_values cs m.0 (inner_values d is m.1)) []

  pub inner_values : Side → (is : Inners) → MarkedInners is → Tuple
  inner_values d no_inner ms = []
  inner_values d (inner a b rq l is) ms = as_field (there (body d l) ms.0) ∷ inner_values d is ms.1

abbrev pub entry_of : List Name → Option Tuple → List Entry → List Entry
entry_of ns None es = es
entry_of ns (Some u) es = record { at = []; was = part ns u } ∷ es

abbrev pub cell_entries : Side → (cs : List Cell) → Marks cs → List Entry → List Entry
cell_entries d [] ms es = es
cell_entries d (c ∷ cs) ms es = entry_of (names (other d) c) ms.0.1 (cell_entries d cs ms.1 es)

abbrev pub with_inside : {A : Type 0} → Name → (A → List Entry) → Option A → List Entry → List Entry
with_inside n f None es = es
with_inside n f (Some x) es = map (under n) (f x) ++ es

abbrev mutual
  pub all_entries : Side → (l : Level) → Marked l → List Entry
  all_entries d (level cs is) m = cell_entries d cs m.0 (inner_entries d is m.1)

  pub inner_entries : Side → (is : Inners) → MarkedInners is → List Entry
  inner_entries d no_inner ms = []
  inner_entries d (inner a b rq l is) ms =
      with_inside (named (other d) a b) (all_entries d l) ms.0 (inner_entries d is ms.1)

-- the list that the annotation spells
abbrev pub entries : Side → (l : Level) → Marked l → List Entry
entries d l m = in_order (all_entries d l m)
