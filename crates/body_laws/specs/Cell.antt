-- A cell: some names of one version hold the same thing as some names of the other. It is two functions, one each way, that answer
-- whatever stands at the names, and a test which says that the other function leads back.
use Rattle.std.specs.Prelude.{◌≡◌, List, [], ◌∷◌, length, Bool, true, false, ◌&&◌, Option, Some, None}
use Rattle.kj_value.specs.Json.{Json}
use Rattle.kj_value.specs.Same.{json_same}
use Rattle.hub_cells.specs.Side.{Side, other}
use Rattle.hub_cells.specs.Cell.{Tuple}
use Rattle.hub_cells.specs.Level.{Name}

-- of the values at the names of a side: what the other side has at its names, and whether the two match
pub record Cell : Type 0 where
  pub names : Side → List Name
  pub shown : Side → Tuple → Tuple
  pub matches : Side → Tuple → Bool

-- nothing at each name
abbrev pub absent : List Name → Tuple
absent [] = []
absent (n ∷ ns) = None ∷ absent ns

-- t of the side goes over to u as a match
pub record Match (c : Cell) (d : Side) (t u : Tuple) : Type 0 where
  pub shown : c.shown d t ≡ u
  pub matches : c.matches d t ≡ true

-- the one law: what goes over as a match comes back as a match, as what it was. Nothing matches nothing; and as many values are
-- answered as there are names
pub record IsCell (c : Cell) : Type 0 where
  pub law : (d : Side) (t u : Tuple) → Match c d t u → Match c (other d) u t
  pub blank : (d : Side) → Match c d (absent (c.names d)) (absent (c.names (other d)))
  pub width : (d : Side) (t : Tuple) → length t ≡ length (c.names d) → length (c.shown d t) ≡ length (c.names (other d))

-- ---- any two functions are a cell

abbrev pub value_same : Option Json → Option Json → Bool
value_same None None = true
value_same (Some i) (Some j) = json_same i j
value_same None (Some j) = false
value_same (Some i) None = false

abbrev pub tuple_same : Tuple → Tuple → Bool
tuple_same [] [] = true
tuple_same (o ∷ os) (p ∷ ps) = value_same o p && tuple_same os ps
tuple_same [] (p ∷ ps) = false
tuple_same (o ∷ os) [] = false

-- a tuple matches where the other function leads back to it
abbrev pub cell_of : (Side → List Name) → (Side → Tuple → Tuple) → Cell
cell_of ns f = record { names = ns; shown = f; matches = λ d t. tuple_same (f (other d) (f d t)) t }

-- the functions take nothing to nothing, and answer as many values as there are names
pub record AreFunctions (ns : Side → List Name) (f : Side → Tuple → Tuple) : Type 0 where
  pub blank : (d : Side) → f d (absent (ns d)) ≡ absent (ns (other d))
  pub width : (d : Side) (t : Tuple) → length t ≡ length (ns d) → length (f d t) ≡ length (ns (other d))

-- the same cell with its sides changed
abbrev pub turned : Cell → Cell
turned c =
    record { names = λ d. c.names (other d); shown = λ d t. c.shown (other d) t; matches = λ d t. c.matches (other d) t }
