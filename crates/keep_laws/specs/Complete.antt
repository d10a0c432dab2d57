-- An object of the hub whose absent names are filled, cell by cell, and what it is that none of them is absent.
use Rattle.std.specs.Prelude.{◌≡◌, List, [], ◌∷◌, true, Option, Some, None}
use Rattle.kj_value.specs.Json.{Json}
use Rattle.kj_value.specs.Fields.{Pairs}
use Rattle.hub_cells.specs.Side.{spoke, hub}
use Rattle.hub_cells.specs.Cell.{Tuple}
use Rattle.hub_cells.specs.Level.{Cell, some_there, Level, level, Inners, no_inner, inner}
use Rattle.hub_fills.specs.Fills.{Fills, fills, Within, nothing_within, within}
use Rattle.keep_laws.specs.Marked.{Mark, Marks, Marked, MarkedInners, IfThere, there, crossed}
use Rattle.keep_laws.specs.Body.{read, body}
use Rattle.keep_laws.specs.Settle.{settled_marks}
use Rattle.keep_laws.specs.Whole.{Held, marks_of, object_of}

-- ---- the only name of a cell takes the value where it isn't there

abbrev pub where_absent : Json → Tuple → Tuple
where_absent j [] = []
where_absent j (None ∷ []) = Some j ∷ []
where_absent j (None ∷ o ∷ os) = None ∷ o ∷ os
where_absent j (Some i ∷ os) = Some i ∷ os

abbrev pub filled_tuple : Option Json → Tuple → Tuple
filled_tuple None t = t
filled_tuple (Some j) t = where_absent j t

abbrev pub filled_mark : Option Json → Mark → Mark
filled_mark v m = (filled_tuple v m.0, m.1)

abbrev pub filled_marks : (cs : List Cell) → List (Option Json) → Marks cs → Marks cs
filled_marks [] vs ms = tt
filled_marks (c ∷ cs) [] ms = ms
filled_marks (c ∷ cs) (v ∷ vs) ms = (filled_mark v ms.0, filled_marks cs vs ms.1)

-- in the root, and in each object that is there
abbrev mutual
  pub filled : (l : Level) → Fills → Marked l → Marked l
  filled (level cs is) (fills vs fs) m = (filled_marks cs vs m.0, filled_inners is fs m.1)

  pub filled_inners : (is : Inners) → Within → MarkedInners is → MarkedInners is
  filled_inners no_inner fs ms = tt
  filled_inners (inner a b rq l is) nothing_within ms = ms
  filled_inners (inner a b rq l is) (within f fs) ms = (there (filled l f) ms.0, filled_inners is fs ms.1)

-- ---- a body of the hub, completed, and what comes over from a spoke, completed

abbrev pub completed : Fills → (l : Level) → Pairs → Pairs
completed f l x = body hub l (filled l f (read hub l x []))

abbrev pub completed_over : Fills → (l : Level) → Held → Held
completed_over f l x = object_of hub l (filled l f (crossed spoke l (settled_marks spoke l (marks_of spoke l x))))

-- ---- each name that is filled is there

abbrev pub IsFilled : Option Json → Tuple → Type 0
IsFilled None t = Unit {0}
IsFilled (Some j) t = some_there t ≡ true

abbrev pub CellsFilled : (cs : List Cell) → List (Option Json) → Marks cs → Type 0
CellsFilled [] vs ms = Unit {0}
CellsFilled (c ∷ cs) [] ms = Unit {0}
CellsFilled (c ∷ cs) (v ∷ vs) ms = IsFilled v ms.0.0 × CellsFilled cs vs ms.1

abbrev mutual
  pub IsComplete : (l : Level) → Fills → Marked l → Type 0
  IsComplete (level cs is) (fills vs fs) m = CellsFilled cs vs m.0 × InnersComplete is fs m.1

  pub InnersComplete : (is : Inners) → Within → MarkedInners is → Type 0
  InnersComplete no_inner fs ms = Unit {0}
  InnersComplete (inner a b rq l is) nothing_within ms = Unit {0}
  InnersComplete (inner a b rq l is) (within f fs) ms = IfThere (IsComplete l f) ms.0 × InnersComplete is fs ms.1
