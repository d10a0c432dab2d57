-- For private clauses: a level taken over cell by cell and object by object.
use Rattle.std.specs.Prelude.{List, [], ◌∷◌, Option}
use Rattle.kj_value.specs.Json.{Json}
use Rattle.kj_value.specs.Fields.{Pairs, field}
use Rattle.kept_entries.specs.declared.entry.Entry.{Entry}
use Rattle.hub_cells.specs.Side.{Side, other}
use Rattle.hub_cells.specs.Cell.{Tuple}
use Rattle.hub_cells.specs.Level.{Cell, Level, Inners, no_inner, inner, names, named, tuple_of}
use Rattle.keep_laws.specs.Entry.{put, kept_of, inside}
use Rattle.keep_laws.specs.Marked.{Mark, Marked, crossed_mark, crossed, there}
use Rattle.keep_laws.specs.Body.{object_in, as_field, body, entry_of, all_entries, with_inside, read}
use Rattle.keep_laws.specs.Settle.{living, settled_marks}

-- the tuple of the cell on the side d, and the living one that is kept beside it
abbrev pub tuple_here : Side → Cell → Pairs → Tuple
tuple_here d c x = tuple_of (names d c) x

abbrev pub kept_there : Side → Cell → Pairs → List Entry → Option Tuple
kept_there d c x es = living d c (tuple_here d c x) (kept_of (names (other d) c) es)

abbrev pub mark_over : Side → Cell → Pairs → List Entry → Mark
mark_over d c x es = crossed_mark d c.kind (tuple_here d c x) (kept_there d c x es)

abbrev pub cell_fields : Side → List Cell → Pairs → List Entry → Pairs → Pairs
cell_fields d [] x es out = out
cell_fields d (c ∷ cs) x es out =
    cell_fields d cs x es (put (names (other d) c) (mark_over d c x es).0 out)

abbrev pub cell_kept : Side → List Cell → Pairs → List Entry → List Entry
cell_kept d [] x es = []
cell_kept d (c ∷ cs) x es = entry_of (names d c) (mark_over d c x es).1 (cell_kept d cs x es)

-- what an inner object is taken over as
abbrev pub marks_over : Side → (l : Level) → Pairs → List Entry → Marked l
marks_over d l x es = crossed d l (settled_marks d l (read d l x es))

abbrev pub inner_marks : Side → (l : Level) → Option Json → List Entry → Option (Marked l)
inner_marks d l o es = there (λ (y : Pairs). marks_over d l y es) (object_in o)

abbrev pub inner_fields : Side → Inners → Pairs → List Entry → Pairs → Pairs
inner_fields d no_inner x es out = out
inner_fields d (inner a b r l is) x es out =
    inner_fields d is x es (put (named (other d) a b ∷ []) (as_field (there (body (other d) l) (inner_marks d l (field (named d a b) x) (inside (named (other d) a b) es))) ∷ []) out)

abbrev pub inner_kept : Side → Inners → Pairs → List Entry → List Entry
inner_kept d no_inner x es = []
inner_kept d (inner a b r l is) x es =
    with_inside (named d a b) (all_entries (other d) l) (inner_marks d l (field (named d a b) x) (inside (named (other d) a b) es)) (inner_kept d is x es)
