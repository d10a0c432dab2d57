-- What settling leaves of each annotation and of each cell: what goes is the dead entries and nothing else, and what comes is the
-- value of a name that wasn't there and has a default in some version.
use Rattle.std.specs.Prelude.{◌≡◌, ◌↔◌, List, [], ◌∷◌, Bool, true, false, ◌⊎◌, Option, None, Some}
use Rattle.std.specs.Str.{bytes_eq}
use Rattle.kj_value.specs.Json.{Json}
use Rattle.kj_value.specs.Fields.{Pairs}
use Rattle.kube_meta.specs.View.{ObjectView}
use Rattle.kept_entries.specs.declared.entry.Entry.{Entry}
use Rattle.hub_cells.specs.Side.{Side, spoke, hub}
use Rattle.hub_cells.specs.Cell.{Kind, one}
use Rattle.hub_cells.specs.Level.{Name, Cell, some_there, Level, level, Inners, no_inner, inner}
use Rattle.hub_fills.specs.Fills.{Fills, fills, Within, nothing_within, within}
use Rattle.keep_laws.specs.Marked.{Mark, Marks, Marked, MarkedInners, crossed_mark}
use Rattle.keep_laws.specs.Pairing.{BothOrNeither}
use Rattle.keep_laws.specs.Settle.{settled_marks}
use Rattle.keep_laws.specs.Whole.{marks_of}
use Rattle.keep_laws.specs.Alive.{AliveAt}
use Rattle.keep_laws.specs.Words.{Has}
use Rattle.keep_laws.specs.Spokes.{Spoke, Spokes, fills_at}
use Rattle.keep_laws.specs.Keys.{hub_key, KeyKind, plain, of_hub, of_spoke, of_none, key_kind}
use Rattle.keep_laws.specs.Notes.{noted, Spells, IsNoteOf, with_entries}

-- an annotation o becomes p: an entry stands in p exactly where it stood in o and is alive beside the body
pub record KeepsLiving (d : Side) (l : Level) (body : Pairs) (o p : Option Name) : Type 0 where
  pub before : List Entry
  pub after : List Entry
  pub spelled : Spells o before
  pub kept : IsNoteOf after p
  pub left : (e : Entry) → Has e after ↔ (Has e before × AliveAt d l body before e.at e.was)

-- on an object of the hub, where `body` is its body, completed
abbrev pub NoteLeftAtHub : Pairs → KeyKind → Option Name → Option Name → Type 0
NoteLeftAtHub body plain o p = p ≡ o
NoteLeftAtHub body of_hub o p = p ≡ None
NoteLeftAtHub body (of_spoke t) o p = KeepsLiving hub t.fit.level body o p
NoteLeftAtHub body of_none o p = p ≡ None

-- the spoke's own annotation goes, and another's keeps what is alive at the hub
abbrev pub OtherLeft : Bool → Spoke → Pairs → Option Name → Option Name → Type 0
OtherLeft true t at_hub o p = p ≡ None
OtherLeft false t at_hub o p = KeepsLiving hub t.fit.level at_hub o p

-- on an object of a spoke, where `at_hub` is the hub's body, completed. What the hub's annotation keeps is told with the cells
abbrev pub NoteLeftAtSpoke : Spoke → Pairs → KeyKind → Option Name → Option Name → Type 0
NoteLeftAtSpoke s at_hub plain o p = p ≡ o
NoteLeftAtSpoke s at_hub of_hub o p = Unit {0}
NoteLeftAtSpoke s at_hub (of_spoke t) o p = OtherLeft (bytes_eq t.name s.name) t at_hub o p
NoteLeftAtSpoke s at_hub of_none o p = p ≡ None

-- ---- cell by cell

-- a cell's mark m, beside which nothing dead is kept, becomes n: it stays; or, where the cell has a default in some version,
-- nothing is there and nothing is kept beside it, and n is the form of the hub's default value, which is kept where the spoke
-- can't hold it
abbrev pub CellLeft : Kind → Option Json → Mark → Mark → Type 0
CellLeft k None m n = n ≡ m
CellLeft k (Some j) m n = (n ≡ m) ⊎ ((some_there m.0 ≡ false) × (m.1 ≡ None) × (n ≡ crossed_mark hub k (one j) None))

abbrev pub CellsLeft : (cs : List Cell) → List (Option Json) → Marks cs → Marks cs → Type 0
CellsLeft [] vs ms ns = Unit {0}
CellsLeft (c ∷ cs) [] ms ns = ⊥
CellsLeft (c ∷ cs) (v ∷ vs) ms ns = CellLeft c.kind v ms.0 ns.0 × CellsLeft cs vs ms.1 ns.1

-- no object comes and none goes
abbrev mutual
  pub IsLeft : (l : Level) → Fills → Marked l → Marked l → Type 0
  IsLeft (level cs is) (fills vs fs) m n = CellsLeft cs vs m.0 n.0 × InnersLeft is fs m.1 n.1

  pub InnersLeft : (is : Inners) → Within → MarkedInners is → MarkedInners is → Type 0
  InnersLeft no_inner fs ms ns = Unit {0}
  InnersLeft (inner a b rq l is) nothing_within ms ns = ⊥
  InnersLeft (inner a b rq l is) (within f fs) ms ns = BothOrNeither (IsLeft l f) ms.0 ns.0 × InnersLeft is fs ms.1 ns.1

-- y is what is left of x at the spoke
pub record LeftAtSpoke (all : Spokes) (s : Spoke) (x y : ObjectView) : Type 0 where
  pub before : List Entry
  pub after : List Entry
  pub at_hub : Pairs
  pub spelled : Spells (noted hub_key x) before
  pub kept : IsNoteOf after (noted hub_key y)
  pub cells : IsLeft s.fit.level (fills_at all s) (settled_marks spoke s.fit.level (marks_of spoke s.fit.level (with_entries x.body before))) (marks_of spoke s.fit.level (with_entries y.body after))
  pub notes : (k : Name) → NoteLeftAtSpoke s at_hub (key_kind all k) (noted k x) (noted k y)
