-- Objects with their kept entries: whole ones, and pairs of them.
use Rattle.std.specs.Prelude.{◌≡◌, List}
use Rattle.kj_value.specs.Fields.{Pairs}
use Rattle.hub_cells.specs.Side.{Side, spoke, hub, other}
use Rattle.hub_cells.specs.Level.{Level, Fits, NoNameTwice}
use Rattle.keep_laws.specs.Marked.{Marked, IsGood, crossed}
use Rattle.keep_laws.specs.Pairing.{Paired}
use Rattle.kept_entries.specs.declared.entry.Entry.{Entry}
use Rattle.keep_laws.specs.Body.{read, body, entries}

-- a body, and the entries that its annotation for the other side spells
pub record Held : Type 0 where
  pub fields : Pairs
  pub entries : List Entry

abbrev pub marks_of : Side → (l : Level) → Held → Marked l
marks_of d l x = read d l x.fields x.entries

abbrev pub object_of : Side → (l : Level) → Marked l → Held
object_of d l m = record { fields = body d l m; entries = entries d l m }

-- all fields have a cell or an inner object; each tuple is allowed; the entries are alive, in order, and there are no others
pub record IsWholeOnSide (d : Side) (l : Level) (x : Held) : Type 0 where
  pub good : IsGood d l (marks_of d l x)
  pub nothing_else : object_of d l (marks_of d l x) ≡ x

-- the spoke's x and the hub's h
pub record IsPair (l : Level) (x h : Held) : Type 0 where
  pub cells : Paired l (marks_of spoke l x) (marks_of hub l h)
  pub spoke_rest : object_of spoke l (marks_of spoke l x) ≡ x
  pub hub_rest : object_of hub l (marks_of hub l h) ≡ h

-- cells that fit, and no name of a level twice
pub record Ready (l : Level) : Type 0 where
  pub fits : Fits l
  pub spoke_names : NoNameTwice spoke l
  pub hub_names : NoNameTwice hub l

-- the object of the other side
abbrev pub other_object : Side → (l : Level) → Held → Held
other_object d l x = object_of (other d) l (crossed d l (marks_of d l x))

-- exactly one
pub record IsTheOne (P : Held → Type 0) (x : Held) : Type 0 where
  pub holds : P x
  pub only : (y : Held) → P y → y ≡ x
