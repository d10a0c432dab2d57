-- What is taken from the laws of entries and of fitted bodies, whose functions' clauses give it.
use Rattle.std.proofs.Common.{◌≡◌, List}
use Rattle.kj_value.specs.Json.{members_of}
use Rattle.kj_value.specs.Fields.{Pairs}
use Rattle.kj_value.specs.Sound.{AreRising}
use Rattle.hub_cells.specs.Side.{Side}
use Rattle.hub_cells.specs.Level.{Name, Level}
use Rattle.hub_cells.specs.Fit.{Fit, IsFitted}
use Rattle.kept_entries.specs.declared.entry.Entry.{Entry}
use Rattle.kept_entries.specs.Text.{IsKept}
use Rattle.keep_laws.specs.Whole.{Held, Ready, IsWholeOnSide, marks_of}
use Rattle.keep_laws.specs.Settle.{IsAllowed, AreSet}
use Rattle.keep_laws.specs.Known.{IsKnown}
use Rattle.keep_laws.specs.Words.{IsSettledObject}
use Rattle.keep_laws.specs.FittedBody.{IsBodyOf, HasRoom}

-- a text has one list of entries
abbrev pub OneList : Type 0
OneList = (t : Name) (es fs : List Entry) → IsKept t es → IsKept t fs → es ≡ fs

abbrev pub BodyKnown : Type 0
BodyKnown = (d : Side) (f : Fit) (x : Pairs) → IsFitted f → AreRising (members_of x) → IsBodyOf d f x → IsKnown d f.level x

abbrev pub BodyAllowed : Type 0
BodyAllowed = (d : Side) (f : Fit) (x : Held) → IsFitted f → AreRising (members_of x.fields) → IsBodyOf d f x.fields → IsAllowed d f.level (marks_of d f.level x)

abbrev pub BodySet : Type 0
BodySet = (d : Side) (f : Fit) (x : Held) → IsFitted f → AreRising (members_of x.fields) → IsBodyOf d f x.fields → AreSet d f.level (marks_of d f.level x)

abbrev pub WholeBody : Type 0
WholeBody = (d : Side) (f : Fit) (x : Held) → IsFitted f → HasRoom f → IsWholeOnSide d f.level x → AreSet d f.level (marks_of d f.level x) → IsBodyOf d f x.fields

abbrev pub WholeWords : Type 0
WholeWords = (d : Side) (l : Level) (x : Held) → Ready l → IsWholeOnSide d l x → IsSettledObject d l x

pub record Laws : Type 0 where
  pub one : OneList
  pub known : BodyKnown
  pub allowed : BodyAllowed
  pub set : BodySet
  pub body : WholeBody
  pub words : WholeWords
