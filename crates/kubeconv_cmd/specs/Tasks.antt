-- What is done with one document: the text that is written of it, or why none is.
use Rattle.std.specs.Prelude.{◌≡◌, ◌<◌, ◌≤◌, ◌++◌, ℕ, List, Option, length, codes}
use Rattle.std.specs.Io.KnownBytes.{append_known}
use Rattle.edge_io.specs.Sends.{AddsSome}
use Rattle.kj_value.specs.Json.{Json}
use Rattle.kj_value.specs.Reading.{Reads}
use Rattle.kj_value.specs.Rule.{rule_word}
use Rattle.kj_value.specs.Text.{text_of}
use Rattle.api_calls.specs.Cause.{why_word}
use Rattle.api_calls.specs.Meaning.{Fault, bad_request, invalid}
use Rattle.api_calls.specs.Readings.{IsFaulty}
use Rattle.api_calls.specs.declared.versions.TheConstants.{OBJECT_LEVELS}
use Rattle.crd_meaning.specs.Definition.{Definition, count_of, version_at}
use Rattle.crd_meaning.specs.Converted.{IsConverted}
use Rattle.crd_meaning.specs.Unconverted.{IsUnconverted}
use Rattle.review_batch.specs.Answer.{IsAnswer, IsNoRequest}
use Rattle.command_lines.specs.Lines.{Task, convert, review}
use Rattle.output_lines.specs.Lines.{ended_line}
use Rattle.kubeconv_cmd.specs.declared.input.TheConstants.{MOST_INPUT_BYTES}

-- ---- a document that is converted

-- v is the version of that name
pub record IsVersionNamed (d : Definition) (name : List ℕ) (v : ℕ) : Type 0 where
  pub known : v < count_of d
  pub named : (version_at d v).name ≡ name

-- the bytes are a document, and the text is that of the document of version v that is one with it
pub record IsValueOf (d : Definition) (v : ℕ) (bytes text : List ℕ) : Type 0 where
  pub document : Json
  pub reads : Reads bytes OBJECT_LEVELS document
  pub value : Json
  pub converted : IsConverted d document v value
  pub spelled : text ≡ text_of value

-- the document has no value at version v, and that is why
pub record IsWithout (d : Definition) (v : ℕ) (document : Json) (f : Fault) : Type 0 where
  pub none : (value : Json) → IsConverted d document v value → ⊥
  pub why : IsUnconverted d document f

-- the words of a fault: the one that tells what kind of document it is, or the field and the rule that it breaks
unfoldable pub fault_words : Fault → List ℕ
fault_words (bad_request why) = why_word why
fault_words (invalid name cause) = cause.field ++ (codes ": " ++ rule_word cause.rule)

unfoldable pub too_long : List ℕ
too_long = codes "TooLong"

unfoldable pub no_version : List ℕ → List ℕ
no_version name = codes "no version " ++ name

unfoldable pub not_review : List ℕ → List ℕ
not_review path = codes "NotReview " ++ path

-- ---- by a definition

-- the version that is wanted is one of its versions
abbrev pub KnowsTarget : Definition → Task → Type 0
KnowsTarget d (convert name) = (v : ℕ) × IsVersionNamed d name v
KnowsTarget d review = Unit {0}

-- it isn't, and this is said
pub data LacksTarget (d : Definition) : Task → List ℕ → Type 0 where
  unknown : (name : List ℕ) → ((v : ℕ) → IsVersionNamed d name v → ⊥) → LacksTarget d (convert name) (no_version name)

-- the text that is written of the bytes
abbrev pub AnswersDocument : Definition → Task → List ℕ → List ℕ → Type 0
AnswersDocument d (convert name) bytes text =
    (length bytes ≤ MOST_INPUT_BYTES) × (v : ℕ) × IsVersionNamed d name v × IsValueOf d v bytes text
AnswersDocument d review bytes text = (length bytes ≤ MOST_INPUT_BYTES) × IsAnswer d bytes text

-- why there is none
pub data RefusesDocument (d : Definition) (bytes : List ℕ) : Task → List ℕ → Type 0 where
  long_document : (t : Task) → MOST_INPUT_BYTES < length bytes → RefusesDocument d bytes t too_long
  faulty : (name : List ℕ) (v : ℕ) (f : Fault) → IsVersionNamed d name v → length bytes ≤ MOST_INPUT_BYTES
      → IsFaulty bytes OBJECT_LEVELS (IsWithout d v) f → RefusesDocument d bytes (convert name) (fault_words f)
  no_review : (path : List ℕ) → length bytes ≤ MOST_INPUT_BYTES → IsNoRequest bytes path → RefusesDocument d bytes review (not_review path)

-- ---- what is written

-- the whole line was written
pub record Wrote (answers : List ℕ → Type 0) (before written : Option (List ℕ)) : Type 0 where
  pub text : List ℕ
  pub is : answers text
  pub wrote : written ≡ append_known before (ended_line text)

-- a front of it
pub record Broke (answers : List ℕ → Type 0) (before written : Option (List ℕ)) : Type 0 where
  pub text : List ℕ
  pub is : answers text
  pub front : AddsSome before written (ended_line text)
