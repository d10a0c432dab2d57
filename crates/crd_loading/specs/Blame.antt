-- What is refused: its path as text, and a word.
use Rattle.std.specs.Prelude.{ℕ, List, Option, None, Some, Result, Ok, Err}
use Rattle.struct_schema.specs.PathText.{Path}
use Rattle.hub_rules.specs.Refusal.{Fault, unpaired_default}
use Rattle.hub_rules.specs.Told.{path_text}
use Rattle.crd_reading.specs.Words.{shape_word}
use Rattle.crd_reading.specs.Refusal.{Refusal}
use Rattle.crd_loading.specs.Words.{fit_word}

pub record Blame : Type 0 where
  pub path : List ℕ
  pub why : List ℕ

abbrev pub blame : List ℕ → List ℕ → Blame
blame p w = record { path = p; why = w }

-- of a definition
abbrev pub of_definition : Option Refusal → Option Blame
of_definition None = None
of_definition (Some r) = Some (blame r.path.text r.why)

-- of a document of rules: each fault has one word
abbrev pub of_rules : {A : Type 0} → Result A Path → Option Blame
of_rules (Ok a) = None
of_rules (Err p) = Some (blame p.text shape_word)

-- of rules for two schemas
abbrev pub of_fit : Option Fault → Option Blame
of_fit None = None
of_fit (Some f) = Some (blame (path_text f.path) (fit_word f.why))

-- of a name whose default comes too late for some spoke, by the bytes of its path
abbrev pub of_late : Option (List ℕ) → Option Blame
of_late None = None
of_late (Some p) = Some (blame p (fit_word unpaired_default))
