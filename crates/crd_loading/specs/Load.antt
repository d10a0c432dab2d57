-- What two texts load as, a definition and a document of rules, and what is refused of them. The whole definition is tried
-- before the rules are read.
use Rattle.std.specs.Prelude.{◌≡◌, ℕ, List, [], None, Some, ◌⊎◌}
use Rattle.kj_value.specs.Json.{Json}
use Rattle.kj_value.specs.Reading.{Reads}
use Rattle.kj_value.specs.Fault.{IsRefusedJson}
use Rattle.kj_value.specs.declared.reading.JsonFault.{JsonFault}
use Rattle.kj_value.specs.declared.reading.TheConstants.{MAX_JSON_LEVELS}
use Rattle.crd_reading.specs.View.{DefinitionView}
use Rattle.crd_reading.specs.Spelled.{definition_read}
use Rattle.crd_reading.specs.First.{first_refusal}
use Rattle.crd_loading.specs.Words.{read_word}
use Rattle.crd_loading.specs.Blame.{Blame, of_definition}
use Rattle.crd_loading.specs.Fits.{rules_blame}
use Rattle.crd_loading.specs.View.{LoadedView, loaded_of}

-- bytes that aren't read, at the empty path
pub record IsUnread (bytes : List ℕ) (b : Blame) : Type 0 where
  pub fault : JsonFault
  pub refused : IsRefusedJson bytes MAX_JSON_LEVELS fault
  pub path : b.path ≡ []
  pub why : read_word fault ≡ Some b.why

-- ---- the definition

pub record Defines (bytes : List ℕ) (d : DefinitionView) : Type 0 where
  pub document : Json
  pub reads : Reads bytes MAX_JSON_LEVELS document
  pub allowed : first_refusal document ≡ None
  pub spelled : d ≡ definition_read document

pub record IsNoDefinition (bytes : List ℕ) (b : Blame) : Type 0 where
  pub document : Json
  pub reads : Reads bytes MAX_JSON_LEVELS document
  pub refused : of_definition (first_refusal document) ≡ Some b

-- ---- the rules, for a definition

pub record LoadsRules (d : DefinitionView) (bytes : List ℕ) (l : LoadedView) : Type 0 where
  pub document : Json
  pub reads : Reads bytes MAX_JSON_LEVELS document
  pub allowed : rules_blame d.versions document ≡ None
  pub loaded : l ≡ loaded_of d document

pub record AreNoRules (d : DefinitionView) (bytes : List ℕ) (b : Blame) : Type 0 where
  pub document : Json
  pub reads : Reads bytes MAX_JSON_LEVELS document
  pub refused : rules_blame d.versions document ≡ Some b

-- ---- both

pub record Loads (crd rules : List ℕ) (l : LoadedView) : Type 0 where
  pub definition : DefinitionView
  pub defines : Defines crd definition
  pub loads : LoadsRules definition rules l

abbrev pub RefusesDefinition : List ℕ → Blame → Type 0
RefusesDefinition crd b = IsUnread crd b ⊎ IsNoDefinition crd b

pub record RefusesRules (crd rules : List ℕ) (b : Blame) : Type 0 where
  pub definition : DefinitionView
  pub defines : Defines crd definition
  pub refused : IsUnread rules b ⊎ AreNoRules definition rules b
