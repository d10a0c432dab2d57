-- The definition by which a line works: what its files load as, and what it means; or which of them is refused.
use Rattle.std.specs.Prelude.{◌≡◌, ◌≤◌, ◌<◌, ◌⊎◌, ◌++◌, ℕ, false, List, length, codes, Option, IfSome, IsUtf8}
use Rattle.kj_value.specs.Reading.{Reads}
use Rattle.edge_io.specs.declared.files.TheConstants.{MOST_FILE_BYTES}
use Rattle.api_calls.specs.Meaning.{Meaning}
use Rattle.api_calls.specs.declared.tool.NoTool.{NoTool}
use Rattle.converters.specs.Turned.{nothing}
use Rattle.link_converter.specs.Asking.{ConverterState}
use Rattle.crd_meaning.specs.Definition.{Definition}
use Rattle.crd_laws.specs.Loaded.{loaded_meaning}
use Rattle.crd_settings.specs.SettledLaws.{settings_of}
use Rattle.crd_loading.specs.Blame.{Blame}
use Rattle.crd_loading.specs.Load.{Loads, RefusesDefinition}
use Rattle.crd_loading.specs.Set.{set_of}
use Rattle.crd_loading.specs.Told.{RefusesIn}
use Rattle.crd_loading.specs.View.{LoadedView}
use Rattle.crd_loading.specs.declared.loading.Which.{Which}
use Rattle.crd_loading.specs.declared.loading.Which.TheVariants.{Crd, Rules}
use Rattle.crd_laws.specs.Hook.{hook_meaning}
use Rattle.hook_versions.specs.Facts.{hooked}
use Rattle.hook_versions.specs.Loads.{LoadsHook, HasNoHub}
use Rattle.built_in.specs.Texts.{definition_text, rules_text}
use Rattle.built_in.specs.Example.{definition_document, rules_document}
use Rattle.drill_steps.specs.Drilling.{Tells, drilled}
use Rattle.http_address.specs.Address.{AddressView, IsAddress}
use Rattle.command_lines.specs.Lines.{Source, built_in, by_rules, by_converter}

-- ---- a definition, and what it means to requests

-- a definition was loaded, with its rules of conversion or with a converter that turns its objects
pub data Loaded : Type 0 where
  with_rules : Definition → Loaded
  with_converter : Definition → Loaded

abbrev pub meaning_of : Definition → Meaning
meaning_of d = loaded_meaning d (settings_of d.view)

-- nothing is known of what a converter turns objects to
abbrev pub converted_meaning : Definition → Meaning
converted_meaning d = hook_meaning (hooked d false nothing) (settings_of d.view)

abbrev pub meaning_in : Loaded → Meaning
meaning_in (with_rules d) = meaning_of d
meaning_in (with_converter d) = converted_meaning d

-- what a pass has of its own beside the definition
abbrev pub Tool : Loaded → Type 0
Tool (with_rules d) = NoTool
Tool (with_converter d) = ConverterState

-- how often that failed: a converter, or that an answer of it was rejected; rules never do
abbrev pub no_faults : NoTool → ℕ
no_faults tool = 0

abbrev pub converter_faults : ConverterState → ℕ
converter_faults tool = tool.faults

abbrev pub faults_in : (l : Loaded) → Tool l → ℕ
faults_in (with_rules d) = no_faults
faults_in (with_converter d) = converter_faults

-- ---- what is loaded

-- two texts are the definition, with these rules
pub record LoadsSet (crd rules : List ℕ) (d : Definition) : Type 0 where
  pub view : LoadedView
  pub loads : Loads crd rules view
  pub is : d ≡ set_of view

-- the shared example is the definition, by whatever texts its documents are read from
abbrev pub IsExample : Definition → Type 0
IsExample d = (crd rules : List ℕ) → Reads crd 100 definition_document → Reads rules 100 rules_document → LoadsSet crd rules d

-- the text tells of a drill of so many steps of that, drawn from the state of the first number on
pub record DrillsExample (start count : ℕ) (text : List ℕ) : Type 0 where
  pub definition : Definition
  pub is : IsExample definition
  pub tells : Tells (drilled (meaning_of definition)) start count text

-- a text was taken of a file: it isn't too long, and it is what the file holds, where that is told
pub record IsTaken (told : Option (List ℕ)) (text : List ℕ) : Type 0 where
  pub short : length text ≤ MOST_FILE_BYTES
  pub is : IfSome told (λ bytes. (text ≡ bytes) × IsUtf8 bytes)

-- A line works by this definition: by the one that is built in, or by one that was loaded of the texts of the files that the line names. What
-- the files hold is told or not.
abbrev pub Means : (List ℕ → Option (List ℕ)) → Source → Loaded → Type 0
Means file built_in (with_rules d) = LoadsSet definition_text rules_text d
Means file built_in (with_converter d) = ⊥
Means file (by_rules crd rules) (with_rules d) = (c : List ℕ) × (r : List ℕ) × IsTaken (file crd) c × IsTaken (file rules) r × LoadsSet c r d
Means file (by_rules crd rules) (with_converter d) = ⊥
Means file (by_converter crd hub url) (with_rules d) = ⊥
Means file (by_converter crd hub url) (with_converter d) = (a : AddressView) × IsAddress url a × (c : List ℕ) × IsTaken (file crd) c × LoadsHook c hub d

-- ---- what is refused

-- no text is taken of a file, and this is said of it
pub data IsUnfit (told : Option (List ℕ)) (why : List ℕ) : Type 0 where
  too_long : why ≡ codes "TooLong" → IfSome told (λ bytes. MOST_FILE_BYTES < length bytes) → IsUnfit told why
  no_text : why ≡ codes "NotText" → IfSome told (λ bytes. (length bytes ≤ MOST_FILE_BYTES) × ¬ IsUtf8 bytes) → IsUnfit told why

-- the path of what is refused, which may be empty, and a word
unfoldable pub blame_text : List ℕ → List ℕ → List ℕ
blame_text path word = path ++ (codes ": " ++ word)

-- the file of a document
abbrev pub file_of : Which → List ℕ → List ℕ → List ℕ
file_of Crd crd rules = crd
file_of Rules crd rules = rules

-- The first thing that is refused of two files: the name of the file, and what is said of it. The definition's file comes before that of the
-- rules, and both are taken for texts before either is loaded.
pub data RefusesFiles (file : List ℕ → Option (List ℕ)) (crd rules name why : List ℕ) : Type 0 where
  definition_unfit : name ≡ crd → IsUnfit (file crd) why → RefusesFiles file crd rules name why
  rules_unfit : (c : List ℕ) → name ≡ rules → IsTaken (file crd) c → IsUnfit (file rules) why → RefusesFiles file crd rules name why
  not_loaded : (c r : List ℕ) (which : Which) (b : Blame) → name ≡ file_of which crd rules → IsTaken (file crd) c → IsTaken (file rules) r
      → RefusesIn c r which b → why ≡ blame_text b.path b.why → RefusesFiles file crd rules name why

-- and of one: no version has the name of the hub, which is asked last
pub data RefusesFile (file : List ℕ → Option (List ℕ)) (crd hub name why : List ℕ) : Type 0 where
  file_unfit : name ≡ crd → IsUnfit (file crd) why → RefusesFile file crd hub name why
  file_not_loaded : (c : List ℕ) (b : Blame) → name ≡ crd → IsTaken (file crd) c → RefusesDefinition c b ⊎ HasNoHub c hub b
      → why ≡ blame_text b.path b.why → RefusesFile file crd hub name why

-- What is built in never is. The name is one of those by which the line names files.
abbrev pub Refuses : (List ℕ → Option (List ℕ)) → Source → List ℕ → List ℕ → Type 0
Refuses file built_in name why = ⊥
Refuses file (by_rules crd rules) name why = RefusesFiles file crd rules name why
Refuses file (by_converter crd hub url) name why = RefusesFile file crd hub name why

-- the line has a converter at an address that is none
abbrev pub IsAddressless : Source → Type 0
IsAddressless built_in = ⊥
IsAddressless (by_rules crd rules) = ⊥
IsAddressless (by_converter crd hub url) = (a : AddressView) → IsAddress url a → ⊥
