-- What the definition means.
use Rattle.std.specs.Prelude.{◌≡◌, ℕ, ◌<◌, ◌≤◌, max, true, false, Bool, List, [], ◌∷◌, ◌++◌, Option, None, IsSome, codes, slice_index_or, ◌==◌, if◌then◌else◌}
use Rattle.kj_value.specs.Json.{Json}
use Rattle.kj_value.specs.Text.{quoted}
use Rattle.kj_value.specs.Reading.{Reads}
use Rattle.kj_value.specs.Fault.{IsRefusedJson}
use Rattle.kj_value.specs.declared.reading.JsonFault.TheVariants.{NotJson, TooDeep, NotWhole}
use Rattle.kj_value.specs.declared.rule.Rule.{Rule}
use Rattle.kj_value.specs.declared.rule.Rule.TheVariants as rule
use Rattle.kube_meta.specs.View.{ObjectView}
use Rattle.kube_meta.specs.Document.{document}
use Rattle.kube_meta.specs.Names.{is_name, is_namespace}
use Rattle.api_calls.specs.Cause.{CauseView, cause_of, not_json, too_deep, not_whole, not_object, wrong_version, wrong_kind, wrong_namespace, wrong_name, bad_query, bad_token, bad_options}
use Rattle.api_calls.specs.Meaning.{Meaning, Request, Fault, bad_request, invalid, chunks, measure}
use Rattle.api_calls.specs.Versions.{AreStamps}
use Rattle.api_calls.specs.declared.flags.Flags.{Flags}
use Rattle.api_calls.specs.declared.versions.AdmitFault.{AdmitFault}
use Rattle.api_calls.specs.declared.versions.AdmitFault.TheVariants as fault
use Rattle.api_calls.specs.declared.versions.TheConstants.{OBJECT_LEVELS}
use Rattle.versions_fixture.specs.Parts.{PartsView, object_at, bare, version_at, version_name, group, plural, kind, list_kind}
use Rattle.versions_fixture.specs.declared.parts.Version.{Version}
use Rattle.versions_fixture.specs.declared.parts.Version.TheVariants.{V1, V1beta1}
use Rattle.versions_fixture.specs.declared.admission.TheConstants.{MOST_CHUNKS}
use Rattle.versions_fixture.specs.declared.settings.TheConstants.{SHOW_ROOM}

-- the greatest number of chunks that the measure takes at the two versions
abbrev pub weight_of : PartsView → ℕ
weight_of p = max (chunks (measure (object_at V1 p))) (chunks (measure (object_at V1beta1 p)))

-- a hub value: an object with a name in a namespace
pub record IsFixtureHub (h : ObjectView) : Type 0 where
  pub parts : PartsView
  pub is : h ≡ object_at V1 parts
  pub named : is_name parts.name ≡ true
  pub placed : is_namespace parts.namespace ≡ true
  pub stamps : AreStamps parts.created parts.deleted parts.generation

-- the two are of one object, at the hub and at a version
pub record AreOne (v : ℕ) (h x : ObjectView) : Type 0 where
  pub parts : PartsView
  pub hub : h ≡ object_at V1 parts
  pub form : x ≡ object_at (version_at v) parts

-- ---- admission

-- the body is the document of an object with a name and a value alone
abbrev pub Submits : Request → List ℕ → Option (List ℕ) → Type 0
Submits r name value = Reads r.bytes OBJECT_LEVELS (document (object_at (version_at r.version) (bare name value)))

-- what is submitted, in the path's namespace
abbrev pub placed : List ℕ → List ℕ → Option (List ℕ) → PartsView
placed ns name value = record (bare name value) { namespace = ns }

-- only creates are admitted, since no body of the form has a number
pub record Admits (r : Request) (h : ObjectView) (number : Option ℕ) : Type 0 where
  pub name : List ℕ
  pub value : Option (List ℕ)
  pub submits : Submits r name value
  pub named : is_name name ≡ true
  pub in_namespace : is_namespace r.ns ≡ true
  pub creates : r.name ≡ None
  pub light : weight_of (placed r.ns name value) ≤ MOST_CHUNKS
  pub is : h ≡ object_at V1 (placed r.ns name value)
  pub no_number : number ≡ None

-- the body is a value, and no document of the form
pub record IsOther (r : Request) : Type 0 where
  pub value : Json
  pub reads : Reads r.bytes OBJECT_LEVELS value
  pub other : (name : List ℕ) (given : Option (List ℕ)) → value ≡ document (object_at (version_at r.version) (bare name given)) → ⊥

-- the first rule that a document of the form breaks
pub data Breaks (r : Request) (name : List ℕ) (value : Option (List ℕ)) (cause : CauseView) : Type 0 where
  no_name : is_name name ≡ false → cause ≡ record { field = codes "metadata.name"; rule = rule.Name } → Breaks r name value cause
  no_number : is_name name ≡ true → IsSome r.name → cause ≡ record { field = codes "metadata.resourceVersion"; rule = rule.Required } → Breaks r name value cause
  too_heavy : is_name name ≡ true → r.name ≡ None → MOST_CHUNKS < weight_of (placed r.ns name value)
      → cause ≡ record { field = codes "object"; rule = rule.Size } → Breaks r name value cause

pub record IsInvalid (r : Request) (name : List ℕ) (cause : CauseView) : Type 0 where
  pub value : Option (List ℕ)
  pub submits : Submits r name value
  pub breaks : Breaks r name value cause

-- for private clauses: a fault with this name, field and rule
abbrev pub IsFault : List ℕ → List ℕ → Rule → AdmitFault → Type 0
IsFault name field broken (fault.BadRequest why) = ⊥
IsFault name field broken (fault.Invalid given cause) = (given.bytes ≡ name) × (cause_of cause ≡ record { field = field; rule = broken })
IsFault name field broken fault.Tool = ⊥
IsFault name field broken fault.NoMemory = ⊥

abbrev pub FixtureRefuses : Request → Fault → Type 0
FixtureRefuses r (bad_request not_json) = IsRefusedJson r.bytes OBJECT_LEVELS NotJson
FixtureRefuses r (bad_request too_deep) = IsRefusedJson r.bytes OBJECT_LEVELS TooDeep
FixtureRefuses r (bad_request not_whole) = IsRefusedJson r.bytes OBJECT_LEVELS NotWhole
FixtureRefuses r (bad_request not_object) = IsOther r
FixtureRefuses r (bad_request wrong_version) = ⊥
FixtureRefuses r (bad_request wrong_kind) = ⊥
FixtureRefuses r (bad_request wrong_namespace) = ⊥
FixtureRefuses r (bad_request wrong_name) = ⊥
FixtureRefuses r (bad_request (bad_query parameter)) = ⊥
FixtureRefuses r (bad_request bad_token) = ⊥
FixtureRefuses r (bad_request bad_options) = ⊥
FixtureRefuses r (invalid name cause) = IsInvalid r name cause

-- ---- flags and stored versions

-- both versions served, and one of them stored
abbrev pub storing : ℕ → Flags
storing v = record { served = true ∷ true ∷ false ∷ false ∷ false ∷ false ∷ false ∷ false ∷ []; storage = v }

abbrev pub flag_text : Bool → List ℕ
flag_text b = if b then codes "true" else codes "false"

-- the text of the definition up to the flags of v1, between these and those of v1beta1, and behind those
unfoldable pub before_v1 : List ℕ
before_v1 = codes "{\"apiVersion\":\"apiextensions.k8s.io/v1\",\"kind\":\"CustomResourceDefinition\",\"metadata\":{\"name\":\"crontabs.example.com\"},\"spec\":{\"group\":\"example.com\",\"names\":{\"kind\":\"CronTab\",\"listKind\":\"CronTabList\",\"plural\":\"crontabs\"},\"versions\":[{\"name\":\"v1\",\"served\":"

unfoldable pub before_storage : List ℕ
before_storage = codes ",\"storage\":"

unfoldable pub before_v1beta1 : List ℕ
before_v1beta1 = codes "},{\"name\":\"v1beta1\",\"served\":"

unfoldable pub before_stored : List ℕ
before_stored = codes "}]},\"status\":{\"storedVersions\":["

unfoldable pub behind_stored : List ℕ
behind_stored = codes "]}}"

abbrev pub flags_text : Bool → Bool → List ℕ
flags_text served stored = flag_text served ++ (before_storage ++ flag_text stored)

abbrev pub name_text : ℕ → List ℕ
name_text v = quoted (version_name (version_at v))

-- of two versions, no more than two differ
abbrev pub names_text : List ℕ → List ℕ
names_text [] = []
names_text (v ∷ []) = name_text v
names_text (v ∷ w ∷ rest) = name_text v ++ (codes "," ++ name_text w)

abbrev pub served_at : Flags → ℕ → Bool
served_at f v = slice_index_or f.served v false

abbrev pub shown : Flags → List ℕ → List ℕ
shown f stored =
    before_v1 ++ flags_text (served_at f 0) (f.storage == 0) ++ before_v1beta1 ++ flags_text (served_at f 1) (f.storage == 1)
    ++ before_stored ++ names_text stored ++ behind_stored

-- the two bodies that set flags: both versions served, and either stored
unfoldable pub setting : Version → List ℕ
setting V1 = codes "{\"spec\":{\"storage\":\"v1\"}}"
setting V1beta1 = codes "{\"spec\":{\"storage\":\"v1beta1\"}}"

pub record Sets (bytes : List ℕ) (f : Flags) : Type 0 where
  pub version : ℕ
  pub known : version < 2
  pub body : bytes ≡ setting (version_at version)
  pub flags : f ≡ storing version

-- the two bodies that keep stored versions: either version alone
unfoldable pub keeping : Version → List ℕ
keeping V1 = codes "{\"status\":{\"storedVersions\":[\"v1\"]}}"
keeping V1beta1 = codes "{\"status\":{\"storedVersions\":[\"v1beta1\"]}}"

pub record FixtureKeeps (bytes kept : List ℕ) : Type 0 where
  pub version : ℕ
  pub known : version < 2
  pub body : bytes ≡ keeping (version_at version)
  pub versions : kept ≡ version ∷ []

-- any other body
pub record IsNone (body : Version → List ℕ) (bytes : List ℕ) (f : Fault) : Type 0 where
  pub fault : f ≡ bad_request not_object
  pub other : (v : Version) → bytes ≡ body v → ⊥

-- ---- the meaning

abbrev pub two_names : Meaning
two_names = record {
  honest = true;
  count = 2;
  hub = 0;
  opening = storing 1;
  name = λ v. version_name (version_at v);
  plural = plural;
  group = group;
  kind = kind;
  list_kind = list_kind;
  whole = IsFixtureHub;
  pair = AreOne;
  admits = Admits;
  refuses = FixtureRefuses;
  sets = Sets;
  refuses_flags = λ bytes f. IsNone setting bytes f;
  keeps = FixtureKeeps;
  refuses_keep = λ bytes f. IsNone keeping bytes f;
  shown = shown;
  show_room = SHOW_ROOM;
}
