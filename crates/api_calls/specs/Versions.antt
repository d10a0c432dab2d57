-- What the versions of a definition promise, in the relations of its meaning.
use Rattle.std.specs.Prelude.{◌≡◌, ◌≢◌, ◌↔◌, ℕ, ℤ, pos, ◌<◌, ◌≤◌, true, List, ◌++◌, length, take, All, Option, None, IsSome, IfSome, slice_get, option_map, codes, nat_eq, FitsSigned, IsUtf8, Some, false, flat_map}
use Rattle.std.specs.Int.{w64}
use Rattle.std.specs.Str.{IsAscii}
use Rattle.std.specs.List.{IsDistinct}
use Rattle.kj_value.specs.Json.{Json, depth, object, members_of}
use Rattle.kj_value.specs.Sound.{IsSoundJson}
use Rattle.kj_value.specs.Reading.{Reads}
use Rattle.kj_value.specs.Fault.{IsRefusedJson}
use Rattle.kj_value.specs.declared.reading.JsonFault.TheVariants.{NotJson, TooDeep, NotWhole}
use Rattle.kj_value.specs.Text.{escaped_byte}
use Rattle.kj_value.specs.Fields.{Pairs}
use Rattle.kube_meta.specs.View.{ObjectView}
use Rattle.kube_meta.specs.Document.{document}
use Rattle.kube_meta.specs.Names.{is_namespace}
use Rattle.object_reading.specs.Keeping.{KeepsRules}
pub use Rattle.object_reading.specs.Written.{IsBody}
use Rattle.api_calls.specs.Cause.{why_of, cause_of, not_json, too_deep, not_whole, not_object}
use Rattle.api_calls.specs.Meaning.{Meaning, Request, Fault, bad_request, invalid, stored_text, stamped}
use Rattle.api_calls.specs.declared.flags.Flags.{Flags}
use Rattle.api_calls.specs.declared.flags.StoredList.{StoredList}
use Rattle.api_calls.specs.declared.versions.Incoming.{Incoming}
use Rattle.api_calls.specs.declared.versions.AdmitFault.{AdmitFault}
use Rattle.api_calls.specs.declared.versions.AdmitFault.TheVariants as fault
use Rattle.api_calls.specs.declared.versions.TheConstants.{OBJECT_LEVELS}

-- ---- flags and stored lists

-- one version at least is served, no place from the count on is served, and the storage version is a version
pub record AreFlags (count : ℕ) (f : Flags) : Type 0 where
  pub served : (v : ℕ) × (v < count) × (slice_get f.served v ≡ Some true)
  pub none_beyond : (v : ℕ) → count ≤ v → v < 8 → slice_get f.served v ≡ Some false
  pub storage : f.storage < count

-- the places of a stored list that count
abbrev pub versions_of : StoredList → List ℕ
versions_of s = take s.len s.items

-- at most 8 versions, which differ
pub record AreVersions (count : ℕ) (vs : List ℕ) : Type 0 where
  pub few : length vs ≤ 8
  pub known : All (λ v. v < count) vs
  pub distinct : IsDistinct nat_eq vs

-- a stored list of versions that differ
pub record IsStoredList (count : ℕ) (s : StoredList) : Type 0 where
  pub len : s.len ≤ 8
  pub versions : AreVersions count (versions_of s)

-- ---- objects of a definition

-- a stamp is a moment as text, as `2024-01-02T03:04:05Z`: 20 ASCII bytes, which JSON text spells as they are
pub record IsStamp (s : List ℕ) : Type 0 where
  pub bytes : length s ≡ 20
  pub ascii : IsAscii s
  pub plain : flat_map escaped_byte s ≡ s

-- stamps and a generation that an object can have
pub record AreStamps (birth end : Option (List ℕ)) (number : ℤ) : Type 0 where
  pub created : IfSome birth IsStamp
  pub deleted : IfSome end IsStamp
  pub generation : FitsSigned w64 number

-- an object of the definition at a version, without a number and a uid, whose metadata keep their rules: one that is read back
pub record StandsAt (m : Meaning) (v : ℕ) (x : ObjectView) : Type 0 where
  pub api_version : x.api_version ≡ m.group ++ (codes "/" ++ m.name v)
  pub kind : x.kind ≡ m.kind
  pub rules : KeepsRules x.meta
  pub no_number : x.meta.resource_version ≡ None
  pub no_uid : x.meta.uid ≡ None
  pub stamps : AreStamps x.meta.created x.meta.deleted x.meta.generation
  pub body : IsBody x.body
  pub sound : IsSoundJson (document x)
  pub levels : depth (document x) ≤ OBJECT_LEVELS

-- the bytes are the stored text, at a known version, of a whole hub value
pub record IsStored (m : Meaning) (at : ℕ) (h : ObjectView) (bytes : List ℕ) : Type 0 where
  pub form : ObjectView
  pub known : at < m.count
  pub whole : m.whole h
  pub pairs : m.pair at h form
  pub spelled : bytes ≡ stored_text form
  pub utf8 : IsUtf8 bytes

-- ---- requests

-- what an incoming request says
abbrev pub request_of : Incoming → Request
request_of r = record { version = r.version; ns = r.ns.now; name = option_map (λ s. s.now) r.name; bytes = r.bytes.now }

-- a request that the path allows: of a known version, in a namespace
pub record IsRequest (m : Meaning) (r : Request) : Type 0 where
  pub known : r.version < m.count
  pub ns : is_namespace r.ns ≡ true

-- Each fault has its cause: the request, the tool, or memory, which needs none.
abbrev pub Refused : (Fault → Type 0) → Type 0 → AdmitFault → Type 0
Refused refuses rose (fault.BadRequest why) = refuses (bad_request (why_of why))
Refused refuses rose (fault.Invalid name cause) = refuses (invalid name.bytes (cause_of cause))
Refused refuses rose fault.Tool = rose
Refused refuses rose fault.NoMemory = Unit {0}

-- ---- laws

-- the form at each version is a one-to-one function on whole hub values
pub record IsOneToOne (m : Meaning) : Type 0 where
  pub total : (v : ℕ) (h : ObjectView) → v < m.count → m.whole h → (x : ObjectView) × m.pair v h x
  pub function : (v : ℕ) (h x y : ObjectView) → v < m.count → m.whole h → m.pair v h x → m.pair v h y → x ≡ y
  pub injective : (v : ℕ) (g h x : ObjectView) → v < m.count → m.whole g → m.whole h → m.pair v g x → m.pair v h x → g ≡ h

-- Of two hub values that differ only in stamps and generation both are whole or neither, and their forms differ only in these.
pub record IgnoresStamps (m : Meaning) : Type 0 where
  pub whole : (h : ObjectView) (created deleted : Option (List ℕ)) (generation : ℤ) → AreStamps created deleted generation
      → m.whole h → m.whole (stamped h created deleted generation)
  pub pair : (v : ℕ) (h x : ObjectView) (created deleted : Option (List ℕ)) (generation : ℤ)
      → m.pair v h x → m.pair v (stamped h created deleted generation) (stamped x created deleted generation)

-- whole hub values stand at the hub, and their forms at their versions
pub record Stand (m : Meaning) : Type 0 where
  pub hub : m.hub < m.count
  pub whole : (h : ObjectView) → m.whole h → StandsAt m m.hub h
  pub pair : (v : ℕ) (h x : ObjectView) → v < m.count → m.whole h → m.pair v h x → StandsAt m v x

-- the form of a hub value has its key
pub record KeepsKey (m : Meaning) : Type 0 where
  pub name : (v : ℕ) (h x : ObjectView) → v < m.count → m.whole h → m.pair v h x → x.meta.name ≡ h.meta.name
  pub namespace : (v : ℕ) (h x : ObjectView) → v < m.count → m.whole h → m.pair v h x → x.meta.namespace ≡ h.meta.namespace

-- the form of a hub value has its finalizers
pub record KeepsFinalizers (m : Meaning) : Type 0 where
  pub same : (v : ℕ) (h x : ObjectView) → v < m.count → m.whole h → m.pair v h x → x.meta.finalizers ≡ h.meta.finalizers

-- versions have different names
pub record NamesDiffer (m : Meaning) : Type 0 where
  pub differ : (v w : ℕ) → v < m.count → w < m.count → m.name v ≡ m.name w → v ≡ w

-- what is admitted is whole and has the request's key; a number comes exactly with a request that replaces
pub record IsAdmitted (m : Meaning) (r : Request) (h : ObjectView) (number : Option ℕ) : Type 0 where
  pub namespace : h.meta.namespace ≡ r.ns
  pub name : IfSome r.name (λ n. h.meta.name ≡ n)
  pub expected : IsSome number ↔ IsSome r.name
  pub whole : m.whole h
  pub created : h.meta.created ≡ None
  pub deleted : h.meta.deleted ≡ None
  pub generation : h.meta.generation ≡ pos 0

-- whatever is admitted is so
pub record AdmitsWhole (m : Meaning) : Type 0 where
  pub admitted : (r : Request) (h : ObjectView) (e : Option ℕ) → m.admits r h e → IsAdmitted m r h e

-- a request is admitted in one way, and isn't refused beside it
pub record DecidesAdmission (m : Meaning) : Type 0 where
  pub one : (r : Request) (g h : ObjectView) (d e : Option ℕ) → m.admits r g d → m.admits r h e → (g ≡ h) × (d ≡ e)
  pub excludes : (r : Request) (h : ObjectView) (e : Option ℕ) (f : Fault) → m.admits r h e → m.refuses r f → ⊥

-- each request is admitted or refused, for whatever reason
pub record DecidesEach (m : Meaning) : Type 0 where
  pub complete : (r : Request) → IsRequest m r → ((h : ObjectView) (e : Option ℕ) → m.admits r h e → ⊥) → ((f : Fault) → m.refuses r f → ⊥) → ⊥

-- a request is refused for one reason
pub record RefusesOnce (m : Meaning) : Type 0 where
  pub one_fault : (r : Request) (f g : Fault) → m.refuses r f → m.refuses r g → f ≡ g

-- a request whose body is no object is refused for that
pub record RefusesUnread (m : Meaning) : Type 0 where
  pub not_json : (r : Request) → IsRefusedJson r.bytes OBJECT_LEVELS NotJson → m.refuses r (bad_request not_json)
  pub too_deep : (r : Request) → IsRefusedJson r.bytes OBJECT_LEVELS TooDeep → m.refuses r (bad_request too_deep)
  pub not_whole : (r : Request) → IsRefusedJson r.bytes OBJECT_LEVELS NotWhole → m.refuses r (bad_request not_whole)
  pub not_object : (r : Request) (j : Json) → Reads r.bytes OBJECT_LEVELS j → ((fields : Pairs) → j ≢ object (members_of fields))
      → m.refuses r (bad_request not_object)

-- a body says one thing or is refused for one reason, and not both
pub record DecidesBodies (A : Type 0) (says : List ℕ → A → Type 0) (refuses : List ℕ → Fault → Type 0) : Type 0 where
  pub one : (body : List ℕ) (a b : A) → says body a → says body b → a ≡ b
  pub one_fault : (body : List ℕ) (f g : Fault) → refuses body f → refuses body g → f ≡ g
  pub excludes : (body : List ℕ) (a : A) (f : Fault) → says body a → refuses body f → ⊥
  pub complete : (body : List ℕ) → ((a : A) → says body a → ⊥) → ((f : Fault) → refuses body f → ⊥) → ⊥
