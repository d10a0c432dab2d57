-- What a definition means whose objects a converter turns.
use Rattle.std.specs.Prelude.{◌≡◌, ◌≢◌, ◌<◌, ◌≤◌, ℕ, suc, Bool, Option, Some, None, IsTrue}
use Rattle.kj_value.specs.Json.{object, members_of, members_depth}
use Rattle.kj_value.specs.Fields.{Pairs, AreInOrder}
use Rattle.kj_value.specs.declared.rule.Rule.TheVariants as rule
use Rattle.kube_meta.specs.View.{ObjectView}
use Rattle.object_reading.specs.Keeping.{KeepsRules}
use Rattle.object_reading.specs.Written.{IsBody}
use Rattle.struct_schema.specs.Fault.{fault}
use Rattle.prune_default.specs.SoundDefaults.{HasSoundDefaults}
use Rattle.api_calls.specs.Meaning.{Meaning, Request, Fault, measure}
use Rattle.api_calls.specs.Versions.{AreStamps}
use Rattle.api_calls.specs.declared.versions.TheConstants.{OBJECT_LEVELS}
use Rattle.hub_cells.specs.Level.{Name}
use Rattle.keep_laws.specs.Spokes.{api_version}
use Rattle.crd_reading.specs.Accepted.{AreOffered}
use Rattle.crd_meaning.specs.declared.limits.TheConstants.{MAX_MEASURE}
use Rattle.crd_meaning.specs.Definition.{Definition, count_of, version_at, opening_of}
use Rattle.crd_meaning.specs.Objects.{IsMeta}
use Rattle.crd_meaning.specs.Request.{breaks}
use Rattle.crd_meaning.specs.Admission.{Passes, IsFilling}
use Rattle.crd_meaning.specs.Refusal.{IsNoValue, IsEarly, IsBroken, object_path}
use Rattle.crd_meaning.specs.Meant.{Settings}
use Rattle.converters.specs.Turned.{Turned, Stays, IgnoresStamps}

-- a definition without rules, and what its converter turns objects to, where that is known
pub record Hooked : Type 0 where
  pub definition : Definition
  pub honest : Bool
  pub turned : Turned

-- what loading has made sure of, and what a converter promises where it is honest
pub record IsHooked (k : Hooked) : Type 0 where
  pub few : (2 ≤ count_of k.definition) × (count_of k.definition ≤ 8)
  pub hub : k.definition.hub < count_of k.definition
  pub offered : AreOffered k.definition.view.versions
  pub stays : IsTrue k.honest → Stays k.turned
  pub unstamped : IsTrue k.honest → IgnoresStamps k.turned

-- each default of each version's schema is a JSON value
abbrev pub HaveSoundDefaults : Hooked → Type 0
HaveSoundDefaults k = (v : ℕ) → v < count_of k.definition → HasSoundDefaults (version_at k.definition v).schema

-- ---- at a version

-- GROUP/VERSION
abbrev pub version_text : Definition → ℕ → Name
version_text d v = api_version d.view.group (version_at d v).name

-- The body is valid and filled by the version's schema, and leaves the three names to the object's own values.
pub record IsBodyAt (d : Definition) (v : ℕ) (body : Pairs) : Type 0 where
  pub free : IsBody body
  pub valid : fault (version_at d v).schema (object (members_of body)) ≡ None
  pub filled : IsFilling (version_at d v).schema body body
  pub levels : suc (members_depth (members_of body)) ≤ OBJECT_LEVELS

-- the object has the version, such a body, and metadata that can be written
pub record IsAt (d : Definition) (v : ℕ) (x : ObjectView) : Type 0 where
  pub version : x.api_version ≡ version_text d v
  pub body : IsBodyAt d v x.body
  pub annotations : AreInOrder x.meta.annotations
  pub meta : IsMeta x.meta

-- it is one of the definition, without a number and a uid, and its metadata keep their rules
pub record Stands (d : Definition) (v : ℕ) (x : ObjectView) : Type 0 where
  pub at : IsAt d v x
  pub kind : x.kind ≡ d.view.kind
  pub rules : KeepsRules x.meta
  pub no_number : x.meta.resource_version ≡ None
  pub no_uid : x.meta.uid ≡ None

-- The object is at the version and has the kind of a hub value and its metadata but for labels and annotations, which keep their rules
-- where those of the hub value do. At the hub it is the hub value.
pub record Near (d : Definition) (v : ℕ) (h x : ObjectView) : Type 0 where
  pub at : IsAt d v x
  pub kind : x.kind ≡ h.kind
  pub meta : x.meta ≡ record h.meta { labels = x.meta.labels; annotations = x.meta.annotations }
  pub rules : KeepsRules h.meta → KeepsRules x.meta
  pub hub : v ≡ d.hub → x ≡ h

-- ---- hub values and their forms

-- the form of a hub value at a version: what an honest converter turns it to
pub record IsForm (k : Hooked) (v : ℕ) (h x : ObjectView) : Type 0 where
  pub near : Near k.definition v h x
  pub turned : IsTrue k.honest → v ≢ k.definition.hub → k.turned h (version_text k.definition v) ≡ Some x

-- a hub value is turned to an object that stands at the version, and that one is turned back to it
pub record ComesBack (k : Hooked) (v : ℕ) (h : ObjectView) : Type 0 where
  pub form : ObjectView
  pub there : k.turned h (version_text k.definition v) ≡ Some form
  pub stands : Stands k.definition v form
  pub back : k.turned form (version_text k.definition k.definition.hub) ≡ Some h

-- it stands at the hub, and comes back from each other version where the converter is honest
pub record IsWhole (k : Hooked) (h : ObjectView) : Type 0 where
  pub stands : Stands k.definition k.definition.hub h
  pub stamps : AreStamps h.meta.created h.meta.deleted h.meta.generation
  pub back : IsTrue k.honest → (v : ℕ) → v < count_of k.definition → v ≢ k.definition.hub → ComesBack k v h

-- ---- admission

-- the hub value of a filled object at a version: the object at the hub, and else what an honest converter turns it to
pub record IsHubOf (k : Hooked) (v : ℕ) (x h : ObjectView) : Type 0 where
  pub near : Near k.definition v h x
  pub whole : IsWhole k h
  pub turned : IsTrue k.honest → v ≢ k.definition.hub → k.turned x (version_text k.definition k.definition.hub) ≡ Some h

-- the measure isn't above the limit at any version
abbrev pub IsLight : Hooked → ObjectView → Type 0
IsLight k h = (v : ℕ) (x : ObjectView) → v < count_of k.definition → IsForm k v h x → measure x ≤ MAX_MEASURE

pub record Admits (k : Hooked) (r : Request) (h : ObjectView) (e : Option ℕ) : Type 0 where
  pub object : ObjectView
  pub passes : Passes k.definition r object e
  pub hub : IsHubOf k r.version object h
  pub light : IsTrue k.honest → IsLight k h

-- the object stands elsewhere, and an honest converter turns it to nothing at the hub
pub record IsUnconverted (k : Hooked) (r : Request) (f : Fault) : Type 0 where
  pub object : ObjectView
  pub number : Option ℕ
  pub passes : Passes k.definition r object number
  pub elsewhere : r.version ≢ k.definition.hub
  pub none : IsTrue k.honest → k.turned object (version_text k.definition k.definition.hub) ≡ None
  pub told : f ≡ breaks object.meta.name object_path rule.Converted

-- it has a hub value, which measures too much at some version
pub record IsTooLarge (k : Hooked) (r : Request) (f : Fault) : Type 0 where
  pub object : ObjectView
  pub number : Option ℕ
  pub passes : Passes k.definition r object number
  pub large : IsTrue k.honest → (h : ObjectView) × IsHubOf k r.version object h × (IsLight k h → ⊥)
  pub told : f ≡ breaks object.meta.name object_path rule.Size

-- The steps before a converter is asked are the causes of what they refuse for every converter.
pub data Refuses (k : Hooked) (r : Request) (f : Fault) : Type 0 where
  no_value : IsNoValue r f → Refuses k r f
  is_early : IsEarly k.definition r f → Refuses k r f
  is_broken : IsBroken k.definition r f → Refuses k r f
  unconverted : IsUnconverted k r f → Refuses k r f
  too_large : IsTooLarge k r f → Refuses k r f

-- ---- all of it

abbrev pub hook_meaning : Hooked → Settings → Meaning
hook_meaning k o = record {
  honest = k.honest;
  count = count_of k.definition;
  hub = k.definition.hub;
  opening = opening_of k.definition;
  name = λ v. (version_at k.definition v).name;
  plural = k.definition.view.plural;
  group = k.definition.view.group;
  kind = k.definition.view.kind;
  list_kind = k.definition.view.list_kind;
  whole = IsWhole k;
  pair = IsForm k;
  admits = Admits k;
  refuses = Refuses k;
  sets = o.sets;
  refuses_flags = o.refuses_flags;
  keeps = o.keeps;
  refuses_keep = o.refuses_keep;
  shown = o.shown;
  show_room = o.show_room;
}
