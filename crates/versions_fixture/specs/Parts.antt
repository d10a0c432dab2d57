-- The definition's names, and an object of it by the parts that it may have.
use Rattle.std.specs.Prelude.{ℕ, ℤ, pos, ◌==◌, List, [], ◌∷◌, ◌++◌, Option, None, Some, option_map, codes, if◌then◌else◌}
use Rattle.kj_value.specs.Json.{Json, null, boolean, whole, text, list, object}
use Rattle.kj_value.specs.Fields.{Pairs}
use Rattle.kj_value.specs.Kinds.{as_text}
use Rattle.kube_meta.specs.View.{MetaView, ObjectView, stamp_bytes}
use Rattle.versions_fixture.specs.declared.parts.Version.{Version}
use Rattle.versions_fixture.specs.declared.parts.Version.TheVariants.{V1, V1beta1}
use Rattle.versions_fixture.specs.declared.parts.Parts.{Parts}

abbrev pub group : List ℕ
group = codes "example.com"

abbrev pub plural : List ℕ
plural = codes "crontabs"

abbrev pub kind : List ℕ
kind = codes "CronTab"

abbrev pub list_kind : List ℕ
list_kind = codes "CronTabList"

-- the version at a place
abbrev pub version_at : ℕ → Version
version_at v = if v == 0 then V1 else V1beta1

abbrev pub version_name : Version → List ℕ
version_name V1 = codes "v1"
version_name V1beta1 = codes "v1beta1"

abbrev pub api_version : Version → List ℕ
api_version v = group ++ (codes "/" ++ version_name v)

-- the one property at a version; its value is the same at both
abbrev pub field_name : Version → List ℕ
field_name V1 = codes "host"
field_name V1beta1 = codes "address"

-- what an object may have: 0 stands for no generation, and an empty namespace for none
pub record PartsView : Type 0 where
  pub name : List ℕ
  pub namespace : List ℕ
  pub created : Option (List ℕ)
  pub deleted : Option (List ℕ)
  pub generation : ℤ
  pub value : Option (List ℕ)

abbrev pub parts_of : Parts → PartsView
parts_of p = record {
  name = p.name.now;
  namespace = p.namespace.now;
  created = option_map stamp_bytes p.created;
  deleted = option_map stamp_bytes p.deleted;
  generation = p.generation;
  value = option_map (λ s. s.now) p.value;
}

abbrev pub meta_at : PartsView → MetaView
meta_at p = record {
  name = p.name;
  namespace = p.namespace;
  labels = [];
  annotations = [];
  finalizers = [];
  owners = [];
  created = p.created;
  deleted = p.deleted;
  generation = p.generation;
  resource_version = None;
  uid = None;
}

abbrev pub body_at : Version → Option (List ℕ) → Pairs
body_at v None = []
body_at v (Some value) = (field_name v, text value) ∷ []

-- an object at a version
abbrev pub object_at : Version → PartsView → ObjectView
object_at v p = record { api_version = api_version v; kind = kind; meta = meta_at p; body = body_at v p.value }

-- what a client submits: a name and the value of the one property
abbrev pub bare : List ℕ → Option (List ℕ) → PartsView
bare name value = record { name = name; namespace = []; created = None; deleted = None; generation = pos 0; value = value }

-- ---- for private clauses: the text or the number that a field holds

abbrev pub text_in : Json → Option (List ℕ)
text_in j = as_text j

abbrev pub number_in : Option Json → ℤ
number_in None = pos 0
number_in (Some null) = pos 0
number_in (Some (boolean b)) = pos 0
number_in (Some (whole z)) = z
number_in (Some (text s)) = pos 0
number_in (Some (list js)) = pos 0
number_in (Some (object ms)) = pos 0
