-- What an object and its metadata are seen as: texts as their bytes, values as JSON values.
use Rattle.std.specs.Prelude.{ℕ, ℤ, List, Option, option_map}
use Rattle.kj_value.specs.Json.{Json}
use Rattle.kj_value.specs.Fields.{Pairs}
use Rattle.kj_value.specs.Texts.{bytes_of}
use Rattle.kj_value.specs.declared.stamp.Stamp.{Stamp}
use Rattle.kube_meta.specs.declared.object.Meta.{Meta}
use Rattle.kube_meta.specs.declared.object.Object.{Object}

-- texts by name, the names strictly rising by bytes
abbrev pub Texts : Type 0
Texts = List (List ℕ × List ℕ)

-- the metadata that is kept of an object: generation 0 stands for none, and an empty list for an absent one
pub record MetaView : Type 0 where
  pub name : List ℕ
  pub namespace : List ℕ
  pub labels : Texts
  pub annotations : Texts
  pub finalizers : List (List ℕ)
  pub owners : List Json
  pub created : Option (List ℕ)
  pub deleted : Option (List ℕ)
  pub generation : ℤ
  pub resource_version : Option (List ℕ)
  pub uid : Option (List ℕ)

-- `body` has every top name but the apiVersion, the kind and the metadata
pub record ObjectView : Type 0 where
  pub api_version : List ℕ
  pub kind : List ℕ
  pub meta : MetaView
  pub body : Pairs

abbrev pub stamp_bytes : Stamp → List ℕ
stamp_bytes s = s.text

abbrev pub meta_of : Meta → MetaView
meta_of m = record {
  name = m.name.bytes;
  namespace = m.namespace.bytes;
  labels = m.labels;
  annotations = m.annotations;
  finalizers = m.finalizers;
  owners = m.owners;
  created = option_map stamp_bytes m.created;
  deleted = option_map stamp_bytes m.deleted;
  generation = m.generation;
  resource_version = option_map bytes_of m.resource_version;
  uid = option_map bytes_of m.uid;
}

abbrev pub object_of : Object → ObjectView
object_of o = record {
  api_version = o.api_version.bytes;
  kind = o.kind.bytes;
  meta = meta_of o.meta;
  body = o.body;
}
