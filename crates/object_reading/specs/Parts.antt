-- Which object a document is, part by part.
use Rattle.std.specs.Prelude.{ℕ, ℤ, pos, List, [], ◌∷◌, ◌++◌, Option, None, Some, unwrap_or, codes}
use Rattle.kj_value.specs.Json.{Json, null, boolean, whole, text, list, object}
use Rattle.kj_value.specs.Fields.{Pairs, field, with_field, without_field}
use Rattle.kube_meta.specs.View.{Texts, MetaView, ObjectView}
use Rattle.object_reading.specs.Fields.{object_at, list_at, text_at}

-- the text that stands there, or the empty one
abbrev pub text_or_empty : Option Json → List ℕ
text_or_empty o = unwrap_or (text_at o) []

-- the number that stands there, or 0
abbrev pub number_at : Option Json → ℤ
number_at None = pos 0
number_at (Some null) = pos 0
number_at (Some (boolean b)) = pos 0
number_at (Some (whole z)) = z
number_at (Some (text s)) = pos 0
number_at (Some (list js)) = pos 0
number_at (Some (object ms)) = pos 0

-- a field's name and text, where its value is a text
abbrev pub text_field : List ℕ → Json → Texts
text_field k null = []
text_field k (boolean b) = []
text_field k (whole z) = []
text_field k (text s) = (k, s) ∷ []
text_field k (list js) = []
text_field k (object ms) = []

abbrev pub texts_in : Pairs → Texts
texts_in [] = []
texts_in (e ∷ es) = text_field e.0 e.1 ++ texts_in es

-- the text that an item is
abbrev pub text_item : Json → List (List ℕ)
text_item null = []
text_item (boolean b) = []
text_item (whole z) = []
text_item (text s) = s ∷ []
text_item (list js) = []
text_item (object ms) = []

abbrev pub text_items : List Json → List (List ℕ)
text_items [] = []
text_items (j ∷ js) = text_item j ++ text_items js

-- the metadata that fields are
unfoldable pub meta_in : Pairs → MetaView
meta_in ms = record {
  name = text_or_empty (field (codes "name") ms);
  namespace = text_or_empty (field (codes "namespace") ms);
  labels = texts_in (object_at (field (codes "labels") ms));
  annotations = texts_in (object_at (field (codes "annotations") ms));
  finalizers = text_items (list_at (field (codes "finalizers") ms));
  owners = list_at (field (codes "ownerReferences") ms);
  created = text_at (field (codes "creationTimestamp") ms);
  deleted = text_at (field (codes "deletionTimestamp") ms);
  generation = number_at (field (codes "generation") ms);
  resource_version = text_at (field (codes "resourceVersion") ms);
  uid = text_at (field (codes "uid") ms);
}

-- what is left of an object's fields for its body
abbrev pub body_in : Pairs → Pairs
body_in es = without_field (codes "apiVersion") (without_field (codes "kind") (without_field (codes "metadata") es))

-- the object that an object's fields are, as it was written
abbrev pub parts_in : Pairs → ObjectView
parts_in es = record {
  api_version = text_or_empty (field (codes "apiVersion") es);
  kind = text_or_empty (field (codes "kind") es);
  meta = meta_in (object_at (field (codes "metadata") es));
  body = body_in es;
}

abbrev pub whole_in : Json → ObjectView
whole_in j = parts_in (object_at (Some j))

-- an empty number is none
abbrev pub not_empty : Option (List ℕ) → Option (List ℕ)
not_empty None = None
not_empty (Some []) = None
not_empty (Some (b ∷ bs)) = Some (b ∷ bs)

-- the stamps, the generation and the uid are the server's, and passed over
abbrev pub submitted_meta : MetaView → MetaView
submitted_meta m = record m {
  created = None;
  deleted = None;
  generation = pos 0;
  resource_version = not_empty m.resource_version;
  uid = None;
}

abbrev pub submitted : ObjectView → ObjectView
submitted x = record x { meta = submitted_meta x.meta }

-- the object that the document submits
abbrev pub object_in : Json → ObjectView
object_in j = submitted (whole_in j)

-- ---- for private clauses: texts that are put into a map one by one

abbrev pub added : Texts → List ℕ → Json → Texts
added ts k null = ts
added ts k (boolean b) = ts
added ts k (whole z) = ts
added ts k (text s) = with_field k s ts
added ts k (list js) = ts
added ts k (object ms) = ts

abbrev pub all_added : Texts → Pairs → Texts
all_added ts [] = ts
all_added ts (e ∷ es) = all_added (added ts e.0 e.1) es
