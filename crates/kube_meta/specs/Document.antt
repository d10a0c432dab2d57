-- The document of an object: its body's fields with `apiVersion`, `kind` and `metadata` put over them.
use Rattle.std.specs.Prelude.{ℕ, ℤ, pos, List, [], ◌∷◌, ◌++◌, Option, Some, None, option_map, map, codes, if◌then◌else◌}
use Rattle.std.specs.Ordering.{int_eq}
use Rattle.kj_value.specs.Json.{Json, whole, text, list, object, items_of, members_of}
use Rattle.kj_value.specs.Fields.{Pairs, with_field}
use Rattle.kube_meta.specs.View.{Texts, MetaView, ObjectView}

-- the field, where there is something to write
abbrev pub optional : List ℕ → Option Json → Pairs
optional name None = []
optional name (Some j) = (name, j) ∷ []

-- an empty text isn't written
abbrev pub some_text : List ℕ → Option Json
some_text [] = None
some_text (b ∷ bs) = Some (text (b ∷ bs))

-- texts by name, as an object's fields
abbrev pub text_fields : Texts → Pairs
text_fields ts = map (λ t. (t.0, text t.1)) ts

-- an empty map isn't written
abbrev pub some_texts : Texts → Option Json
some_texts [] = None
some_texts (t ∷ ts) = Some (object (members_of (text_fields (t ∷ ts))))

-- an empty list isn't written
abbrev pub some_list : List Json → Option Json
some_list [] = None
some_list (j ∷ js) = Some (list (items_of (j ∷ js)))

-- generation 0 isn't written
abbrev pub some_generation : ℤ → Option Json
some_generation z = if int_eq z (pos 0) then None else Some (whole z)

-- the fields of the metadata, their names rising by bytes
unfoldable pub metadata : MetaView → Pairs
metadata m =
    optional (codes "annotations") (some_texts m.annotations)
    ++ optional (codes "creationTimestamp") (option_map text m.created)
    ++ optional (codes "deletionTimestamp") (option_map text m.deleted)
    ++ optional (codes "finalizers") (some_list (map text m.finalizers))
    ++ optional (codes "generation") (some_generation m.generation)
    ++ optional (codes "labels") (some_texts m.labels)
    ++ optional (codes "name") (some_text m.name)
    ++ optional (codes "namespace") (some_text m.namespace)
    ++ optional (codes "ownerReferences") (some_list m.owners)
    ++ optional (codes "resourceVersion") (option_map text m.resource_version)
    ++ optional (codes "uid") (option_map text m.uid)

-- where the body has one of the three names, the object's own value stands in its place
unfoldable pub document : ObjectView → Json
document o = object (members_of
    (with_field (codes "metadata") (object (members_of (metadata o.meta)))
    (with_field (codes "kind") (text o.kind)
    (with_field (codes "apiVersion") (text o.api_version) o.body))))
