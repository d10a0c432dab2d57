-- What is refused of an object's document, and in which order.
use Rattle.std.specs.Prelude.{◌≡◌, ℕ, Bool, false, not, List, [], ◌∷◌, Option, None, Some, codes, if◌then◌else◌}
use Rattle.std.specs.Str.{bytes_eq}
use Rattle.kj_value.specs.Json.{Json, null, boolean, whole, text, list, object}
use Rattle.kj_value.specs.Fields.{Pairs, field}
use Rattle.kube_meta.specs.Names.{is_namespace}
use Rattle.object_reading.specs.Numbers.{is_resource_version}
use Rattle.object_reading.specs.Fields.{pairs_of, given, object_at}
use Rattle.object_reading.specs.Rules.{keeps, is_text, is_list, is_object, any_text, any_list, any_object, are_labels, are_annotations, are_finalizers, field_keeps, is_named}
use Rattle.object_reading.specs.declared.fault.ObjectFault.{ObjectFault}
use Rattle.object_reading.specs.declared.fault.ObjectFault.TheVariants.{NotObject, BadVersion, WrongKind, BadMeta, BadName, NoMemory}

pub data Refusal : Type 0 where
  not_object : Refusal
  bad_version : Refusal
  wrong_kind : Refusal
  bad_meta : List ℕ → Refusal
  bad_name : Refusal

-- refusals, each with whether it holds
abbrev pub Judged : Type 0
Judged = List (Refusal × Bool)

-- the first one that holds
abbrev pub first_holding : Judged → Option Refusal
first_holding [] = None
first_holding (r ∷ rs) = if r.1 then Some r.0 else first_holding rs

-- the fields of the metadata that have rules, in the order of their names, and then the name
abbrev pub judged_fields : Pairs → Judged
judged_fields ms =
    (bad_meta (codes "annotations"), not (field_keeps are_annotations (codes "annotations") ms))
    ∷ (bad_meta (codes "finalizers"), not (field_keeps are_finalizers (codes "finalizers") ms))
    ∷ (bad_meta (codes "labels"), not (field_keeps are_labels (codes "labels") ms))
    ∷ (bad_meta (codes "namespace"), not (field_keeps (is_text is_namespace) (codes "namespace") ms))
    ∷ (bad_meta (codes "ownerReferences"), not (field_keeps (is_list any_list) (codes "ownerReferences") ms))
    ∷ (bad_meta (codes "resourceVersion"), not (field_keeps (is_text is_resource_version) (codes "resourceVersion") ms))
    ∷ (bad_name, not (is_named (given (field (codes "name") ms))))
    ∷ []

-- the same of metadata whose name and namespace aren't looked at
abbrev pub judged_unnamed : Pairs → Judged
judged_unnamed ms =
    (bad_meta (codes "annotations"), not (field_keeps are_annotations (codes "annotations") ms))
    ∷ (bad_meta (codes "finalizers"), not (field_keeps are_finalizers (codes "finalizers") ms))
    ∷ (bad_meta (codes "labels"), not (field_keeps are_labels (codes "labels") ms))
    ∷ (bad_meta (codes "ownerReferences"), not (field_keeps (is_list any_list) (codes "ownerReferences") ms))
    ∷ (bad_meta (codes "resourceVersion"), not (field_keeps (is_text is_resource_version) (codes "resourceVersion") ms))
    ∷ []

-- metadata of another kind than an object are the field with the empty name
abbrev pub judged_metadata : Option Json → Judged
judged_metadata m = (bad_meta [], not (keeps (is_object any_object) m)) ∷ judged_fields (object_at m)

abbrev pub is_given_text : (List ℕ → Bool) → Option Json → Bool
is_given_text kind None = false
is_given_text kind (Some j) = is_text kind j

abbrev pub judged : List ℕ → Pairs → Judged
judged kind es =
    (bad_version, not (is_given_text any_text (field (codes "apiVersion") es)))
    ∷ (wrong_kind, not (is_given_text (λ s. bytes_eq s kind) (field (codes "kind") es)))
    ∷ judged_metadata (given (field (codes "metadata") es))

-- what is refused of a document where objects of a kind are wanted
unfoldable pub refusal : List ℕ → Json → Option Refusal
refusal kind null = Some not_object
refusal kind (boolean b) = Some not_object
refusal kind (whole z) = Some not_object
refusal kind (text s) = Some not_object
refusal kind (list js) = Some not_object
refusal kind (object ms) = first_holding (judged kind (pairs_of ms))

-- the fault is the refusal, or tells of memory, for which there is no condition
abbrev pub Tells : ObjectFault → Option Refusal → Type 0
Tells NotObject r = r ≡ Some not_object
Tells BadVersion r = r ≡ Some bad_version
Tells WrongKind r = r ≡ Some wrong_kind
Tells (BadMeta field) r = r ≡ Some (bad_meta field.bytes)
Tells BadName r = r ≡ Some bad_name
Tells NoMemory r = Unit {0}
