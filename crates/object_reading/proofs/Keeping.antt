-- The document of metadata that keep the rules keeps them, field by field.
use Rattle.std.proofs.Common.{◌≡◌, ◌∙◌, ℕ, List, [], ◌∷◌, Option, Some, None, Bool, true, false, ◌&&◌, not, length, map, codes, ap, refl}
use Rattle.std.specs.Prelude.{option_map, nat_le}
use Rattle.std.specs.List.{list_all}
use Rattle.std.proofs.lemmas.List.{length-map}
use Rattle.kj_value.specs.Json.{Json, text}
use Rattle.kj_value.specs.Fields.{Pairs, field}
use Rattle.kube_meta.specs.Names.{is_name, is_namespace}
use Rattle.kube_meta.specs.View.{Texts, MetaView}
use Rattle.kube_meta.specs.Document.{some_text, some_texts, some_list, text_fields, metadata}
use Rattle.object_reading.specs.Labels.{is_annotation_key}
use Rattle.object_reading.specs.Finalizers.{is_finalizer}
use Rattle.object_reading.specs.Numbers.{is_resource_version}
use Rattle.object_reading.specs.Fields.{given}
use Rattle.object_reading.specs.Rules.{keeps, is_text, is_list, any_list, is_label, are_labels, is_annotation, are_annotations, few_finalizers, are_finalizers, is_named, field_keeps}
use Rattle.object_reading.specs.Refusal.{judged_fields}
use Rattle.object_reading.specs.Keeping.{is_empty_or, is_none_or, is_label_pair, is_annotation_pair, KeepsRules}
use Rattle.object_reading.specs.declared.finalizers.TheConstants.{FINALIZERS}
use Rattle.object_reading.proofs.Lists.{pairs_members, list_items}
use Rattle.object_reading.proofs.Metadata.{at}
use Rattle.object_reading.proofs.Holding.{NoneHolds}

and_true : (b : Bool) → (b && true) ≡ b
and_true true = refl
and_true false = refl

both : (a b : Bool) → a ≡ true → b ≡ true → (a && b) ≡ true
both a b e f = rw (e, f) refl

label_fields : (ts : Texts) → list_all is_label (text_fields ts) ≡ list_all is_label_pair ts
label_fields [] = refl
label_fields (t ∷ ts) = ap (λ (b : Bool). is_label_pair t && b) (label_fields ts)

annotation_fields : (ts : Texts) → list_all is_annotation (text_fields ts) ≡ list_all is_annotation_pair ts
annotation_fields [] = refl
annotation_fields (t ∷ ts) =
    ap (λ (b : Bool). b && list_all is_annotation (text_fields ts)) (and_true (is_annotation_key t.0))
    ∙ ap (λ (b : Bool). is_annotation_pair t && b) (annotation_fields ts)

finalizer_items : (ss : List (List ℕ)) → list_all (is_text is_finalizer) (map text ss) ≡ list_all is_finalizer ss
finalizer_items [] = refl
finalizer_items (s ∷ ss) = ap (λ (b : Bool). is_finalizer s && b) (finalizer_items ss)

labels_keep : (ts : Texts) → list_all is_label_pair ts ≡ true → keeps are_labels (given (some_texts ts)) ≡ true
labels_keep [] h = refl
labels_keep (t ∷ ts) h = ap (list_all is_label) (pairs_members (text_fields (t ∷ ts))) ∙ label_fields (t ∷ ts) ∙ h

annotations_keep : (ts : Texts) → list_all is_annotation_pair ts ≡ true → keeps are_annotations (given (some_texts ts)) ≡ true
annotations_keep [] h = refl
annotations_keep (t ∷ ts) h = ap (list_all is_annotation) (pairs_members (text_fields (t ∷ ts))) ∙ annotation_fields (t ∷ ts) ∙ h

finalizers_keep : (ss : List (List ℕ)) → nat_le (length ss) FINALIZERS ≡ true → list_all is_finalizer ss ≡ true → keeps are_finalizers (given (some_list (map text ss))) ≡ true
finalizers_keep [] few h = refl
finalizers_keep (s ∷ ss) few h =
    ap few_finalizers (list_items (map text (s ∷ ss)))
    ∙ both _ _ (ap (λ (n : ℕ). nat_le n FINALIZERS) (length-map (s ∷ ss) text) ∙ few) (finalizer_items (s ∷ ss) ∙ h)

namespace_keeps : (s : List ℕ) → is_empty_or is_namespace s ≡ true → keeps (is_text is_namespace) (given (some_text s)) ≡ true
namespace_keeps [] h = refl
namespace_keeps (b ∷ bs) h = h

owners_keep : (js : List Json) → keeps (is_list any_list) (given (some_list js)) ≡ true
owners_keep [] = refl
owners_keep (j ∷ js) = refl

number_keeps : (o : Option (List ℕ)) → is_none_or is_resource_version o ≡ true → keeps (is_text is_resource_version) (given (option_map text o)) ≡ true
number_keeps None h = refl
number_keeps (Some s) h = h

no_name : is_name [] ≡ true → ⊥
unfolding is_name
no_name e = cc

name_keeps : (s : List ℕ) → is_name s ≡ true → is_named (given (some_text s)) ≡ true
name_keeps [] h = absurd (no_name h)
name_keeps (b ∷ bs) h = h

-- what a field is found to be keeps the rule
kept : (rule : Json → Bool) (k : List ℕ) (ms : Pairs) (o : Option Json) → field k ms ≡ o → keeps rule (given o) ≡ true → not (field_keeps rule k ms) ≡ false
kept rule k ms o e h = ap not (ap (λ (p : Option Json). keeps rule (given p)) e ∙ h)

pub metadata_keep : (m : MetaView) → KeepsRules m → NoneHolds (judged_fields (metadata m))
metadata_keep m h = (
  kept are_annotations (codes "annotations") (metadata m) (some_texts m.annotations) (at (codes "annotations") m (some_texts m.annotations) refl) (annotations_keep m.annotations h.annotations),
  (
    kept are_finalizers (codes "finalizers") (metadata m) (some_list (map text m.finalizers)) (at (codes "finalizers") m (some_list (map text m.finalizers)) refl) (finalizers_keep m.finalizers h.few h.finalizers),
    (
      kept are_labels (codes "labels") (metadata m) (some_texts m.labels) (at (codes "labels") m (some_texts m.labels) refl) (labels_keep m.labels h.labels),
      (
        kept (is_text is_namespace) (codes "namespace") (metadata m) (some_text m.namespace) (at (codes "namespace") m (some_text m.namespace) refl) (namespace_keeps m.namespace h.namespace),
        (
          kept (is_list any_list) (codes "ownerReferences") (metadata m) (some_list m.owners) (at (codes "ownerReferences") m (some_list m.owners) refl) (owners_keep m.owners),
          (
            kept (is_text is_resource_version) (codes "resourceVersion") (metadata m) (option_map text m.resource_version) (at (codes "resourceVersion") m (option_map text m.resource_version) refl) (number_keeps m.resource_version h.resource_version),
            (
              ap not (ap (λ (p : Option Json). is_named (given p)) (at (codes "name") m (some_text m.name) refl) ∙ name_keeps m.name h.name),
              tt,
            ),
          ),
        ),
      ),
    ),
  ),
)
