-- What is read of fields that keep the rules keeps them.
use Rattle.std.proofs.Common.{◌≡◌, ◌∙◌, ℕ, List, [], ◌∷◌, Option, Some, None, Bool, true, false, ◌&&◌, not, length, codes, ap, refl, subst}
use Rattle.std.specs.Prelude.{nat_le}
use Rattle.std.specs.List.{list_all}
use Rattle.kj_value.specs.Json.{Json, null, boolean, whole, text, list, object}
use Rattle.kj_value.specs.Fields.{Pairs, field}
use Rattle.kube_meta.specs.Names.{is_name, is_namespace}
use Rattle.object_reading.specs.Labels.{is_label_key, is_label_value, is_annotation_key}
use Rattle.object_reading.specs.Finalizers.{is_finalizer}
use Rattle.object_reading.specs.Numbers.{is_resource_version}
use Rattle.object_reading.specs.Fields.{pairs_of, list_of, given, object_at, list_at, text_at}
use Rattle.object_reading.specs.Rules.{keeps, is_text, is_label, are_labels, is_annotation, are_annotations, are_finalizers, is_named}
use Rattle.object_reading.specs.Refusal.{judged_fields, judged}
use Rattle.object_reading.specs.Parts.{text_or_empty, texts_in, text_items, meta_in, parts_in, submitted, submitted_meta, not_empty}
use Rattle.object_reading.specs.Keeping.{is_empty_or, is_none_or, is_label_pair, is_annotation_pair, KeepsRules}
use Rattle.object_reading.specs.declared.finalizers.TheConstants.{FINALIZERS}
use Rattle.object_reading.proofs.Holding.{NoneHolds}

first_true : (a b : Bool) → (a && b) ≡ true → a ≡ true
first_true true b e = refl
first_true false b e = absurd (cc)

second_true : (a b : Bool) → (a && b) ≡ true → b ≡ true
second_true true b e = e
second_true false b e = absurd (cc)

never_and : (a : Bool) → (a && false) ≡ true → ⊥
never_and true e = cc
never_and false e = cc

both : (a b : Bool) → a ≡ true → b ≡ true → (a && b) ≡ true
both a b e f = rw (e, f) refl

no_denial : (b : Bool) → not b ≡ false → b ≡ true
no_denial true e = refl
no_denial false e = absurd (cc)

one_label : (k : List ℕ) (j : Json) (es : Pairs) → is_label (k, j) ≡ true → list_all is_label_pair (texts_in es) ≡ true → list_all is_label_pair (texts_in ((k, j) ∷ es)) ≡ true
one_label k null es h more = absurd (never_and (is_label_key k) h)
one_label k (boolean b) es h more = absurd (never_and (is_label_key k) h)
one_label k (whole z) es h more = absurd (never_and (is_label_key k) h)
one_label k (text s) es h more = both (is_label_key k && is_label_value s) (list_all is_label_pair (texts_in es)) h more
one_label k (list js) es h more = absurd (never_and (is_label_key k) h)
one_label k (object ms) es h more = absurd (never_and (is_label_key k) h)

label_texts : (es : Pairs) → list_all is_label es ≡ true → list_all is_label_pair (texts_in es) ≡ true
label_texts [] h = refl
label_texts (e ∷ es) h =
    one_label e.0 e.1 es (first_true (is_label e) (list_all is_label es) h) (label_texts es (second_true (is_label e) (list_all is_label es) h))

one_annotation : (k : List ℕ) (j : Json) (es : Pairs) → is_annotation (k, j) ≡ true → list_all is_annotation_pair (texts_in es) ≡ true → list_all is_annotation_pair (texts_in ((k, j) ∷ es)) ≡ true
one_annotation k null es h more = absurd (never_and (is_annotation_key k) h)
one_annotation k (boolean b) es h more = absurd (never_and (is_annotation_key k) h)
one_annotation k (whole z) es h more = absurd (never_and (is_annotation_key k) h)
one_annotation k (text s) es h more = both (is_annotation_key k) (list_all is_annotation_pair (texts_in es)) (first_true (is_annotation_key k) true h) more
one_annotation k (list js) es h more = absurd (never_and (is_annotation_key k) h)
one_annotation k (object ms) es h more = absurd (never_and (is_annotation_key k) h)

annotation_texts : (es : Pairs) → list_all is_annotation es ≡ true → list_all is_annotation_pair (texts_in es) ≡ true
annotation_texts [] h = refl
annotation_texts (e ∷ es) h =
    one_annotation e.0 e.1 es (first_true (is_annotation e) (list_all is_annotation es) h) (annotation_texts es (second_true (is_annotation e) (list_all is_annotation es) h))

one_finalizer : (j : Json) (js : List Json) → is_text is_finalizer j ≡ true → (length (text_items js) ≡ length js) × (list_all is_finalizer (text_items js) ≡ true)
    → (length (text_items (j ∷ js)) ≡ length (j ∷ js)) × (list_all is_finalizer (text_items (j ∷ js)) ≡ true)
one_finalizer null js h more = absurd (cc)
one_finalizer (boolean b) js h more = absurd (cc)
one_finalizer (whole z) js h more = absurd (cc)
one_finalizer (text s) js h more = (rw more.0 refl, both (is_finalizer s) (list_all is_finalizer (text_items js)) h more.1)
one_finalizer (list ks) js h more = absurd (cc)
one_finalizer (object ms) js h more = absurd (cc)

finalizer_texts : (js : List Json) → list_all (is_text is_finalizer) js ≡ true → (length (text_items js) ≡ length js) × (list_all is_finalizer (text_items js) ≡ true)
finalizer_texts [] h = (refl, refl)
finalizer_texts (j ∷ js) h =
    one_finalizer j js (first_true (is_text is_finalizer j) (list_all (is_text is_finalizer) js) h)
    (finalizer_texts js (second_true (is_text is_finalizer j) (list_all (is_text is_finalizer) js) h))

-- ---- by what a field holds

labels_read : (o : Option Json) → keeps are_labels (given o) ≡ true → list_all is_label_pair (texts_in (object_at o)) ≡ true
labels_read None h = refl
labels_read (Some null) h = refl
labels_read (Some (boolean b)) h = refl
labels_read (Some (whole z)) h = refl
labels_read (Some (text s)) h = refl
labels_read (Some (list js)) h = refl
labels_read (Some (object ms)) h = label_texts (pairs_of ms) h

annotations_read : (o : Option Json) → keeps are_annotations (given o) ≡ true → list_all is_annotation_pair (texts_in (object_at o)) ≡ true
annotations_read None h = refl
annotations_read (Some null) h = refl
annotations_read (Some (boolean b)) h = refl
annotations_read (Some (whole z)) h = refl
annotations_read (Some (text s)) h = refl
annotations_read (Some (list js)) h = refl
annotations_read (Some (object ms)) h = annotation_texts (pairs_of ms) h

few_read : (o : Option Json) → keeps are_finalizers (given o) ≡ true → nat_le (length (text_items (list_at o))) FINALIZERS ≡ true
few_read None h = refl
few_read (Some null) h = refl
few_read (Some (boolean b)) h = refl
few_read (Some (whole z)) h = refl
few_read (Some (text s)) h = refl
few_read (Some (list js)) h =
    ap (λ (n : ℕ). nat_le n FINALIZERS) (finalizer_texts (list_of js) (second_true (nat_le (length (list_of js)) FINALIZERS) (list_all (is_text is_finalizer) (list_of js)) h)).0
    ∙ first_true (nat_le (length (list_of js)) FINALIZERS) (list_all (is_text is_finalizer) (list_of js)) h
few_read (Some (object ms)) h = refl

finalizers_read : (o : Option Json) → keeps are_finalizers (given o) ≡ true → list_all is_finalizer (text_items (list_at o)) ≡ true
finalizers_read None h = refl
finalizers_read (Some null) h = refl
finalizers_read (Some (boolean b)) h = refl
finalizers_read (Some (whole z)) h = refl
finalizers_read (Some (text s)) h = refl
finalizers_read (Some (list js)) h =
    (finalizer_texts (list_of js) (second_true (nat_le (length (list_of js)) FINALIZERS) (list_all (is_text is_finalizer) (list_of js)) h)).1
finalizers_read (Some (object ms)) h = refl

empty_or : (s : List ℕ) → is_namespace s ≡ true → is_empty_or is_namespace s ≡ true
empty_or [] h = refl
empty_or (b ∷ bs) h = h

namespace_read : (o : Option Json) → keeps (is_text is_namespace) (given o) ≡ true → is_empty_or is_namespace (text_or_empty o) ≡ true
namespace_read None h = refl
namespace_read (Some null) h = refl
namespace_read (Some (boolean b)) h = refl
namespace_read (Some (whole z)) h = refl
namespace_read (Some (text s)) h = empty_or s h
namespace_read (Some (list js)) h = refl
namespace_read (Some (object ms)) h = refl

none_or : (s : List ℕ) → is_resource_version s ≡ true → is_none_or is_resource_version (not_empty (Some s)) ≡ true
none_or [] h = refl
none_or (b ∷ bs) h = h

number_read : (o : Option Json) → keeps (is_text is_resource_version) (given o) ≡ true → is_none_or is_resource_version (not_empty (text_at o)) ≡ true
number_read None h = refl
number_read (Some null) h = refl
number_read (Some (boolean b)) h = refl
number_read (Some (whole z)) h = refl
number_read (Some (text s)) h = none_or s h
number_read (Some (list js)) h = refl
number_read (Some (object ms)) h = refl

name_read : (o : Option Json) → is_named (given o) ≡ true → is_name (text_or_empty o) ≡ true
name_read None h = absurd (cc)
name_read (Some null) h = absurd (cc)
name_read (Some (boolean b)) h = absurd (cc)
name_read (Some (whole z)) h = absurd (cc)
name_read (Some (text s)) h = h
name_read (Some (list js)) h = absurd (cc)
name_read (Some (object ms)) h = absurd (cc)

meta_read : (ms : Pairs) → NoneHolds (judged_fields ms) → KeepsRules (submitted_meta (meta_in ms))
unfolding meta_in
meta_read ms h = record {
  name = name_read (field (codes "name") ms) (no_denial _ h.1.1.1.1.1.1.0);
  namespace = namespace_read (field (codes "namespace") ms) (no_denial _ h.1.1.1.0);
  labels = labels_read (field (codes "labels") ms) (no_denial _ h.1.1.0);
  annotations = annotations_read (field (codes "annotations") ms) (no_denial _ h.0);
  few = few_read (field (codes "finalizers") ms) (no_denial _ h.1.0);
  finalizers = finalizers_read (field (codes "finalizers") ms) (no_denial _ h.1.0);
  resource_version = number_read (field (codes "resourceVersion") ms) (no_denial _ h.1.1.1.1.1.0);
}

given_object : (o : Option Json) → object_at (given o) ≡ object_at o
given_object None = refl
given_object (Some null) = refl
given_object (Some (boolean b)) = refl
given_object (Some (whole z)) = refl
given_object (Some (text s)) = refl
given_object (Some (list js)) = refl
given_object (Some (object ms)) = refl

pub rules_read : (kind : List ℕ) (es : Pairs) → NoneHolds (judged kind es) → KeepsRules (submitted (parts_in es)).meta
rules_read kind es h =
    subst (λ (ms : Pairs). KeepsRules (submitted_meta (meta_in ms))) (given_object (field (codes "metadata") es))
    (meta_read (object_at (given (field (codes "metadata") es))) h.1.1.1)
