-- Objects of one document are one.
use Rattle.std.proofs.Common.{◌≡◌, ◌∙◌, ℕ, List, [], ◌∷◌, ◌++◌, Option, Some, None, Bool, true, false, cond, map, append_assoc, append-nil, ap, sym, refl}
use Rattle.std.specs.Prelude.{ℤ, pos, option_map, codes}
use Rattle.std.specs.Ordering.{int_eq}
use Rattle.std.proofs.lemmas.Bool.Decides.{Decides-int_eq}
use Rattle.kj_value.specs.Json.{Json, whole, text, list, object, Items, item, items_of, members_of}
use Rattle.kj_value.specs.Fields.{Pairs, field, with_field, without_field, NamesRise}
use Rattle.kube_meta.specs.View.{Texts, MetaView, ObjectView}
use Rattle.kube_meta.specs.Document.{optional, some_text, some_texts, some_list, some_generation, text_fields, metadata, document}
use Rattle.api_calls.specs.Versions.{IsBody}
use Rattle.api_calls.proofs.Names.{Table, given, names, given_one, field-with, field-with_other, without-with, object_one}

-- ---- values that may be absent

text_is : (s t : List ℕ) → text s ≡ text t → s ≡ t
text_is s t e = cc

some_is : (i j : Json) → Some i ≡ Some j → i ≡ j
some_is i j e = cc

given_text_one : (a b : Option (List ℕ)) → option_map text a ≡ option_map text b → a ≡ b
given_text_one None None e = refl
given_text_one None (Some t) e = cc
given_text_one (Some s) None e = cc
given_text_one (Some s) (Some t) e = ap Some (text_is s t (some_is _ _ e))

some_text_one : (s t : List ℕ) → some_text s ≡ some_text t → s ≡ t
some_text_one [] [] e = refl
some_text_one [] (b ∷ bs) e = cc
some_text_one (b ∷ bs) [] e = cc
some_text_one (b ∷ bs) (c ∷ cs) e = text_is _ _ (some_is _ _ e)

text_fields_one : (ss ts : Texts) → text_fields ss ≡ text_fields ts → ss ≡ ts
text_fields_one [] [] e = refl
text_fields_one [] (t ∷ ts) e = cc
text_fields_one (s ∷ ss) [] e = cc
text_fields_one (s ∷ ss) (t ∷ ts) e =
    let first : (s.0, text s.1) ≡ (t.0, text t.1) = first_field _ _ _ _ e in
    let name : s.0 ≡ t.0 = ap (λ (p : List ℕ × Json). p.0) first in
    let value : s.1 ≡ t.1 = text_is _ _ (ap (λ (p : List ℕ × Json). p.1) first) in
    let others = text_fields_one ss ts (other_fields _ _ _ _ e) in
    ap (λ (k : List ℕ). (k, s.1) ∷ ss) name ∙ ap (λ (v : List ℕ). (t.0, v) ∷ ss) value ∙ ap (λ (r : Texts). t ∷ r) others
  where
    first_field : (p q : List ℕ × Json) (es fs : Pairs) → p ∷ es ≡ q ∷ fs → p ≡ q
    first_field p q es fs e = cc

    other_fields : (p q : List ℕ × Json) (es fs : Pairs) → p ∷ es ≡ q ∷ fs → es ≡ fs
    other_fields p q es fs e = cc

some_texts_one : (ss ts : Texts) → some_texts ss ≡ some_texts ts → ss ≡ ts
some_texts_one [] [] e = refl
some_texts_one [] (t ∷ ts) e = cc
some_texts_one (s ∷ ss) [] e = cc
some_texts_one (s ∷ ss) (t ∷ ts) e = text_fields_one _ _ (object_one _ _ (some_is _ _ e))

list_is : (is js : Items) → list is ≡ list js → is ≡ js
list_is is js e = cc

item_first : (i j : Json) (is js : Items) → item i is ≡ item j js → i ≡ j
item_first i j is js e = cc

item_rest : (i j : Json) (is js : Items) → item i is ≡ item j js → is ≡ js
item_rest i j is js e = cc

items_one : (is js : List Json) → items_of is ≡ items_of js → is ≡ js
items_one [] [] e = refl
items_one [] (j ∷ js) e = cc
items_one (i ∷ is) [] e = cc
items_one (i ∷ is) (j ∷ js) e =
    ap (λ (x : Json). x ∷ is) (item_first _ _ _ _ e) ∙ ap (λ (r : List Json). j ∷ r) (items_one is js (item_rest _ _ _ _ e))

some_list_one : (is js : List Json) → some_list is ≡ some_list js → is ≡ js
some_list_one [] [] e = refl
some_list_one [] (j ∷ js) e = cc
some_list_one (i ∷ is) [] e = cc
some_list_one (i ∷ is) (j ∷ js) e = items_one _ _ (list_is _ _ (some_is _ _ e))

texts_one : (ss ts : List (List ℕ)) → map text ss ≡ map text ts → ss ≡ ts
texts_one [] [] e = refl
texts_one [] (t ∷ ts) e = cc
texts_one (s ∷ ss) [] e = cc
texts_one (s ∷ ss) (t ∷ ts) e =
    ap (λ (x : List ℕ). x ∷ ss) (text_is s t (first _ _ _ _ e)) ∙ ap (λ (r : List (List ℕ)). t ∷ r) (texts_one ss ts (others _ _ _ _ e))
  where
    first : (i j : Json) (is js : List Json) → i ∷ is ≡ j ∷ js → i ≡ j
    first i j is js e = cc

    others : (i j : Json) (is js : List Json) → i ∷ is ≡ j ∷ js → is ≡ js
    others i j is js e = cc

whole_is : (y z : ℤ) → Some (whole y) ≡ Some (whole z) → y ≡ z
whole_is y z e = cc

some_generation_one : (y z : ℤ) → some_generation y ≡ some_generation z → y ≡ z
some_generation_one y z e = by_tests (int_eq y (pos 0)) (int_eq z (pos 0)) refl refl e
  where
    by_tests : (a b : Bool) → int_eq y (pos 0) ≡ a → int_eq z (pos 0) ≡ b → cond a None (Some (whole y)) ≡ cond b None (Some (whole z)) → y ≡ z
    by_tests true true p q e = (Decides-int_eq y (pos 0)).0 p ∙ sym ((Decides-int_eq z (pos 0)).0 q)
    by_tests true false p q e = cc
    by_tests false true p q e = cc
    by_tests false false p q e = whole_is y z e

-- ---- metadata

abbrev table : MetaView → Table
table m = (codes "annotations", some_texts m.annotations)
    ∷ (codes "creationTimestamp", option_map text m.created)
    ∷ (codes "deletionTimestamp", option_map text m.deleted)
    ∷ (codes "finalizers", some_list (map text m.finalizers))
    ∷ (codes "generation", some_generation m.generation)
    ∷ (codes "labels", some_texts m.labels)
    ∷ (codes "name", some_text m.name)
    ∷ (codes "namespace", some_text m.namespace)
    ∷ (codes "ownerReferences", some_list m.owners)
    ∷ (codes "resourceVersion", option_map text m.resource_version)
    ∷ (codes "uid", option_map text m.uid)
    ∷ []

eleven : (a b c d e f g h i j k : Pairs) → a ++ b ++ c ++ d ++ e ++ f ++ g ++ h ++ i ++ j ++ k
    ≡ a ++ (b ++ (c ++ (d ++ (e ++ (f ++ (g ++ (h ++ (i ++ (j ++ (k ++ []))))))))))
eleven a b c d e f g h i j k = simp (append_assoc, append-nil)

metadata-given : (m : MetaView) → metadata m ≡ given (table m)
unfolding metadata
metadata-given m = eleven
    (optional (codes "annotations") (some_texts m.annotations))
    (optional (codes "creationTimestamp") (option_map text m.created))
    (optional (codes "deletionTimestamp") (option_map text m.deleted))
    (optional (codes "finalizers") (some_list (map text m.finalizers)))
    (optional (codes "generation") (some_generation m.generation))
    (optional (codes "labels") (some_texts m.labels))
    (optional (codes "name") (some_text m.name))
    (optional (codes "namespace") (some_text m.namespace))
    (optional (codes "ownerReferences") (some_list m.owners))
    (optional (codes "resourceVersion") (option_map text m.resource_version))
    (optional (codes "uid") (option_map text m.uid))

rising : (m : MetaView) → NamesRise (names (table m))
rising m = (refl, (refl, (refl, (refl, (refl, (refl, (refl, (refl, (refl, (refl, (tt, tt)))))))))))

pub metadata_one : (m n : MetaView) → metadata m ≡ metadata n → m ≡ n
metadata_one m n e =
    let same = given_one (table m) (table n) refl (rising m) (sym (metadata-given m) ∙ e ∙ metadata-given n) in
    let annotations = some_texts_one m.annotations n.annotations same.0 in
    let created = given_text_one m.created n.created same.1.0 in
    let deleted = given_text_one m.deleted n.deleted same.1.1.0 in
    let finalizers = texts_one m.finalizers n.finalizers (some_list_one _ _ same.1.1.1.0) in
    let generation = some_generation_one m.generation n.generation same.1.1.1.1.0 in
    let labels = some_texts_one m.labels n.labels same.1.1.1.1.1.0 in
    let name = some_text_one m.name n.name same.1.1.1.1.1.1.0 in
    let namespace = some_text_one m.namespace n.namespace same.1.1.1.1.1.1.1.0 in
    let owners = some_list_one m.owners n.owners same.1.1.1.1.1.1.1.1.0 in
    let resource_version = given_text_one m.resource_version n.resource_version same.1.1.1.1.1.1.1.1.1.0 in
    let uid = given_text_one m.uid n.uid same.1.1.1.1.1.1.1.1.1.1.0 in
    λ i. record {
      name = name i;
      namespace = namespace i;
      labels = labels i;
      annotations = annotations i;
      finalizers = finalizers i;
      owners = owners i;
      created = created i;
      deleted = deleted i;
      generation = generation i;
      resource_version = resource_version i;
      uid = uid i;
    }

-- ---- documents

abbrev version_over : ObjectView → Pairs
version_over x = with_field (codes "apiVersion") (text x.api_version) x.body

abbrev kind_over : ObjectView → Pairs
kind_over x = with_field (codes "kind") (text x.kind) (version_over x)

abbrev fields : ObjectView → Pairs
fields x = with_field (codes "metadata") (object (members_of (metadata x.meta))) (kind_over x)

document-fields : (x : ObjectView) → document x ≡ object (members_of (fields x))
unfolding document
document-fields x = refl

no_metadata : (x : ObjectView) → IsBody x.body → field (codes "metadata") (kind_over x) ≡ None
no_metadata x b =
    field-with_other (codes "metadata") (codes "kind") (text x.kind) (version_over x) refl
    ∙ field-with_other (codes "metadata") (codes "apiVersion") (text x.api_version) x.body refl
    ∙ b.metadata

no_kind : (x : ObjectView) → IsBody x.body → field (codes "kind") (version_over x) ≡ None
no_kind x b = field-with_other (codes "kind") (codes "apiVersion") (text x.api_version) x.body refl ∙ b.kind

pub document_one : (x y : ObjectView) → IsBody x.body → IsBody y.body → document x ≡ document y → x ≡ y
document_one x y bx by e =
    let same : fields x ≡ fields y = object_one (fields x) (fields y) (sym (document-fields x) ∙ e ∙ document-fields y) in
    let meta_field = sym (field-with (codes "metadata") (object (members_of (metadata x.meta))) (kind_over x))
    ∙ ap (field (codes "metadata")) same ∙ field-with (codes "metadata") (object (members_of (metadata y.meta))) (kind_over y) in
    let meta = metadata_one x.meta y.meta (object_one _ _ (some_is _ _ meta_field)) in
    let kinds : kind_over x ≡ kind_over y =
    sym (without-with (codes "metadata") (object (members_of (metadata x.meta))) (kind_over x) (no_metadata x bx))
    ∙ ap (without_field (codes "metadata")) same
    ∙ without-with (codes "metadata") (object (members_of (metadata y.meta))) (kind_over y) (no_metadata y by) in
    let kind_field = sym (field-with (codes "kind") (text x.kind) (version_over x))
    ∙ ap (field (codes "kind")) kinds ∙ field-with (codes "kind") (text y.kind) (version_over y) in
    let kind = text_is x.kind y.kind (some_is _ _ kind_field) in
    let versions : version_over x ≡ version_over y =
    sym (without-with (codes "kind") (text x.kind) (version_over x) (no_kind x bx))
    ∙ ap (without_field (codes "kind")) kinds
    ∙ without-with (codes "kind") (text y.kind) (version_over y) (no_kind y by) in
    let version_field = sym (field-with (codes "apiVersion") (text x.api_version) x.body)
    ∙ ap (field (codes "apiVersion")) versions ∙ field-with (codes "apiVersion") (text y.api_version) y.body in
    let api_version = text_is x.api_version y.api_version (some_is _ _ version_field) in
    let body : x.body ≡ y.body =
    sym (without-with (codes "apiVersion") (text x.api_version) x.body bx.api_version)
    ∙ ap (without_field (codes "apiVersion")) versions
    ∙ without-with (codes "apiVersion") (text y.api_version) y.body by.api_version in
    λ i. record { api_version = api_version i; kind = kind i; meta = meta i; body = body i }
