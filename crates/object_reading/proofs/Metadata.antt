-- The metadata of an object's document are read back as the metadata.
use Rattle.std.proofs.Common.{◌≡◌, ◌∙◌, ℕ, List, [], ◌∷◌, ◌++◌, Option, Some, None, Bool, true, false, cond, nat_cmp, map, append_assoc, append-nil, codes, ap, refl, sym}
use Rattle.std.specs.Prelude.{ℤ, pos, option_map}
use Rattle.std.specs.Ordering.{int_eq}
use Rattle.std.specs.Cmp.Lexicographic.{slice_cmp}
use Rattle.std.specs.BTreeMap.{is_at}
use Rattle.std.proofs.lemmas.Bool.Decides.{Decides-int_eq}
use Rattle.kj_value.specs.Json.{Json, whole, text}
use Rattle.kj_value.specs.Fields.{Pairs, field}
use Rattle.kube_meta.specs.View.{Texts, MetaView}
use Rattle.kube_meta.specs.Document.{optional, some_text, some_texts, some_list, some_generation, text_fields, metadata}
use Rattle.object_reading.specs.Fields.{object_at, list_at, text_at}
use Rattle.object_reading.specs.Parts.{text_or_empty, number_at, texts_in, text_items, meta_in}
use Rattle.object_reading.proofs.Lists.{pairs_members, list_items}

-- ---- fields that may be absent

abbrev pub Table : Type 0
Table = List (List ℕ × Option Json)

abbrev made : Table → Pairs
made [] = []
made (t ∷ ts) = optional t.0 t.1 ++ made ts

abbrev pub either_of : Option Json → Option Json → Option Json
either_of None o = o
either_of (Some j) o = Some j

either-none : (o : Option Json) → either_of o None ≡ o
either-none None = refl
either-none (Some j) = refl

abbrev pub first : List ℕ → Table → Option Json
first k [] = None
first k (t ∷ ts) = cond (is_at (slice_cmp nat_cmp k) t.0) (either_of t.1 (first k ts)) (first k ts)

field-made : (k : List ℕ) (ts : Table) → field k (made ts) ≡ first k ts
field-made k [] = refl
field-made k (t ∷ ts) = by_value t.1 (is_at (slice_cmp nat_cmp k) t.0) refl (field-made k ts)
  where
    by_value : (o : Option Json) (b : Bool) → is_at (slice_cmp nat_cmp k) t.0 ≡ b → field k (made ts) ≡ first k ts
        → field k (optional t.0 o ++ made ts) ≡ cond b (either_of o (first k ts)) (first k ts)
    by_value None true p more = more
    by_value None false p more = more
    by_value (Some j) true p more = rw p refl
    by_value (Some j) false p more = rw p more

abbrev pub table : MetaView → Table
table m = (codes "annotations", some_texts m.annotations)
    ∷ (codes "creationTimestamp", option_map text m.created)
    ∷ (codes "deletionTimestamp", option_map text m.deleted)
    ∷ (codes "finalizers", some_list (map text m.finalizers))
    ∷ (codes "generation", some_generation m.generation)
    ∷ (codes "labels", some_texts m.labels)
    ∷ (codes "name", some_text m.name)
    ∷ (codes "namespace", some_text m.namespace)
    ∷ (codes "ownerReferences", some_list m.owners)
    ∷ (codes "resourceVersion", option_map text m.resource_version)
    ∷ (codes "uid", option_map text m.uid)
    ∷ []

eleven : (a b c d e f g h i j k : Pairs) → a ++ b ++ c ++ d ++ e ++ f ++ g ++ h ++ i ++ j ++ k ≡ a ++ (b ++ (c ++ (d ++ (e ++ (f ++ (g ++ (h ++ (i ++ (j ++ (k ++ []))))))))))
eleven a b c d e f g h i j k = simp (append_assoc, append-nil)

metadata-made : (m : MetaView) → metadata m ≡ made (table m)
unfolding metadata
metadata-made m = eleven
    (optional (codes "annotations") (some_texts m.annotations))
    (optional (codes "creationTimestamp") (option_map text m.created))
    (optional (codes "deletionTimestamp") (option_map text m.deleted))
    (optional (codes "finalizers") (some_list (map text m.finalizers)))
    (optional (codes "generation") (some_generation m.generation))
    (optional (codes "labels") (some_texts m.labels))
    (optional (codes "name") (some_text m.name))
    (optional (codes "namespace") (some_text m.namespace))
    (optional (codes "ownerReferences") (some_list m.owners))
    (optional (codes "resourceVersion") (option_map text m.resource_version))
    (optional (codes "uid") (option_map text m.uid))

-- a name's value, where no later field of the table has the name
pub at : (k : List ℕ) (m : MetaView) (o : Option Json) → first k (table m) ≡ either_of o None → field k (metadata m) ≡ o
at k m o e = ap (field k) (metadata-made m) ∙ field-made k (table m) ∙ e ∙ either-none o

-- ---- what was written is read back

text_back : (s : List ℕ) → text_or_empty (some_text s) ≡ s
text_back [] = refl
text_back (b ∷ bs) = refl

given_back : (o : Option (List ℕ)) → text_at (option_map text o) ≡ o
given_back None = refl
given_back (Some s) = refl

number_back : (z : ℤ) → number_at (some_generation z) ≡ z
number_back z = by_test (int_eq z (pos 0)) refl
  where
    by_test : (b : Bool) → int_eq z (pos 0) ≡ b → number_at (cond b None (Some (whole z))) ≡ z
    by_test true p = sym ((Decides-int_eq z (pos 0)).0 p)
    by_test false p = refl

fields_back : (ts : Texts) → texts_in (text_fields ts) ≡ ts
fields_back [] = refl
fields_back (t ∷ ts) = ap (λ (r : Texts). t ∷ r) (fields_back ts)

texts_back : (ts : Texts) → texts_in (object_at (some_texts ts)) ≡ ts
texts_back [] = refl
texts_back (t ∷ ts) = ap texts_in (pairs_members (text_fields (t ∷ ts))) ∙ fields_back (t ∷ ts)

list_back : (js : List Json) → list_at (some_list js) ≡ js
list_back [] = refl
list_back (j ∷ js) = list_items (j ∷ js)

items_back : (ss : List (List ℕ)) → text_items (map text ss) ≡ ss
items_back [] = refl
items_back (s ∷ ss) = ap (λ (r : List (List ℕ)). s ∷ r) (items_back ss)

pub metadata_back : (m : MetaView) → meta_in (metadata m) ≡ m
unfolding meta_in
metadata_back m =
    let name = ap text_or_empty (at (codes "name") m (some_text m.name) refl) ∙ text_back m.name in
    let namespace = ap text_or_empty (at (codes "namespace") m (some_text m.namespace) refl) ∙ text_back m.namespace in
    let labels = ap (λ (o : Option Json). texts_in (object_at o)) (at (codes "labels") m (some_texts m.labels) refl) ∙ texts_back m.labels in
    let annotations = ap (λ (o : Option Json). texts_in (object_at o)) (at (codes "annotations") m (some_texts m.annotations) refl) ∙ texts_back m.annotations in
    let finalizers = ap (λ (o : Option Json). text_items (list_at o)) (at (codes "finalizers") m (some_list (map text m.finalizers)) refl)
    ∙ ap text_items (list_back (map text m.finalizers)) ∙ items_back m.finalizers in
    let owners = ap list_at (at (codes "ownerReferences") m (some_list m.owners) refl) ∙ list_back m.owners in
    let created = ap text_at (at (codes "creationTimestamp") m (option_map text m.created) refl) ∙ given_back m.created in
    let deleted = ap text_at (at (codes "deletionTimestamp") m (option_map text m.deleted) refl) ∙ given_back m.deleted in
    let generation = ap number_at (at (codes "generation") m (some_generation m.generation) refl) ∙ number_back m.generation in
    let resource_version = ap text_at (at (codes "resourceVersion") m (option_map text m.resource_version) refl) ∙ given_back m.resource_version in
    let uid = ap text_at (at (codes "uid") m (option_map text m.uid) refl) ∙ given_back m.uid in
    λ i. record {
      name = name i;
      namespace = namespace i;
      labels = labels i;
      annotations = annotations i;
      finalizers = finalizers i;
      owners = owners i;
      created = created i;
      deleted = deleted i;
      generation = generation i;
      resource_version = resource_version i;
      uid = uid i;
    }
