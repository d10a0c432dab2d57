-- What a dump carries of an object's document is the document of the object without what a server sets anew.
use Rattle.std.proofs.Common.{◌≡◌, ◌∙◌, ℕ, List, [], ◌∷◌, ◌++◌, Option, Some, None, Bool, true, false, ◌&&◌, not, cond, nat_cmp, map, append_assoc, append-nil, codes, ap, refl, sym}
use Rattle.std.specs.Prelude.{pos, option_map}
use Rattle.std.specs.Cmp.Lexicographic.{slice_cmp}
use Rattle.std.specs.BTreeMap.{is_at}
use Rattle.kj_value.specs.Json.{Json, text, object, members_of}
use Rattle.kj_value.specs.Fields.{Pairs, field, with_field, without_field}
use Rattle.kube_meta.specs.View.{MetaView, ObjectView}
use Rattle.kube_meta.specs.Document.{document, metadata, optional, some_generation, some_list, some_text, some_texts}
use Rattle.object_reading.specs.Fields.{object_at}
use Rattle.object_reading.proofs.Documents.{document-fields, fields, found_metadata, meta_object, with_kind, with_version}
use Rattle.object_reading.proofs.Lists.{pairs_members}
use Rattle.object_reading.proofs.Metadata.{Table, table}
use Rattle.object_reading.proofs.Put.{field-with_other, without-with}
use Rattle.wire_client.specs.Forms.{fields_of}
use Rattle.record_dump.specs.Lines.{carried, dumped}
use Rattle.far_laws.specs.GivenBack.{bare}

-- ---- names taken out of fields that may be absent

abbrev made : Table → Pairs
made [] = []
made (t ∷ ts) = optional t.0 t.1 ++ made ts

-- none of the names is this one
abbrev lacks : List ℕ → Table → Bool
lacks k [] = true
lacks k (t ∷ ts) = not (is_at (slice_cmp nat_cmp k) t.0) && lacks k ts

-- this one stands there once at most
abbrev once : List ℕ → Table → Bool
once k [] = true
once k (t ∷ ts) = cond (is_at (slice_cmp nat_cmp k) t.0) (lacks k ts) (once k ts)

-- with nothing at the name
abbrev cleared : List ℕ → Table → Table
cleared k [] = []
cleared k (t ∷ ts) = cond (is_at (slice_cmp nat_cmp k) t.0) ((t.0, None) ∷ ts) (t ∷ cleared k ts)

none-out : (k : List ℕ) (ts : Table) → lacks k ts ≡ true → without_field k (made ts) ≡ made ts
none-out k [] none = refl
none-out k (t ∷ ts) none = by t.1 (is_at (slice_cmp nat_cmp k) t.0) refl none (none-out k ts)
  where
    by : (o : Option Json) (b : Bool) → is_at (slice_cmp nat_cmp k) t.0 ≡ b → (not b && lacks k ts) ≡ true → (lacks k ts ≡ true → without_field k (made ts) ≡ made ts)
        → without_field k (optional t.0 o ++ made ts) ≡ optional t.0 o ++ made ts
    by o true is never more = cc
    by None false is rest more = more rest
    by (Some j) false is rest more = rw is (ap (λ (es : Pairs). (t.0, j) ∷ es) (more rest))

taken-out : (k : List ℕ) (ts : Table) → once k ts ≡ true → without_field k (made ts) ≡ made (cleared k ts)
taken-out k [] one = refl
taken-out k (t ∷ ts) one = by t.1 (is_at (slice_cmp nat_cmp k) t.0) refl one (none-out k ts) (taken-out k ts)
  where
    by : (o : Option Json) (b : Bool) → is_at (slice_cmp nat_cmp k) t.0 ≡ b → cond b (lacks k ts) (once k ts) ≡ true
        → (lacks k ts ≡ true → without_field k (made ts) ≡ made ts) → (once k ts ≡ true → without_field k (made ts) ≡ made (cleared k ts))
        → without_field k (optional t.0 o ++ made ts) ≡ made (cond b ((t.0, None) ∷ ts) ((t.0, o) ∷ cleared k ts))
    by None true is one here later = here one
    by None false is one here later = later one
    by (Some j) true is one here later = rw is refl
    by (Some j) false is one here later = rw is (ap (λ (es : Pairs). (t.0, j) ∷ es) (later one))

-- ---- metadata

eleven : (a b c d e f g h i j k : Pairs) → a ++ b ++ c ++ d ++ e ++ f ++ g ++ h ++ i ++ j ++ k ≡ a ++ (b ++ (c ++ (d ++ (e ++ (f ++ (g ++ (h ++ (i ++ (j ++ (k ++ []))))))))))
eleven a b c d e f g h i j k = simp (append_assoc, append-nil)

metadata-made : (m : MetaView) → metadata m ≡ made (table m)
unfolding metadata
metadata-made m = eleven
    (optional (codes "annotations") (some_texts m.annotations))
    (optional (codes "creationTimestamp") (option_map text m.created))
    (optional (codes "deletionTimestamp") (option_map text m.deleted))
    (optional (codes "finalizers") (some_list (map text m.finalizers)))
    (optional (codes "generation") (some_generation m.generation))
    (optional (codes "labels") (some_texts m.labels))
    (optional (codes "name") (some_text m.name))
    (optional (codes "namespace") (some_text m.namespace))
    (optional (codes "ownerReferences") (some_list m.owners))
    (optional (codes "resourceVersion") (option_map text m.resource_version))
    (optional (codes "uid") (option_map text m.uid))

abbrev out : List ℕ → Pairs → Pairs
out k es = without_field k es

carries : (m : MetaView) → carried (metadata m) ≡ metadata (record m { created = None; deleted = None; generation = pos 0; resource_version = None; uid = None })
carries m =
    let t0 = table m in
    let t1 = cleared (codes "creationTimestamp") t0 in
    let t2 = cleared (codes "deletionTimestamp") t1 in
    let t3 = cleared (codes "generation") t2 in
    let t4 = cleared (codes "resourceVersion") t3 in
    let t5 = cleared (codes "uid") t4 in
    ap carried (metadata-made m)
    ∙ ap (λ (es : Pairs). out (codes "uid") (out (codes "resourceVersion") (out (codes "generation") (out (codes "deletionTimestamp") es)))) (taken-out (codes "creationTimestamp") t0 refl)
    ∙ ap (λ (es : Pairs). out (codes "uid") (out (codes "resourceVersion") (out (codes "generation") es))) (taken-out (codes "deletionTimestamp") t1 refl)
    ∙ ap (λ (es : Pairs). out (codes "uid") (out (codes "resourceVersion") es)) (taken-out (codes "generation") t2 refl)
    ∙ ap (λ (es : Pairs). out (codes "uid") es) (taken-out (codes "resourceVersion") t3 refl)
    ∙ taken-out (codes "uid") t4 refl
    ∙ sym (metadata-made (record m { created = None; deleted = None; generation = pos 0; resource_version = None; uid = None }))

-- ---- the document

fields_of_document : (x : ObjectView) → fields_of (document x) ≡ fields x
fields_of_document x = ap fields_of (document-fields x) ∙ pairs_members (fields x)

no_metadata : (x : ObjectView) → field (codes "metadata") x.body ≡ None → field (codes "metadata") (with_kind x) ≡ None
no_metadata x none =
    field-with_other (codes "metadata") (codes "kind") (text x.kind) (with_version x) refl
    ∙ field-with_other (codes "metadata") (codes "apiVersion") (text x.api_version) x.body refl
    ∙ none

pub dumped_document : (x : ObjectView) → field (codes "metadata") x.body ≡ None → dumped (document x) ≡ document (bare x)
unfolding dumped
dumped_document x none =
    let own : object_at (field (codes "metadata") (fields_of (document x))) ≡ metadata x.meta =
    ap (λ (es : Pairs). object_at (field (codes "metadata") es)) (fields_of_document x) ∙ ap object_at (found_metadata x) ∙ pairs_members (metadata x.meta) in
    let rest : without_field (codes "metadata") (fields_of (document x)) ≡ with_kind x =
    ap (λ (es : Pairs). without_field (codes "metadata") es) (fields_of_document x) ∙ without-with (codes "metadata") (meta_object x) (with_kind x) (no_metadata x none) in
    ap (λ (ms : Pairs). object (members_of (with_field (codes "metadata") (object (members_of (carried ms))) (without_field (codes "metadata") (fields_of (document x)))))) own
    ∙ ap (λ (ms : Pairs). object (members_of (with_field (codes "metadata") (object (members_of ms)) (without_field (codes "metadata") (fields_of (document x)))))) (carries x.meta)
    ∙ ap (λ (es : Pairs). object (members_of (with_field (codes "metadata") (meta_object (bare x)) es))) rest
    ∙ sym (document-fields (bare x))
