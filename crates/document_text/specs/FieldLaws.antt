-- Laws for crates above: the text of an object's fields around one of them, and of a document around its number and its uid.
use Rattle.std.specs.Prelude.{◌≡◌, ℕ, List, [], ◌∷◌, ◌++◌, None, codes, flat_map, map, option_map, refl}
use Rattle.std.proofs.Common.{Ordering, Less, Equal, Greater, nat_cmp, ap, sym, ◌∙◌, append_assoc}
use Rattle.std.proofs.lemmas.List.{append-nil}
use Rattle.std.specs.Ordering.{match_ordering}
use Rattle.std.specs.Cmp.Lexicographic.{slice_cmp}
use Rattle.std.specs.FinMap.{slice_cmp-IsAntisymmetric, nat_cmp-IsAntisymmetric}
use Rattle.kj_value.specs.Characters.{quote, colon, comma, begin_object, end_object}
use Rattle.kj_value.specs.Json.{Json, text, object, members_of}
use Rattle.kj_value.specs.Text.{escaped_byte, quoted, text_of, members_text, more_members}
use Rattle.kj_value.specs.Fields.{Pairs, with_field}
use Rattle.kube_meta.specs.View.{MetaView, ObjectView}
use Rattle.kube_meta.specs.Document.{optional, some_text, some_texts, some_list, some_generation, metadata, document}
use Rattle.document_text.specs.Numbered.{with_numbers, metadata_name, between}

-- what stands before the value of a field that comes behind others
abbrev pub lead : Pairs → List ℕ → List ℕ
lead [] k = quoted k ++ colon ∷ []
lead (e ∷ es) k = members_text (members_of (e ∷ es)) ++ comma ∷ (quoted k ++ colon ∷ [])

abbrev pub more : Pairs → List ℕ
more es = more_members (members_of es)

pushed : (q t m n : List ℕ) → q ++ colon ∷ (t ++ (m ++ n)) ≡ (q ++ colon ∷ (t ++ m)) ++ n
pushed q t m n = ap (λ (w : List ℕ). q ++ colon ∷ w) (sym (append_assoc t m n)) ∙ sym (append_assoc q (colon ∷ (t ++ m)) n)

pub more-append : (es fs : Pairs) → more (es ++ fs) ≡ more es ++ more fs
more-append [] fs = refl
more-append (e ∷ es) fs =
    ap (λ (w : List ℕ). comma ∷ w)
    (ap (λ (w : List ℕ). quoted e.0 ++ colon ∷ (text_of e.1 ++ w)) (more-append es fs) ∙ pushed (quoted e.0) (text_of e.1) (more es) (more fs))

pub around : (es : Pairs) (k : List ℕ) (j : Json) (fs : Pairs) → members_text (members_of (es ++ (k, j) ∷ fs)) ≡ lead es k ++ (text_of j ++ more fs)
around [] k j fs = sym (append_assoc (quoted k) (colon ∷ []) (text_of j ++ more fs))
around (e ∷ es) k j fs =
    let w : List ℕ = text_of j ++ more fs in
    let m : List ℕ = members_text (members_of (e ∷ es)) in
    ap (λ (t : List ℕ). quoted e.0 ++ colon ∷ (text_of e.1 ++ t)) (more-append es ((k, j) ∷ fs))
    ∙ pushed (quoted e.0) (text_of e.1) (more es) (more ((k, j) ∷ fs))
    ∙ ap (λ (t : List ℕ). m ++ comma ∷ t) (sym (append_assoc (quoted k) (colon ∷ []) w))
    ∙ sym (append_assoc m (comma ∷ (quoted k ++ colon ∷ [])) w)

pub object-around : (es : Pairs) (k : List ℕ) (j : Json) (fs : Pairs)
    → text_of (object (members_of (es ++ (k, j) ∷ fs))) ≡ begin_object ∷ (lead es k ++ (text_of j ++ (more fs ++ end_object ∷ [])))
object-around es k j fs =
    ap (λ (w : List ℕ). begin_object ∷ w) (
    ap (λ (w : List ℕ). w ++ end_object ∷ []) (around es k j fs)
    ∙ append_assoc (lead es k) (text_of j ++ more fs) (end_object ∷ [])
    ∙ ap (λ (w : List ℕ). lead es k ++ w) (append_assoc (text_of j) (more fs) (end_object ∷ [])))

-- ---- around the number and the uid

-- the text behind the uid, with the fields behind the metadata
abbrev pub closing_of : Pairs → List ℕ
closing_of fs = quote ∷ end_object ∷ (more fs ++ end_object ∷ [])

abbrev pub rv : List ℕ
rv = codes "resourceVersion"

abbrev pub id : List ℕ
id = codes "uid"

-- the fields of metadata with a number and a uid
abbrev pub meta_with : Pairs → List ℕ → List ℕ → Pairs
meta_with os n u = (os ++ (rv, text n) ∷ []) ++ (id, text u) ∷ []

-- behind the quote before the number
abbrev pub inside : List ℕ → List ℕ → List ℕ
inside n u = n ++ (between ++ (u ++ quote ∷ end_object ∷ []))

-- `between` but for its first quote, and what follows
abbrev pub tail_of : List ℕ → List ℕ
tail_of w = comma ∷ (quoted id ++ colon ∷ quote ∷ w)

-- the text of the metadata
abbrev pub meta_front : Pairs → List ℕ
meta_front os = begin_object ∷ (lead os rv ++ quote ∷ [])

pub meta-text : (os : Pairs) (n u : List ℕ) → flat_map escaped_byte n ≡ n → flat_map escaped_byte u ≡ u
    → text_of (object (members_of (meta_with os n u))) ≡ meta_front os ++ inside n u
meta-text os n u pn pu =
    let z : List ℕ = ((u ++ quote ∷ []) ++ []) ++ end_object ∷ [] in
    let spelled : (((flat_map escaped_byte u ++ quote ∷ []) ++ []) ++ end_object ∷ []) ≡ u ++ quote ∷ end_object ∷ [] =
    ap (λ (w : List ℕ). ((w ++ quote ∷ []) ++ []) ++ end_object ∷ []) pu
    ∙ ap (λ (w : List ℕ). w ++ end_object ∷ []) (append-nil (u ++ quote ∷ []))
    ∙ append_assoc u (quote ∷ []) (end_object ∷ []) in
    let number : (flat_map escaped_byte n ++ quote ∷ []) ++ tail_of (((flat_map escaped_byte u ++ quote ∷ []) ++ []) ++ end_object ∷ []) ≡ inside n u =
    ap (λ (w : List ℕ). (w ++ quote ∷ []) ++ tail_of (((flat_map escaped_byte u ++ quote ∷ []) ++ []) ++ end_object ∷ [])) pn
    ∙ append_assoc n (quote ∷ []) (tail_of (((flat_map escaped_byte u ++ quote ∷ []) ++ []) ++ end_object ∷ []))
    ∙ ap (λ (w : List ℕ). n ++ (between ++ w)) spelled in
    ap (λ (ps : Pairs). text_of (object (members_of ps))) (append_assoc os ((rv, text n) ∷ []) ((id, text u) ∷ []))
    ∙ object-around os rv (text n) ((id, text u) ∷ [])
    ∙ ap (λ (w : List ℕ). begin_object ∷ (lead os rv ++ quote ∷ w)) number
    ∙ ap (λ (w : List ℕ). begin_object ∷ w) (sym (append_assoc (lead os rv) (quote ∷ []) (inside n u)))

-- what stands before the number
abbrev pub doc_front : Pairs → List ℕ → Pairs → List ℕ
doc_front es k os = begin_object ∷ (lead es k ++ meta_front os)

-- the text of a document whose metadata stand between these fields
pub doc-text : (es : Pairs) (k : List ℕ) (os fs : Pairs) (n u : List ℕ) → flat_map escaped_byte n ≡ n → flat_map escaped_byte u ≡ u
    → text_of (object (members_of (es ++ (k, object (members_of (meta_with os n u))) ∷ fs))) ≡ doc_front es k os ++ (n ++ (between ++ (u ++ closing_of fs)))
doc-text es k os fs n u pn pu =
    let rest : List ℕ = more fs ++ end_object ∷ [] in
    object-around es k (object (members_of (meta_with os n u))) fs
    ∙ ap (λ (w : List ℕ). begin_object ∷ (lead es k ++ (w ++ rest))) (meta-text os n u pn pu)
    ∙ ap (λ (w : List ℕ). begin_object ∷ (lead es k ++ w)) (append_assoc (meta_front os) (inside n u) rest
    ∙ ap (λ (w : List ℕ). meta_front os ++ w) (append_assoc n (between ++ (u ++ quote ∷ end_object ∷ [])) rest
    ∙ ap (λ (w : List ℕ). n ++ w) (append_assoc between (u ++ quote ∷ end_object ∷ []) rest
    ∙ ap (λ (w : List ℕ). between ++ w) (append_assoc u (quote ∷ end_object ∷ []) rest))))
    ∙ ap (λ (w : List ℕ). begin_object ∷ w) (sym (append_assoc (lead es k) (meta_front os) (n ++ (between ++ (u ++ closing_of fs)))))

-- ---- the fields of a document, parted at one of them

abbrev pub before : List ℕ → Pairs → Pairs
before k [] = []
before k (e ∷ es) = match_ordering (slice_cmp nat_cmp k e.0) [] [] (e ∷ before k es)

abbrev pub after : List ℕ → Pairs → Pairs
after k [] = []
after k (e ∷ es) = match_ordering (slice_cmp nat_cmp k e.0) (e ∷ es) es (after k es)

pub exactly : (a b : List ℕ) → slice_cmp nat_cmp a b ≡ Equal → a ≡ b
exactly a b is = slice_cmp-IsAntisymmetric nat_cmp-IsAntisymmetric a b is

pub with-parts : (k : List ℕ) (v : Json) (es : Pairs) → with_field k v es ≡ before k es ++ (k, v) ∷ after k es
with-parts k v [] = refl
with-parts k v (e ∷ es) = by (slice_cmp nat_cmp k e.0) refl (with-parts k v es)
  where
    by : (o : Ordering) → slice_cmp nat_cmp k e.0 ≡ o → with_field k v es ≡ before k es ++ (k, v) ∷ after k es
        → match_ordering o ((k, v) ∷ e ∷ es) ((e.0, v) ∷ es) (e ∷ with_field k v es)
        ≡ match_ordering o [] [] (e ∷ before k es) ++ (k, v) ∷ match_ordering o (e ∷ es) es (after k es)
    by Less is rest = refl
    by Equal is rest = ap (λ (n : List ℕ). (n, v) ∷ es) (sym (exactly k e.0 is))
    by Greater is rest = ap (λ (ps : Pairs). e ∷ ps) rest

-- ---- the document of an object

-- the fields of its document around the metadata
abbrev pub around_meta : ObjectView → Pairs
around_meta x = with_field (codes "kind") (text x.kind) (with_field (codes "apiVersion") (text x.api_version) x.body)

-- its metadata but for the number and the uid
abbrev pub others : MetaView → Pairs
others m =
    optional (codes "annotations") (some_texts m.annotations)
    ++ optional (codes "creationTimestamp") (option_map text m.created)
    ++ optional (codes "deletionTimestamp") (option_map text m.deleted)
    ++ optional (codes "finalizers") (some_list (map text m.finalizers))
    ++ optional (codes "generation") (some_generation m.generation)
    ++ optional (codes "labels") (some_texts m.labels)
    ++ optional (codes "name") (some_text m.name)
    ++ optional (codes "namespace") (some_text m.namespace)
    ++ optional (codes "ownerReferences") (some_list m.owners)

-- its fields with a number and a uid
abbrev pub fields_with : ObjectView → List ℕ → List ℕ → Pairs
fields_with x n u = before metadata_name (around_meta x) ++ (metadata_name, object (members_of (meta_with (others x.meta) n u))) ∷ after metadata_name (around_meta x)

pub document-with : (x : ObjectView) (n u : List ℕ) → document (with_numbers n u x) ≡ object (members_of (fields_with x n u))
unfolding document metadata
document-with x n u = ap (λ (ps : Pairs). object (members_of ps)) (with-parts metadata_name (object (members_of (meta_with (others x.meta) n u))) (around_meta x))

-- its fields with neither
abbrev pub fields_bare : ObjectView → Pairs
fields_bare x = before metadata_name (around_meta x) ++ (metadata_name, object (members_of (others x.meta))) ∷ after metadata_name (around_meta x)

pub document-bare : (x : ObjectView) → x.meta.resource_version ≡ None → x.meta.uid ≡ None → document x ≡ object (members_of (fields_bare x))
unfolding document metadata
document-bare x no_number no_uid =
    let os : Pairs = others x.meta in
    let same : metadata x.meta ≡ os =
    (λ i. (os ++ optional rv (option_map text (no_number i))) ++ optional id (option_map text (no_uid i))) ∙ (append-nil (os ++ []) ∙ append-nil os) in
    ap (λ (ps : Pairs). object (members_of (with_field metadata_name (object (members_of ps)) (around_meta x)))) same
    ∙ ap (λ (ps : Pairs). object (members_of ps)) (with-parts metadata_name (object (members_of os)) (around_meta x))
