-- An object's document is read back as the object.
use Rattle.std.proofs.Common.{◌≡◌, ◌∙◌, ℕ, List, [], ◌∷◌, Option, Some, None, codes, ap, refl, sym, subst}
use Rattle.kj_value.specs.Json.{Json, null, boolean, whole, text, list, object, Members, member, members_of}
use Rattle.kj_value.specs.Fields.{Pairs, field, with_field, without_field}
use Rattle.kube_meta.specs.View.{ObjectView}
use Rattle.kube_meta.specs.Document.{metadata, document}
use Rattle.object_reading.specs.Fields.{object_at}
use Rattle.object_reading.specs.Parts.{text_or_empty, meta_in, body_in, parts_in}
use Rattle.object_reading.specs.Written.{IsWritable, IsWritten}
use Rattle.object_reading.proofs.Lists.{pairs_members}
use Rattle.object_reading.proofs.Put.{field-with, field-with_other, without-with}
use Rattle.object_reading.proofs.Metadata.{metadata_back}

head_name : (k l : List ℕ) (i j : Json) (ms ns : Members) → member k i ms ≡ member l j ns → k ≡ l
head_name k l i j ms ns e = cc

head_value : (k l : List ℕ) (i j : Json) (ms ns : Members) → member k i ms ≡ member l j ns → i ≡ j
head_value k l i j ms ns e = cc

tail_members : (k l : List ℕ) (i j : Json) (ms ns : Members) → member k i ms ≡ member l j ns → ms ≡ ns
tail_members k l i j ms ns e = cc

members_one : (es fs : Pairs) → members_of es ≡ members_of fs → es ≡ fs
members_one [] [] e = refl
members_one [] (f ∷ fs) e = cc
members_one (p ∷ es) [] e = cc
members_one (p ∷ es) (q ∷ fs) e =
    ap (λ (k : List ℕ). (k, p.1) ∷ es) (head_name _ _ _ _ _ _ e)
    ∙ ap (λ (j : Json). (q.0, j) ∷ es) (head_value _ _ _ _ _ _ e)
    ∙ ap (λ (r : Pairs). q ∷ r) (members_one es fs (tail_members _ _ _ _ _ _ e))

object_members : (ms ns : Members) → object ms ≡ object ns → ms ≡ ns
object_members ms ns e = cc

-- ---- the document's fields

abbrev pub with_version : ObjectView → Pairs
with_version x = with_field (codes "apiVersion") (text x.api_version) x.body

abbrev pub with_kind : ObjectView → Pairs
with_kind x = with_field (codes "kind") (text x.kind) (with_version x)

abbrev pub meta_object : ObjectView → Json
meta_object x = object (members_of (metadata x.meta))

abbrev pub fields : ObjectView → Pairs
fields x = with_field (codes "metadata") (meta_object x) (with_kind x)

pub document-fields : (x : ObjectView) → document x ≡ object (members_of (fields x))
unfolding document
document-fields x = refl

fields_one : (x : ObjectView) (es : Pairs) → object (members_of es) ≡ document x → es ≡ fields x
fields_one x es e = members_one es (fields x) (object_members _ _ (e ∙ document-fields x))

pub found_version : (x : ObjectView) → field (codes "apiVersion") (fields x) ≡ Some (text x.api_version)
found_version x =
    field-with_other (codes "apiVersion") (codes "metadata") (meta_object x) (with_kind x) refl
    ∙ field-with_other (codes "apiVersion") (codes "kind") (text x.kind) (with_version x) refl
    ∙ field-with (codes "apiVersion") (text x.api_version) x.body

pub found_kind : (x : ObjectView) → field (codes "kind") (fields x) ≡ Some (text x.kind)
found_kind x =
    field-with_other (codes "kind") (codes "metadata") (meta_object x) (with_kind x) refl
    ∙ field-with (codes "kind") (text x.kind) (with_version x)

pub found_metadata : (x : ObjectView) → field (codes "metadata") (fields x) ≡ Some (meta_object x)
found_metadata x = field-with (codes "metadata") (meta_object x) (with_kind x)

no_metadata : (x : ObjectView) → field (codes "metadata") x.body ≡ None → field (codes "metadata") (with_kind x) ≡ None
no_metadata x none =
    field-with_other (codes "metadata") (codes "kind") (text x.kind) (with_version x) refl
    ∙ field-with_other (codes "metadata") (codes "apiVersion") (text x.api_version) x.body refl
    ∙ none

no_kind : (x : ObjectView) → field (codes "kind") x.body ≡ None → field (codes "kind") (with_version x) ≡ None
no_kind x none = field-with_other (codes "kind") (codes "apiVersion") (text x.api_version) x.body refl ∙ none

body_left : (x : ObjectView) → IsWritable x → body_in (fields x) ≡ x.body
body_left x w =
    ap (λ (es : Pairs). without_field (codes "apiVersion") (without_field (codes "kind") es))
    (without-with (codes "metadata") (meta_object x) (with_kind x) (no_metadata x w.body.metadata))
    ∙ ap (without_field (codes "apiVersion")) (without-with (codes "kind") (text x.kind) (with_version x) (no_kind x w.body.kind))
    ∙ without-with (codes "apiVersion") (text x.api_version) x.body w.body.api_version

fields_back : (x : ObjectView) → IsWritable x → parts_in (fields x) ≡ x
fields_back x w =
    let api_version : text_or_empty (field (codes "apiVersion") (fields x)) ≡ x.api_version = ap text_or_empty (found_version x) in
    let kind : text_or_empty (field (codes "kind") (fields x)) ≡ x.kind = ap text_or_empty (found_kind x) in
    let meta : meta_in (object_at (field (codes "metadata") (fields x))) ≡ x.meta =
    ap (λ (o : Option Json). meta_in (object_at o)) (found_metadata x) ∙ ap meta_in (pairs_members (metadata x.meta)) ∙ metadata_back x.meta in
    let body = body_left x w in
    λ i. record { api_version = api_version i; kind = kind i; meta = meta i; body = body i }

pub document_back : (x : ObjectView) (es : Pairs) → IsWritable x → object (members_of es) ≡ document x → parts_in es ≡ x
document_back x es w e = ap parts_in (fields_one x es e) ∙ fields_back x w

-- ---- a document is an object

abbrev pub IsObject : Json → Type 0
IsObject null = ⊥
IsObject (boolean b) = ⊥
IsObject (whole z) = ⊥
IsObject (text s) = ⊥
IsObject (list js) = ⊥
IsObject (object ms) = Unit {0}

pub written_object : (j : Json) → IsWritten j → IsObject j
written_object j w = subst IsObject (sym (w.2 ∙ document-fields w.0)) tt
