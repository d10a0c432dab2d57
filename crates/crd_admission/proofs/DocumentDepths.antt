-- How deep documents are.
use Rattle.std.proofs.Common.{◌≡◌, ℕ, suc, ◌≤◌, max, List, [], ◌∷◌, Bool, true, false, cond, Option, Some, None, Ordering, Less, Equal, Greater, nat_cmp, sym, subst, arith}
use Rattle.std.specs.Prelude.{codes}
use Rattle.std.specs.Ordering.{match_ordering}
use Rattle.std.specs.Cmp.Lexicographic.{slice_cmp}
use Rattle.std.specs.BTreeMap.{is_at}
use Rattle.kj_value.specs.Json.{Json, null, boolean, whole, text, list, object, members_of, depth, members_depth}
use Rattle.kj_value.specs.Fields.{Pairs, field, with_field, without_field}
use Rattle.kj_value.specs.KindLaws.{members_pairs}
use Rattle.kube_meta.specs.Document.{text_fields}
use Rattle.kube_meta.specs.View.{Texts, ObjectView}
use Rattle.object_reading.specs.Fields.{object_at}
use Rattle.object_reading.specs.Parts.{body_in}
use Rattle.object_reading.proofs.Lists.{pairs_members}
use Rattle.crd_meaning.specs.Converted.{with_notes, document_with, metadata_in}

-- the greatest depth of a field's value
abbrev most : Pairs → ℕ
most es = members_depth (members_of es)

-- ---- numbers

both : (n a b : ℕ) → a ≤ n → b ≤ n → max a b ≤ n
both n a b p q = omega arith

first : (n a b : ℕ) → max a b ≤ n → a ≤ n
first n a b p = omega arith

second : (n a b : ℕ) → max a b ≤ n → b ≤ n
second n a b p = omega arith

one_more : (n a : ℕ) → a ≤ n → suc a ≤ suc n
one_more n a p = omega arith

one_less : (n a : ℕ) → suc a ≤ suc n → a ≤ n
one_less n a p = omega arith

-- ---- fields put in, taken out and looked up

most-with : (n : ℕ) (k : List ℕ) (v : Json) (es : Pairs) → depth v ≤ n → most es ≤ n → most (with_field k v es) ≤ n
most-with n k v [] p h = both n (depth v) 0 p h
most-with n k v (e ∷ es) p h =
    let here = first n (depth e.1) (most es) h in
    let rest = second n (depth e.1) (most es) h in
    by_order here rest (most-with n k v es p rest) (slice_cmp nat_cmp k e.0)
  where
    by_order : depth e.1 ≤ n → most es ≤ n → most (with_field k v es) ≤ n → (o : Ordering) → most (match_ordering o ((k, v) ∷ e ∷ es) ((e.0, v) ∷ es) (e ∷ with_field k v es)) ≤ n
    by_order here rest more Less = both n (depth v) (max (depth e.1) (most es)) p h
    by_order here rest more Equal = both n (depth v) (most es) p rest
    by_order here rest more Greater = both n (depth e.1) (most (with_field k v es)) here more

most-without : (n : ℕ) (k : List ℕ) (es : Pairs) → most es ≤ n → most (without_field k es) ≤ n
most-without n k [] h = h
most-without n k (e ∷ es) h =
    let here = first n (depth e.1) (most es) h in
    let rest = second n (depth e.1) (most es) h in
    by_test here rest (most-without n k es rest) (is_at (slice_cmp nat_cmp k) e.0)
  where
    by_test : depth e.1 ≤ n → most es ≤ n → most (without_field k es) ≤ n → (b : Bool) → most (cond b es (e ∷ without_field k es)) ≤ n
    by_test here rest more true = rest
    by_test here rest more false = both n (depth e.1) (most (without_field k es)) here more

abbrev IsWithin : ℕ → Option Json → Type 0
IsWithin n None = Unit {0}
IsWithin n (Some j) = depth j ≤ n

within-field : (n : ℕ) (k : List ℕ) (es : Pairs) → most es ≤ n → IsWithin n (field k es)
within-field n k [] h = tt
within-field n k (e ∷ es) h =
    by_test (within-field n k es (second n (depth e.1) (most es) h)) (is_at (slice_cmp nat_cmp k) e.0)
  where
    by_test : IsWithin n (field k es) → (b : Bool) → IsWithin n (cond b (Some e.1) (field k es))
    by_test more true = first n (depth e.1) (most es) h
    by_test more false = more

zero_within : (n : ℕ) → 0 ≤ n
zero_within n = omega arith

-- the fields of an object that stands there
most-object_at : (n : ℕ) (o : Option Json) → IsWithin (suc n) o → most (object_at o) ≤ n
most-object_at n None h = zero_within n
most-object_at n (Some null) h = zero_within n
most-object_at n (Some (boolean b)) h = zero_within n
most-object_at n (Some (whole z)) h = zero_within n
most-object_at n (Some (text s)) h = zero_within n
most-object_at n (Some (list js)) h = zero_within n
most-object_at n (Some (object ms)) h = rw (members_pairs ms) (one_less n (members_depth ms) h)

-- ---- of a document

pub body_within : (es : Pairs) → depth (object (members_of es)) ≤ 64 → depth (object (members_of (body_in es))) ≤ 64
body_within es h =
    let m = without_field (codes "metadata") es in
    let k = without_field (codes "kind") m in
    one_more 63 (most (body_in es)) (most-without 63 (codes "apiVersion") k (most-without 63 (codes "kind") m (most-without 63 (codes "metadata") es (one_less 63 (most es) h))))

pub metadata_within : (es : Pairs) → depth (object (members_of es)) ≤ 64 → most (metadata_in (object (members_of es))) ≤ 62
metadata_within es h =
    rw (pairs_members es) (most-object_at 62 (field (codes "metadata") es) (within-field 63 (codes "metadata") es (one_less 63 (most es) h)))

texts_flat : (ts : Texts) → most (text_fields ts) ≤ 0
texts_flat [] = zero_within 0
texts_flat (t ∷ ts) = both 0 0 (most (text_fields ts)) (zero_within 0) (texts_flat ts)

notes_within : (ts : Texts) → depth (object (members_of (text_fields ts))) ≤ 62
notes_within ts = few (most (text_fields ts)) (texts_flat ts)
  where
    few : (a : ℕ) → a ≤ 0 → suc a ≤ 62
    few a p = omega arith

most-with_notes : (ts : Texts) (ms : Pairs) → most ms ≤ 62 → most (with_notes ts ms) ≤ 62
most-with_notes [] ms h = most-without 62 (codes "annotations") ms h
most-with_notes (t ∷ ts) ms h =
    most-with 62 (codes "annotations") (object (members_of (text_fields (t ∷ ts)))) ms (notes_within (t ∷ ts)) h

pub document_within : (ms : Pairs) (y : ObjectView) → most ms ≤ 62 → depth (object (members_of y.body)) ≤ 64 → depth (document_with ms y) ≤ 64
unfolding document_with
document_within ms y p q =
    let notes = with_notes y.meta.annotations ms in
    let version = with_field (codes "apiVersion") (text y.api_version) y.body in
    let kind = with_field (codes "kind") (text y.kind) version in
    one_more 63 (most (with_field (codes "metadata") (object (members_of notes)) kind))
    (most-with 63 (codes "metadata") (object (members_of notes)) kind (one_more 62 (most notes) (most-with_notes y.meta.annotations ms p))
    (most-with 63 (codes "kind") (text y.kind) version (zero_within 63)
    (most-with 63 (codes "apiVersion") (text y.api_version) y.body (zero_within 63) (one_less 63 (most y.body) q))))

-- k is the document of y with the metadata of a document of these fields
pub converted_within : (es ms : Pairs) (y : ObjectView) (k : Json) → depth (object (members_of es)) ≤ 64 → ms ≡ metadata_in (object (members_of es)) → depth (object (members_of y.body)) ≤ 64
    → k ≡ document_with ms y → depth k ≤ 64
converted_within es ms y k levels m body e =
    let fields : most ms ≤ 62 = subst (λ (fs : Pairs). most fs ≤ 62) (sym m) (metadata_within es levels) in
    subst (λ (j : Json). depth j ≤ 64) (sym e) (document_within ms y fields body)
