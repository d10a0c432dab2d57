-- How long the text of an object's document is, part by part.
use Rattle.std.proofs.Common.{◌≡◌, ℕ, ◌+◌, ◌-◌, ◌^◌, List, [], ◌++◌, Bool, true, false, cond, length, map, refl, arith}
use Rattle.std.specs.Prelude.{pos, Some, None, codes, decimal, ◌||◌, if◌then◌else◌}
use Rattle.std.specs.Fmt.{digits}
use Rattle.std.specs.Str.{bytes_eq}
use Rattle.kj_value.specs.Json.{Json, text, object, members_of}
use Rattle.kj_value.specs.Sound.{AreRising}
use Rattle.kj_value.specs.Fields.{Pairs, with_field, AreInOrder}
use Rattle.kj_value.specs.Text.{text_of}
use Rattle.kube_meta.specs.View.{MetaView, ObjectView}
use Rattle.kube_meta.specs.Document.{optional, some_text, some_texts, some_list, some_generation, metadata, document}
use Rattle.api_calls.specs.Meaning.{longest_stamp, measure}
use Rattle.crd_admission.specs.inner.Count.{field_bytes, total, other_bytes, meta_bytes, document_bytes}
use Rattle.crd_admission.proofs.Bytes.{length-object_some}
use Rattle.crd_admission.proofs.FieldBytes.{total-append, in_order, in_order-with, total-none, total-same, skip, same_test, total-with}

-- ---- the metadata

length-most : length (decimal (2 ^ 63 - 1)) ≡ 19
unfolding digits
length-most = refl

stamps : total field_bytes (optional (codes "creationTimestamp") (Some (text longest_stamp))) + total field_bytes (optional (codes "deletionTimestamp") (Some (text longest_stamp))) ≡ 86
stamps = refl

generation : total field_bytes (optional (codes "generation") (some_generation (pos (2 ^ 63 - 1)))) ≡ 33
generation = omega (arith, length-most)

sizes : (a c d f g l n s o : Pairs)
    → total field_bytes (a ++ c ++ d ++ f ++ g ++ l ++ n ++ s ++ o ++ [] ++ [])
    ≡ total field_bytes c + total field_bytes d + total field_bytes g + (total field_bytes a + total field_bytes f + total field_bytes l + total field_bytes n + total field_bytes s + total field_bytes o)
sizes a c d f g l n s o =
    let p1 = total-append field_bytes (a ++ c ++ d ++ f ++ g ++ l ++ n ++ s ++ o ++ []) [] in
    let p2 = total-append field_bytes (a ++ c ++ d ++ f ++ g ++ l ++ n ++ s ++ o) [] in
    let p3 = total-append field_bytes (a ++ c ++ d ++ f ++ g ++ l ++ n ++ s) o in
    let p4 = total-append field_bytes (a ++ c ++ d ++ f ++ g ++ l ++ n) s in
    let p5 = total-append field_bytes (a ++ c ++ d ++ f ++ g ++ l) n in
    let p6 = total-append field_bytes (a ++ c ++ d ++ f ++ g) l in
    let p7 = total-append field_bytes (a ++ c ++ d ++ f) g in
    let p8 = total-append field_bytes (a ++ c ++ d) f in
    let p9 = total-append field_bytes (a ++ c) d in
    let p10 = total-append field_bytes a c in
    omega (arith, p1, p2, p3, p4, p5, p6, p7, p8, p9, p10)

-- the stamps and the generation of most bytes, and neither number nor uid
abbrev widest_meta : MetaView → MetaView
widest_meta m = record m {
  created = Some longest_stamp;
  deleted = Some longest_stamp;
  generation = pos (2 ^ 63 - 1);
  resource_version = None;
  uid = None;
}

total-metadata : (m : MetaView) → total field_bytes (metadata (widest_meta m)) + 1 ≡ meta_bytes m
unfolding metadata
total-metadata m =
    let all = sizes
    (optional (codes "annotations") (some_texts m.annotations))
    (optional (codes "creationTimestamp") (Some (text longest_stamp)))
    (optional (codes "deletionTimestamp") (Some (text longest_stamp)))
    (optional (codes "finalizers") (some_list (map text m.finalizers)))
    (optional (codes "generation") (some_generation (pos (2 ^ 63 - 1))))
    (optional (codes "labels") (some_texts m.labels))
    (optional (codes "name") (some_text m.name))
    (optional (codes "namespace") (some_text m.namespace))
    (optional (codes "ownerReferences") (some_list m.owners)) in
    omega (arith, all, stamps, generation)

length-metadata : (m : MetaView) → length (text_of (object (members_of (metadata (widest_meta m))))) ≡ meta_bytes m
length-metadata m =
    let all = total-metadata m in
    let some : length (metadata (widest_meta m)) ≡ 0 → ⊥ = λ q. omega (arith, all, total-none field_bytes (metadata (widest_meta m)) q) in
    omega (arith, all, length-object_some (metadata (widest_meta m)) some)

-- ---- the document

either : (x y z : Bool) (n : ℕ) → cond x 0 (cond y 0 (cond z 0 n)) ≡ (if x || y || z then 0 else n)
either true y z n = refl
either false true z n = refl
either false false true n = refl
either false false false n = refl

-- what the three names leave
others-same : (e : List ℕ × Json) → skip (codes "apiVersion") (skip (codes "kind") (skip (codes "metadata") field_bytes)) e ≡ other_bytes e
others-same e =
    rw (same_test (codes "apiVersion") e.0, same_test (codes "kind") e.0, same_test (codes "metadata") e.0)
    (either (bytes_eq e.0 (codes "apiVersion")) (bytes_eq e.0 (codes "kind")) (bytes_eq e.0 (codes "metadata")) (field_bytes e))

pub length-document : (o : ObjectView) → AreRising (members_of o.body) → measure o ≡ document_bytes o
unfolding document
length-document o h =
    let api_version = text o.api_version in
    let kind = text o.kind in
    let meta = object (members_of (metadata (widest_meta o.meta))) in
    let versioned = with_field (codes "apiVersion") api_version o.body in
    let typed = with_field (codes "kind") kind versioned in
    let whole_body = with_field (codes "metadata") meta typed in
    let order : AreInOrder versioned = in_order-with (codes "apiVersion") api_version o.body (in_order o.body h) in
    let later : AreInOrder typed = in_order-with (codes "kind") kind versioned order in
    let s1 : total field_bytes whole_body ≡ field_bytes (codes "metadata", meta) + total (skip (codes "metadata") field_bytes) typed
    = total-with (codes "metadata") meta field_bytes typed later in
    let s2 : total (skip (codes "metadata") field_bytes) typed ≡ field_bytes (codes "kind", kind) + total (skip (codes "kind") (skip (codes "metadata") field_bytes)) versioned
    = total-with (codes "kind") kind (skip (codes "metadata") field_bytes) versioned order in
    let s3 : total (skip (codes "kind") (skip (codes "metadata") field_bytes)) versioned ≡ field_bytes (codes "apiVersion", api_version) + total (skip (codes "apiVersion") (skip (codes "kind") (skip (codes "metadata") field_bytes))) o.body
    = total-with (codes "apiVersion") api_version (skip (codes "kind") (skip (codes "metadata") field_bytes)) o.body (in_order o.body h) in
    let s4 : total (skip (codes "apiVersion") (skip (codes "kind") (skip (codes "metadata") field_bytes))) o.body ≡ total other_bytes o.body
    = total-same (skip (codes "apiVersion") (skip (codes "kind") (skip (codes "metadata") field_bytes))) other_bytes o.body others-same in
    let some : length whole_body ≡ 0 → ⊥ = λ q. omega (arith, s1, total-none field_bytes whole_body q) in
    let all : measure o ≡ 1 + total field_bytes whole_body = length-object_some whole_body some in
    omega (arith, all, s1, s2, s3, s4, length-metadata o.meta)
