-- How deep the document of an object is.
use Rattle.std.proofs.Common.{ℕ, suc, ◌+◌, ◌≤◌, max, List, [], ◌∷◌, ◌++◌, map, Option, Some, None, Bool, true, false, cond, Ordering, Less, Equal, Greater, nat_cmp, arith}
use Rattle.std.specs.Prelude.{ℤ, pos, option_map, codes}
use Rattle.std.specs.Ordering.{int_eq, match_ordering}
use Rattle.std.specs.Cmp.Lexicographic.{slice_cmp}
use Rattle.kj_value.specs.Json.{Json, whole, text, object, depth, items_depth, members_depth, items_of, members_of}
use Rattle.kj_value.specs.Fields.{Pairs, with_field}
use Rattle.kube_meta.specs.View.{Texts, MetaView, ObjectView}
use Rattle.kube_meta.specs.Document.{optional, some_text, some_texts, some_list, some_generation, text_fields, metadata, document}

-- the greatest depth of a field's value
abbrev most : Pairs → ℕ
most es = members_depth (members_of es)

most-with : (k : List ℕ) (v : Json) (es : Pairs) (n : ℕ) → depth v ≤ n → most es ≤ n → most (with_field k v es) ≤ n
most-with k v [] n p q = omega (arith, p)
most-with k v (e ∷ es) n p q = by_order (most-with k v es n p (omega (arith, q))) (slice_cmp nat_cmp k e.0)
  where
    by_order : most (with_field k v es) ≤ n → (o : Ordering) → most (match_ordering o ((k, v) ∷ e ∷ es) ((e.0, v) ∷ es) (e ∷ with_field k v es)) ≤ n
    by_order r Less = omega (arith, p, q)
    by_order r Equal = omega (arith, p, q)
    by_order r Greater = omega (arith, q, r)

most-append : (es fs : Pairs) (n : ℕ) → most es ≤ n → most fs ≤ n → most (es ++ fs) ≤ n
most-append [] fs n p q = q
most-append (e ∷ es) fs n p q = omega (arith, p, most-append es fs n (omega (arith, p)) q)

-- the field, where its value is within the levels
abbrev IsWithin : ℕ → Option Json → Type 0
IsWithin n None = Unit {0}
IsWithin n (Some j) = depth j ≤ n

most-optional : (name : List ℕ) (o : Option Json) (n : ℕ) → IsWithin n o → most (optional name o) ≤ n
most-optional name None n p = omega arith
most-optional name (Some j) n p = omega (arith, p)

most-text_fields : (ts : Texts) → most (text_fields ts) ≤ 0
most-text_fields [] = omega arith
most-text_fields (t ∷ ts) = omega (arith, most-text_fields ts)

texts_depth : (ss : List (List ℕ)) → items_depth (items_of (map text ss)) ≤ 0
texts_depth [] = omega arith
texts_depth (s ∷ ss) = omega (arith, texts_depth ss)

within-some_texts : (ts : Texts) (n : ℕ) → IsWithin (suc n) (some_texts ts)
within-some_texts [] n = tt
within-some_texts (t ∷ ts) n = omega (arith, most-text_fields (t ∷ ts))

within-some_texts_list : (ss : List (List ℕ)) (n : ℕ) → IsWithin (suc n) (some_list (map text ss))
within-some_texts_list [] n = tt
within-some_texts_list (s ∷ ss) n = omega (arith, texts_depth (s ∷ ss))

within-some_list : (js : List Json) → IsWithin (suc (items_depth (items_of js))) (some_list js)
within-some_list [] = tt
within-some_list (j ∷ js) = omega arith

within-text : (o : Option (List ℕ)) (n : ℕ) → IsWithin n (option_map text o)
within-text None n = tt
within-text (Some s) n = omega arith

within-some_text : (s : List ℕ) (n : ℕ) → IsWithin n (some_text s)
within-some_text [] n = tt
within-some_text (b ∷ bs) n = omega arith

within-generation : (z : ℤ) (n : ℕ) → IsWithin n (some_generation z)
within-generation z n = by_test (int_eq z (pos 0))
  where
    by_test : (b : Bool) → IsWithin n (cond b None (Some (whole z)))
    by_test true = tt
    by_test false = omega arith

most-metadata : (m : MetaView) → most (metadata m) ≤ suc (items_depth (items_of m.owners))
unfolding metadata
most-metadata m =
    let n = items_depth (items_of m.owners) in
    most-append _ _ _ (most-append _ _ _ (most-append _ _ _ (most-append _ _ _ (most-append _ _ _
    (most-append _ _ _ (most-append _ _ _ (most-append _ _ _ (most-append _ _ _ (most-append _ _ _
    (most-optional (codes "annotations") _ _ (within-some_texts m.annotations n))
    (most-optional (codes "creationTimestamp") _ _ (within-text m.created (suc n))))
    (most-optional (codes "deletionTimestamp") _ _ (within-text m.deleted (suc n))))
    (most-optional (codes "finalizers") _ _ (within-some_texts_list m.finalizers n)))
    (most-optional (codes "generation") _ _ (within-generation m.generation (suc n))))
    (most-optional (codes "labels") _ _ (within-some_texts m.labels n)))
    (most-optional (codes "name") _ _ (within-some_text m.name (suc n))))
    (most-optional (codes "namespace") _ _ (within-some_text m.namespace (suc n))))
    (most-optional (codes "ownerReferences") _ _ (within-some_list m.owners)))
    (most-optional (codes "resourceVersion") _ _ (within-text m.resource_version (suc n))))
    (most-optional (codes "uid") _ _ (within-text m.uid (suc n)))

pub depth-document : (o : ObjectView) → depth (document o) ≤ suc (max (members_depth (members_of o.body)) (2 + items_depth (items_of o.meta.owners)))
unfolding document
depth-document o =
    let n = max (members_depth (members_of o.body)) (2 + items_depth (items_of o.meta.owners)) in
    omega (
      arith,
      most-with (codes "metadata") (object (members_of (metadata o.meta))) _ n (omega (arith, most-metadata o.meta))
          (most-with (codes "kind") (text o.kind) _ n (omega arith) (most-with (codes "apiVersion") (text o.api_version) o.body n (omega arith) (omega arith))),
    )
