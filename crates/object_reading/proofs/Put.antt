-- What is found of a name in fields into which it, or another one, was put.
use Rattle.std.proofs.Common.{◌≡◌, ◌∙◌, ℕ, List, [], ◌∷◌, Option, Some, None, false, Ordering, Less, Equal, Greater, cond, nat_cmp, is_eq, ap, refl, sym}
use Rattle.std.specs.Ordering.{match_ordering}
use Rattle.std.specs.Cmp.Lexicographic.{slice_cmp}
use Rattle.std.specs.BTreeMap.{is_at}
use Rattle.std.proofs.lemmas.Cmp.{nat_list_cmp_total, tied_itself}
use Rattle.kj_value.specs.Json.{Json}
use Rattle.kj_value.specs.Fields.{Pairs, field, with_field, without_field}
use Rattle.object_reading.proofs.Left.{one_name}

itself : (k : List ℕ) → slice_cmp nat_cmp k k ≡ Equal
itself k = tied_itself nat_list_cmp_total k

pub field-with : (k : List ℕ) (v : Json) (es : Pairs) → field k (with_field k v es) ≡ Some v
field-with k v [] = rw (itself k) refl
field-with k v (e ∷ es) = by_order (slice_cmp nat_cmp k e.0) refl (field-with k v es)
  where
    by_order : (o : Ordering) → slice_cmp nat_cmp k e.0 ≡ o → field k (with_field k v es) ≡ Some v
        → field k (match_ordering o ((k, v) ∷ e ∷ es) ((e.0, v) ∷ es) (e ∷ with_field k v es)) ≡ Some v
    by_order Less p more = rw (itself k) refl
    by_order Equal p more = rw p refl
    by_order Greater p more = rw p more

pub field-with_other : (k l : List ℕ) (v : Json) (es : Pairs) → is_at (slice_cmp nat_cmp k) l ≡ false → field k (with_field l v es) ≡ field k es
field-with_other k l v [] d = rw d refl
field-with_other k l v (e ∷ es) d = by_order (slice_cmp nat_cmp l e.0) refl (field-with_other k l v es d)
  where
    by_order : (o : Ordering) → slice_cmp nat_cmp l e.0 ≡ o → field k (with_field l v es) ≡ field k es
        → field k (match_ordering o ((l, v) ∷ e ∷ es) ((e.0, v) ∷ es) (e ∷ with_field l v es)) ≡ field k (e ∷ es)
    by_order Less p more = rw d refl
    by_order Equal p more =
        let other : is_at (slice_cmp nat_cmp k) e.0 ≡ false = ap (λ (n : List ℕ). is_at (slice_cmp nat_cmp k) n) (sym (one_name l e.0 (ap is_eq p))) ∙ d in
        rw other refl
    by_order Greater p more = ap (λ (r : Option Json). cond (is_at (slice_cmp nat_cmp k) e.0) (Some e.1) r) more

-- a new name that is taken out again
pub without-with : (k : List ℕ) (v : Json) (es : Pairs) → field k es ≡ None → without_field k (with_field k v es) ≡ es
without-with k v [] d = rw (itself k) refl
without-with k v (e ∷ es) d = by_order (slice_cmp nat_cmp k e.0) refl d (without-with k v es)
  where
    by_order : (o : Ordering) → slice_cmp nat_cmp k e.0 ≡ o → cond (is_eq o) (Some e.1) (field k es) ≡ None
        → (field k es ≡ None → without_field k (with_field k v es) ≡ es)
        → without_field k (match_ordering o ((k, v) ∷ e ∷ es) ((e.0, v) ∷ es) (e ∷ with_field k v es)) ≡ e ∷ es
    by_order Less p none more = rw (itself k) refl
    by_order Equal p none more = absurd (cc)
    by_order Greater p none more = rw p (ap (λ (r : Pairs). e ∷ r) (more none))
