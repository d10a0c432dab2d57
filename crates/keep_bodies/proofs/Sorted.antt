-- A sorted list of the same entries is the one that insertion gives, where that one is in order.
use Rattle.std.proofs.Common.{◌≡◌, ℕ, zero, suc, ◌+◌, ◌<◌, List, [], ◌∷◌, length, get_or, Bool, true, false, ◌&&◌, not, cond, inl, inr, refl, ap, sym, subst, arith}
use Rattle.std.specs.Cmp.{IsStrictWeakOrder}
use Rattle.std.specs.List.{AllByRecursion, Contains, IsDistinct}
use Rattle.std.specs.List.Sorted.{IsPermutation, IsSortedBy}
use Rattle.std.proofs.lemmas.List.MinMax.{ranks_by}
use Rattle.std.proofs.lemmas.List.Sorted.{IsPermutation-refl, IsPermutation-cons, IsPermutation-middle, IsPermutation-trans, All-permutation, Contains-permutation}
use Rattle.std.proofs.lemmas.Map.Keys.{IsDistinct-IsPermutation}
use Rattle.kept_entries.specs.declared.entry.Entry.{Entry}
use Rattle.kept_entries.specs.Entry.{is_before, are_in_order}
use Rattle.keep_laws.specs.Entry.{with_entry, in_order}
use Rattle.keep_laws.specs.Words.{Has}
use Rattle.keep_laws.proofs.Canonical.{AllAfter, EntriesRise, all_after, entries_total, rise_from, same_entries}
use Rattle.keep_laws.proofs.Holds.{order_has, has_order}
use Rattle.keep_bodies.proofs.Standing.{has_at}

pub entries_rank : IsStrictWeakOrder is_before
entries_rank = ranks_by entries_total (λ (e : Entry). e)

abbrev tied : Entry → Entry → Bool
tied e f = not (is_before e f) && not (is_before f e)

tied_turned : (e f : Entry) → tied e f ≡ tied f e
tied_turned e f = by_both (is_before e f) (is_before f e)
  where
    by_both : (a b : Bool) → (not a && not b) ≡ (not b && not a)
    by_both true true = refl
    by_both true false = refl
    by_both false true = refl
    by_both false false = refl

-- ---- rising lists have no ties

none_tied : (e : Entry) (es : List Entry) → AllAfter e es → AllByRecursion (λ f. tied e f ≡ false) es
none_tied e [] a = tt
none_tied e (f ∷ fs) a = (ap (λ (b : Bool). not b && not (is_before f e)) a.0, none_tied e fs a.1)

rise_distinct : (es : List Entry) → EntriesRise es → IsDistinct tied es
unfolding IsDistinct
rise_distinct [] r = tt
rise_distinct (e ∷ es) r = (none_tied e es r.0, rise_distinct es r.1)

forward : (a b : Bool) → b ≡ false → (not a && not b) ≡ false → a ≡ true
forward true b h g = refl
forward false true h g = sym h
forward false false h g = absurd (lie g)
  where
    lie : true ≡ false → ⊥
    lie e = cc

sorted_tail : (y : Entry) (ys : List Entry) → IsSortedBy is_before (y ∷ ys) → IsSortedBy is_before ys
sorted_tail y ys s k d l h =
    let e : suc k + 1 ≡ suc (k + 1) = omega arith in
    subst (λ (j : ℕ). is_before (get_or (y ∷ ys) j d) (get_or ys k d) ≡ false) e (s (suc k) d (omega arith) (omega (arith, h)))

sorted_rises : (ys : List Entry) → IsSortedBy is_before ys → IsDistinct tied ys → EntriesRise ys
unfolding IsDistinct
sorted_rises [] s a = tt
sorted_rises (y ∷ []) s a = (tt, tt)
sorted_rises (y ∷ z ∷ zs) s a =
    let first : is_before y z ≡ true = forward (is_before y z) (is_before z y) (s zero y (omega arith) (omega arith)) a.0.0 in
    let rest = sorted_rises (z ∷ zs) (sorted_tail y (z ∷ zs) s) a.1 in
    ((first, all_after y z zs first rest.0), rest)

-- ---- the same members

with_permutes : (e : Entry) (es : List Entry) → IsPermutation (with_entry e es) (e ∷ es)
with_permutes e [] = IsPermutation-refl (e ∷ [])
with_permutes e (f ∷ fs) = by_answer (with_permutes e fs) (is_before e f)
  where
    by_answer : IsPermutation (with_entry e fs) (e ∷ fs) → (b : Bool) → IsPermutation (cond b (e ∷ f ∷ fs) (f ∷ with_entry e fs)) (e ∷ f ∷ fs)
    by_answer go true = IsPermutation-refl (e ∷ f ∷ fs)
    by_answer go false =
        IsPermutation-trans (f ∷ with_entry e fs) (f ∷ e ∷ fs) (e ∷ f ∷ fs) (IsPermutation-cons f (with_entry e fs) (e ∷ fs) go) (IsPermutation-middle (f ∷ []) e fs)

order_permutes : (xs : List Entry) → IsPermutation (in_order xs) xs
order_permutes [] = IsPermutation-refl []
order_permutes (x ∷ xs) =
    IsPermutation-trans (with_entry x (in_order xs)) (x ∷ in_order xs) (x ∷ xs) (with_permutes x (in_order xs)) (IsPermutation-cons x (in_order xs) xs (order_permutes xs))

has_contains : (e : Entry) (xs : List Entry) → Has e xs → Contains xs e
has_contains e [] i = absurd i
has_contains e (x ∷ xs) (inl q) = (zero, omega arith, sym q)
has_contains e (x ∷ xs) (inr i) =
    let r = has_contains e xs i in
    let l = r.1 in
    (suc r.0, omega (arith, l), r.2)

all_have : (xs ys : List Entry) → IsPermutation xs ys → (e : Entry) → Has e ys → Has e xs
all_have xs ys p e i =
    let all = All-permutation (λ (f : Entry). Has f xs) xs ys p (λ k d l. has_at xs k (get_or xs k d) l (same_default xs k d l)) in
    let c = has_contains e ys i in
    subst (λ (f : Entry). Has f xs) c.2 (all c.0 e c.1)
  where
    same_default : (zs : List Entry) (k : ℕ) (d : Entry) → k < length zs → get_or zs k d ≡ get_or zs k (get_or zs k d)
    same_default [] k d l = refl
    same_default (z ∷ zs) zero d l = refl
    same_default (z ∷ zs) (suc k) d l = same_default zs k d (omega (arith, l))

pub sort_is : (xs ys : List Entry) → IsPermutation xs ys → IsSortedBy is_before ys → are_in_order (in_order xs) ≡ true → ys ≡ in_order xs
sort_is xs ys p s h =
    let zs = in_order xs in
    let rises = rise_from zs h in
    let distinct = IsDistinct-IsPermutation tied tied_turned zs ys (IsPermutation-trans zs xs ys (order_permutes xs) p) (rise_distinct zs rises) in
    same_entries ys zs (sorted_rises ys s distinct) rises (λ e i. has_order e xs (all_have xs ys p e i)) (
    λ e i. let c = Contains-permutation xs ys e p (has_contains e xs (order_has e xs i)) in has_at ys c.0 e c.1 (sym c.2)
    )
