-- The rows of a namespace lie one behind another.
use Rattle.std.proofs.Common.{◌≡◌, ℕ, zero, suc, ◌+◌, ◌-◌, ◌<◌, ◌≤◌, List, [], ◌∷◌, length, get_or, map, take, drop, filter, cond, nat_lt, Bool, true, false, Ordering, Less, Equal, Greater, Some, Option, ap, sym, refl, ◌∙◌, arith}
use Rattle.std.proofs.Math.Seq.{take-nil}
use Rattle.std.proofs.lemmas.Bool.Decides.{nat_tests}
use Rattle.std.proofs.lemmas.Cmp.{nat_list_cmp_total}
use Rattle.std.proofs.lemmas.List.{drop-drop, get_or-drop, length-drop}
use Rattle.std.proofs.lemmas.Map.Text.{is_eq-slice_cmp}
use Rattle.std.proofs.lemmas.Option.{get_or_from_slice_get, slice_get_within}
use Rattle.std.specs.Prelude.{◌&&◌, max, not, slice_get}
use Rattle.std.specs.Ordering.{is_eq, is_gt, is_lt, nat_cmp, ordering_reverse, ordering_then}
use Rattle.std.specs.Cmp.Lexicographic.{slice_cmp}
use Rattle.kube_meta.specs.Key.{KeyView, key_cmp}
use Rattle.kube_meta.specs.Page.{bound_after, in_namespace, listed}
use Rattle.record_store.specs.ByKey.{KeysRise, all_behind}
use Rattle.record_store.specs.inner.Stretches.{comes_before}
use Rattle.kube_meta.specs.Plan.{passed}
use Rattle.record_store.proofs.Search.{earlier}

abbrev pub is_behind : Option KeyView → KeyView → Bool
is_behind after x = not (passed (bound_after after) x)

abbrev pub names_cmp : List ℕ → List ℕ → Ordering
names_cmp a b = slice_cmp nat_cmp a b

turned : (a b : List ℕ) (o : Ordering) → names_cmp a b ≡ o → names_cmp b a ≡ ordering_reverse o
turned a b o e = nat_list_cmp_total.antisymm b a ∙ ap ordering_reverse e

-- the namespaces of keys that rise never fall
module _ (with_them : Bool) (ns : List ℕ) where
  when-less : (x : KeyView) → names_cmp x.ns ns ≡ Less → comes_before with_them ns x ≡ true
  when-less x e = by with_them
    where
      by : (b : Bool) → comes_before b ns x ≡ true
      by true = rw e refl
      by false = rw e refl

  not-greater : (x : KeyView) → names_cmp x.ns ns ≡ Greater → comes_before with_them ns x ≡ true → ⊥
  not-greater x e h = by with_them h
    where
      by : (b : Bool) → comes_before b ns x ≡ true → ⊥
      by true h = let k : comes_before true ns x ≡ false = rw e refl in cc
      by false h = let k : comes_before false ns x ≡ false = rw e refl in cc

  pub falls : (x y : KeyView) → key_cmp x y ≡ Less → comes_before with_them ns y ≡ true → comes_before with_them ns x ≡ true
  falls x y e h = by (names_cmp x.ns y.ns) refl e
    where
      lower : (o : Ordering) → names_cmp y.ns ns ≡ o → names_cmp x.ns y.ns ≡ Less → comes_before with_them ns x ≡ true
      lower Less q p = when-less x (nat_list_cmp_total.trans x.ns y.ns ns p q)
      lower Equal q p =
          let one : names_cmp ns x.ns ≡ Greater = sym (nat_list_cmp_total.congr y.ns ns x.ns q) ∙ turned x.ns y.ns Less p in
          when-less x (turned ns x.ns Greater one)
      lower Greater q p = absurd (not-greater y q h)

      by : (o : Ordering) → names_cmp x.ns y.ns ≡ o → ordering_then o (names_cmp x.name y.name) ≡ Less → comes_before with_them ns x ≡ true
      by Less p e = lower (names_cmp y.ns ns) refl p
      by Equal p e = ap (λ (o : Ordering). cond with_them (not (is_gt o)) (is_lt o)) (nat_list_cmp_total.congr x.ns y.ns ns p) ∙ h
      by Greater p e = absurd (cc)

  module _ {F : Type 0} (key : F → KeyView) (fs : List F) (rise : KeysRise (map key fs)) (i : ℕ) (f : F) (got : slice_get fs i ≡ Some f) where
    there : (d : F) → get_or fs i d ≡ f
    there d = get_or_from_slice_get fs i f d got

    pub all-before : comes_before with_them ns (key f) ≡ true → (j : ℕ) (d : F) → j < i + 1 → comes_before with_them ns (key (get_or fs j d)) ≡ true
    all-before h j d p = by (nat_lt j i) refl
      where
        by : (b : Bool) → nat_lt j i ≡ b → comes_before with_them ns (key (get_or fs j d)) ≡ true
        by true e =
            let less : j < i = grind (arith, nat_tests) in
            falls (key (get_or fs j d)) (key (get_or fs i d)) (earlier key fs i j d rise less (slice_get_within fs i f got)) (ap (λ (g : F). comes_before with_them ns (key g)) (there d) ∙ h)
        by false e =
            let same : j ≡ i = let le : i ≤ j = grind (arith, nat_tests) in omega (arith, le, p) in
            ap (λ (n : ℕ). comes_before with_them ns (key (get_or fs n d))) same ∙ ap (λ (g : F). comes_before with_them ns (key g)) (there d) ∙ h

    pub all-behind : comes_before with_them ns (key f) ≡ false → (j : ℕ) (d : F) → i ≤ j → j < length fs → comes_before with_them ns (key (get_or fs j d)) ≡ false
    all-behind h j d p q = by (comes_before with_them ns (key (get_or fs j d))) refl (nat_lt i j) refl
      where
        by : (b : Bool) → comes_before with_them ns (key (get_or fs j d)) ≡ b → (t : Bool) → nat_lt i j ≡ t → b ≡ false
        by false e t g = refl
        by true e true g =
            let less : i < j = grind (arith, nat_tests) in
            let here = falls (key (get_or fs i d)) (key (get_or fs j d)) (earlier key fs j i d rise less q) e in
            let know = ap (λ (g : F). comes_before with_them ns (key g)) (there d) ∙ h in
            absurd (cc)
        by true e false g =
            let same : j ≡ i = let le : j ≤ i = grind (arith, nat_tests) in omega (arith, le, p) in
            let here = ap (λ (n : ℕ). comes_before with_them ns (key (get_or fs n d))) same ∙ ap (λ (g : F). comes_before with_them ns (key g)) (there d) ∙ h in
            absurd (cc)

-- ---- a namespace

pub in-of : (ns : List ℕ) (k : KeyView) (o : Ordering) → names_cmp k.ns ns ≡ o → in_namespace (Some ns) k ≡ is_eq o
in-of ns k o e = sym (is_eq-slice_cmp ns k.ns) ∙ ap is_eq (turned k.ns ns o e) ∙ by o
  where
    by : (o : Ordering) → is_eq (ordering_reverse o) ≡ is_eq o
    by Less = refl
    by Equal = refl
    by Greater = refl

before-all : (ns : List ℕ) (k : KeyView) → comes_before false ns k ≡ true → in_namespace (Some ns) k ≡ false
before-all ns k h = by (names_cmp k.ns ns) refl h
  where
    by : (o : Ordering) → names_cmp k.ns ns ≡ o → is_lt o ≡ true → in_namespace (Some ns) k ≡ false
    by Less e h = in-of ns k Less e
    by Equal e h = absurd (cc)
    by Greater e h = absurd (cc)

behind-them : (ns : List ℕ) (k : KeyView) → comes_before true ns k ≡ false → in_namespace (Some ns) k ≡ false
behind-them ns k h = by (names_cmp k.ns ns) refl h
  where
    by : (o : Ordering) → names_cmp k.ns ns ≡ o → not (is_gt o) ≡ false → in_namespace (Some ns) k ≡ false
    by Less e h = absurd (cc)
    by Equal e h = absurd (cc)
    by Greater e h = in-of ns k Greater e

pub among-them : (ns : List ℕ) (k : KeyView) → comes_before false ns k ≡ false → comes_before true ns k ≡ true → in_namespace (Some ns) k ≡ true
among-them ns k h g = by (names_cmp k.ns ns) refl h g
  where
    by : (o : Ordering) → names_cmp k.ns ns ≡ o → is_lt o ≡ false → not (is_gt o) ≡ true → in_namespace (Some ns) k ≡ true
    by Less e h g = absurd (cc)
    by Equal e h g = in-of ns k Equal e
    by Greater e h g = absurd (cc)

module _ {X : Type 0} where
  filter-both : (p q : X → Bool) (xs : List X) → filter (λ x. p x && q x) xs ≡ filter (λ x. p x && true) (filter q xs)
  filter-both p q [] = refl
  filter-both p q (x ∷ xs) = by (p x) refl (q x) (filter-both p q xs)
    where
      by : (s : Bool) → p x ≡ s → (t : Bool) → filter (λ x. p x && q x) xs ≡ filter (λ x. p x && true) (filter q xs)
          → cond (s && t) (x ∷ filter (λ x. p x && q x) xs) (filter (λ x. p x && q x) xs) ≡ filter (λ x. p x && true) (cond t (x ∷ filter q xs) (filter q xs))
      by true e true more = rw e (ap (λ (l : List X). x ∷ l) more)
      by true e false more = more
      by false e true more = rw e more
      by false e false more = more

-- ---- what passes a test from a place on, up to another

module _ {X : Type 0} (p : X → Bool) where
  from-to : (xs : List X) (s e : ℕ) → s ≤ e → ((j : ℕ) (d : X) → j < s → j < length xs → p (get_or xs j d) ≡ false) → ((j : ℕ) (d : X) → s ≤ j → j < e → j < length xs → p (get_or xs j d) ≡ true)
      → ((j : ℕ) (d : X) → e ≤ j → j < length xs → p (get_or xs j d) ≡ false) → filter p xs ≡ take (e - s) (drop s xs)
  from-to [] zero e le low mid high = sym (take-nil (e - zero))
  from-to [] (suc s) e le low mid high = sym (take-nil (e - suc s))
  from-to (x ∷ xs) zero zero le low mid high =
      let here = high 0 x (omega arith) (omega arith) in
      let none : zero - zero ≡ zero = omega arith in
      rw here (from-to xs zero zero (omega arith) (λ j d q. absurd (omega (arith, q))) (λ j d q r. absurd (omega (arith, r))) (λ j d q r. high (suc j) d (omega arith) (omega (arith, r))) ∙ ap (λ (n : ℕ). take n xs) none ∙ sym (ap (λ (n : ℕ). take n (x ∷ xs)) none))
  from-to (x ∷ xs) zero (suc e) le low mid high =
      let here = mid 0 x (omega arith) (omega arith) (omega arith) in
      let rest : filter p xs ≡ take (e - zero) xs = from-to xs zero e (omega arith) (λ j d q. absurd (omega (arith, q))) (λ j d q r t. mid (suc j) d (omega arith) (omega (arith, r)) (omega (arith, t))) (λ j d q r. high (suc j) d (omega (arith, q)) (omega (arith, r))) in
      let more : suc e - zero ≡ suc (e - zero) = omega arith in
      rw here (ap (λ (l : List X). x ∷ l) rest ∙ sym (ap (λ (n : ℕ). take n (x ∷ xs)) more))
  from-to (x ∷ xs) (suc s) zero le low mid high = absurd (omega (arith, le))
  from-to (x ∷ xs) (suc s) (suc e) le low mid high =
      let here = low 0 x (omega arith) (omega arith) in
      let rest : filter p xs ≡ take (e - s) (drop s xs) = from-to xs s e (omega (arith, le)) (λ j d q t. low (suc j) d (omega (arith, q)) (omega (arith, t))) (λ j d q r t. mid (suc j) d (omega (arith, q)) (omega (arith, r)) (omega (arith, t))) (λ j d q r. high (suc j) d (omega (arith, q)) (omega (arith, r))) in
      let less : suc e - suc s ≡ e - s = omega arith in
      rw here (rest ∙ sym (ap (λ (n : ℕ). take n (drop s xs)) less))

module _ {X : Type 0} (key : X → KeyView) (after : Option KeyView) (xs : List X) (behind : ℕ) (rows : drop behind xs ≡ all_behind key after xs) (within : behind ≤ length xs) where
  module _ (ns : List ℕ) (low high : ℕ) (before : (j : ℕ) (d : X) → j < low → comes_before false ns (key (get_or xs j d)) ≡ true) (from : (j : ℕ) (d : X) → low ≤ j → j < length xs → comes_before false ns (key (get_or xs j d)) ≡ false)
      (upto : (j : ℕ) (d : X) → j < high → comes_before true ns (key (get_or xs j d)) ≡ true) (beyond : (j : ℕ) (d : X) → high ≤ j → j < length xs → comes_before true ns (key (get_or xs j d)) ≡ false) where
    pub stretch-of : (s e : ℕ) → s ≡ max behind low → e ≡ max s high → listed key (Some ns) after xs ≡ take (e - s) (drop s xs)
    stretch-of s e is_s is_e =
        let at : (j : ℕ) (d : X) → get_or (drop behind xs) j d ≡ get_or xs (behind + j) d = λ j d. get_or-drop behind xs j d in
        let long : length (drop behind xs) ≡ length xs - behind = length-drop behind xs in
        let whole : s ≡ behind + (s - behind) = omega (arith, is_s) in
        let count : e - behind - (s - behind) ≡ e - s = omega (arith, is_s, is_e) in
        filter-both (λ x. in_namespace (Some ns) (key x)) (λ x. is_behind after (key x)) xs
        ∙ ap (filter (λ x. in_namespace (Some ns) (key x) && true)) (sym rows)
        ∙ from-to (λ x. in_namespace (Some ns) (key x) && true) (drop behind xs) (s - behind) (e - behind) (omega (arith, is_e))
        (λ j d r t. ap (λ (x : X). in_namespace (Some ns) (key x) && true) (at j d) ∙ ap (λ (b : Bool). b && true) (before-all ns (key (get_or xs (behind + j) d)) (before (behind + j) d (omega (arith, r, is_s)))))
        (λ j d r t u. ap (λ (x : X). in_namespace (Some ns) (key x) && true) (at j d)
        ∙ ap (λ (b : Bool). b && true) (among-them ns (key (get_or xs (behind + j) d)) (from (behind + j) d (omega (arith, r, is_s)) (omega (arith, u, long))) (upto (behind + j) d (omega (arith, r, t, is_s, is_e)))))
        (λ j d r t. ap (λ (x : X). in_namespace (Some ns) (key x) && true) (at j d) ∙ ap (λ (b : Bool). b && true) (behind-them ns (key (get_or xs (behind + j) d)) (beyond (behind + j) d (omega (arith, r, is_s, is_e)) (omega (arith, t, long)))))
        ∙ ap (take (e - behind - (s - behind))) (drop-drop (s - behind) behind xs)
        ∙ ap (λ (n : ℕ). take (e - behind - (s - behind)) (drop n xs)) (sym whole)
        ∙ ap (λ (n : ℕ). take n (drop s xs)) count
