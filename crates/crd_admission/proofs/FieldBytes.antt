-- Sums over the fields of an object in which a name is set.
use Rattle.std.proofs.Common.{◌≡◌, ℕ, ◌+◌, List, [], ◌∷◌, ◌++◌, cond, Ordering, Less, Equal, Greater, nat_cmp, refl, ap, sym, subst, ◌∙◌, length, arith}
use Rattle.std.specs.Ordering.{is_eq, match_ordering, ordering_reverse}
use Rattle.std.specs.Cmp.Lexicographic.{slice_cmp}
use Rattle.std.specs.Map.{keys_of}
use Rattle.std.specs.Str.{bytes_eq}
use Rattle.std.proofs.lemmas.Cmp.{nat_list_cmp_total}
use Rattle.std.proofs.lemmas.Slice.Eq.{bytes_eq-Decides}
use Rattle.std.proofs.lemmas.Map.Text.{is_eq-slice_cmp}
use Rattle.kj_value.specs.Json.{Json, members_of}
use Rattle.kj_value.specs.Sound.{AreRising}
use Rattle.kj_value.specs.Fields.{Pairs, with_field, IsBelowFirst, AreInOrder}
use Rattle.crd_admission.specs.inner.Count.{total}

pub total-none : (f : List ℕ × Json → ℕ) (ps : Pairs) → length ps ≡ 0 → total f ps ≡ 0
total-none f [] h = refl
total-none f (p ∷ ps) h = absurd (omega arith)

pub total-same : (f g : List ℕ × Json → ℕ) (ps : Pairs) → ((p : List ℕ × Json) → f p ≡ g p) → total f ps ≡ total g ps
total-same f g [] h = refl
total-same f g (p ∷ ps) h = omega (arith, h p, total-same f g ps h)

pub total-append : (f : List ℕ × Json → ℕ) (ps qs : Pairs) → total f (ps ++ qs) ≡ total f ps + total f qs
total-append f [] qs = omega arith
total-append f (p ∷ ps) qs = omega (arith, total-append f ps qs)

pub in_order : (ps : Pairs) → AreRising (members_of ps) → AreInOrder ps
in_order [] h = tt
in_order (p ∷ []) h = (tt, tt)
in_order (p ∷ q ∷ ps) h = (h.0, in_order (q ∷ ps) h.2)

-- ---- a field with a name stays in order

below-with : (l k : List ℕ) (v : Json) (es : Pairs) → slice_cmp nat_cmp l k ≡ Less → IsBelowFirst l (keys_of es) → IsBelowFirst l (keys_of (with_field k v es))
below-with l k v [] p h = p
below-with l k v (e ∷ es) p h = by_order (slice_cmp nat_cmp k e.0)
  where
    by_order : (o : Ordering) → IsBelowFirst l (keys_of (match_ordering o ((k, v) ∷ e ∷ es) ((e.0, v) ∷ es) (e ∷ with_field k v es)))
    by_order Less = p
    by_order Equal = h
    by_order Greater = h

pub in_order-with : (k : List ℕ) (v : Json) (es : Pairs) → AreInOrder es → AreInOrder (with_field k v es)
in_order-with k v [] h = (tt, tt)
in_order-with k v (e ∷ es) h = by_order (in_order-with k v es h.1) (slice_cmp nat_cmp k e.0) refl
  where
    by_order : AreInOrder (with_field k v es) → (o : Ordering) → slice_cmp nat_cmp k e.0 ≡ o → AreInOrder (match_ordering o ((k, v) ∷ e ∷ es) ((e.0, v) ∷ es) (e ∷ with_field k v es))
    by_order r Less q = (q, h)
    by_order r Equal q = h
    by_order r Greater q = (below-with e.0 k v es (nat_list_cmp_total.antisymm e.0 k ∙ ap ordering_reverse q) h.0, r)

-- ---- and adds what it is counted as

-- without the fields at the name
abbrev pub skip : List ℕ → (List ℕ × Json → ℕ) → List ℕ × Json → ℕ
skip k f e = cond (is_eq (slice_cmp nat_cmp k e.0)) 0 (f e)

below-next : (k : List ℕ) (e : List ℕ × Json) (es : Pairs) → slice_cmp nat_cmp k e.0 ≡ Less → IsBelowFirst e.0 (keys_of es) → IsBelowFirst k (keys_of es)
below-next k e [] p h = tt
below-next k e (g ∷ es) p h = nat_list_cmp_total.trans k e.0 g.0 p h

-- a name that comes before all is none of them
skip-below : (k : List ℕ) (f : List ℕ × Json → ℕ) (es : Pairs) → IsBelowFirst k (keys_of es) → AreInOrder es → total (skip k f) es ≡ total f es
skip-below k f [] p h = refl
skip-below k f (e ∷ es) p h =
    let here : skip k f e ≡ f e = ap (λ o. cond (is_eq o) 0 (f e)) p in
    let later = skip-below k f es (below-next k e es p h.0) h.1 in
    omega (arith, here, later)

one_name : (k l : List ℕ) → slice_cmp nat_cmp k l ≡ Equal → k ≡ l
one_name k l q = (bytes_eq-Decides k l).0 (sym (is_eq-slice_cmp k l) ∙ ap is_eq q)

is_eq-reverse : (o : Ordering) → is_eq (ordering_reverse o) ≡ is_eq o
is_eq-reverse Less = refl
is_eq-reverse Equal = refl
is_eq-reverse Greater = refl

-- the test of a name either way
pub same_test : (k l : List ℕ) → is_eq (slice_cmp nat_cmp k l) ≡ bytes_eq l k
same_test k l = ap is_eq (nat_list_cmp_total.antisymm k l) ∙ is_eq-reverse (slice_cmp nat_cmp l k) ∙ is_eq-slice_cmp l k

pub total-with : (k : List ℕ) (v : Json) (f : List ℕ × Json → ℕ) (es : Pairs) → AreInOrder es → total f (with_field k v es) ≡ f (k, v) + total (skip k f) es
total-with k v f [] h = refl
total-with k v f (e ∷ es) h = by_order (total-with k v f es h.1) (slice_cmp nat_cmp k e.0) refl
  where
    by_order : total f (with_field k v es) ≡ f (k, v) + total (skip k f) es → (o : Ordering) → slice_cmp nat_cmp k e.0 ≡ o
        → total f (match_ordering o ((k, v) ∷ e ∷ es) ((e.0, v) ∷ es) (e ∷ with_field k v es)) ≡ f (k, v) + (cond (is_eq o) 0 (f e) + total (skip k f) es)
    by_order r Less q = let later = skip-below k f es (below-next k e es q h.0) h.1 in omega (arith, later)
    by_order r Equal q =
        let same : k ≡ e.0 = one_name k e.0 q in
        let later = skip-below k f es (subst (λ (l : List ℕ). IsBelowFirst l (keys_of es)) (sym same) h.0) h.1 in
        let value : f (e.0, v) ≡ f (k, v) = ap (λ (l : List ℕ). f (l, v)) (sym same) in
        omega (arith, later, value)
    by_order r Greater q = omega (arith, r)
