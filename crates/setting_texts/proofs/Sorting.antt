-- A stable sort by name is the list by name.
use Rattle.std.proofs.Common.{◌≡◌, ℕ, zero, suc, ◌≤◌, ◌<◌, List, [], ◌∷◌, length, get_or, Bool, true, false, not, ◌&&◌, cond, ap, sym, subst, refl, ◌∙◌, arith, is_lt, is_gt, nat_cmp, Ordering, Less, Equal, Greater}
use Rattle.std.specs.Prelude.{filter, if◌then◌else◌}
use Rattle.std.specs.Cmp.{IsStrictWeakOrder}
use Rattle.std.specs.Cmp.Lexicographic.{slice_cmp}
use Rattle.std.specs.Ordering.{ordering_reverse}
use Rattle.std.specs.List.Sorted.{IsSortedBy, IsStableBy, ties}
use Rattle.std.proofs.lemmas.Cmp.{nat_list_cmp_total}
use Rattle.std.proofs.lemmas.List.MinMax.{ranks_by}
use Rattle.std.proofs.lemmas.List.Sorted.{sorted_far}
use Rattle.kube_meta.specs.Plan.{Migration}
use Rattle.api_calls.specs.Documents.{by_name, placed}
use Rattle.api_calls.specs.Legal.{Each}

-- ---- lists in order

module _ {X : Type 0} (lt : X → X → Bool) (o : IsStrictWeakOrder lt) where
  -- none is less than one before it
  abbrev Rises : List X → Type 0
  Rises [] = Unit {0}
  Rises (x ∷ xs) = Each (λ y. lt y x ≡ false) xs × Rises xs

  each-at-all : (P : X → Type 0) (xs : List X) → ((j : ℕ) (d : X) → j < length xs → P (get_or xs j d)) → Each P xs
  each-at-all P [] f = tt
  each-at-all P (x ∷ xs) f = (f zero x (omega arith), each-at-all P xs (λ j d h. f (suc j) d (omega (arith, h))))

  rises : (xs : List X) → ((i j : ℕ) (d : X) → i ≤ j → j < length xs → lt (get_or xs j d) (get_or xs i d) ≡ false) → Rises xs
  rises [] f = tt
  rises (x ∷ xs) f = (
    each-at-all (λ y. lt y x ≡ false) xs (λ j d h. f zero (suc j) d (omega arith) (omega (arith, h))),
    rises xs (λ i j d h k. f (suc i) (suc j) d (omega (arith, h)) (omega (arith, k))),
  )

  itself : (x : X) → lt x x ≡ false
  itself x = by (lt x x) refl
    where
      by : (b : Bool) → lt x x ≡ b → b ≡ false
      by true h = sym h ∙ o.one_way x x h
      by false h = refl

  tied : (x y : X) → lt x y ≡ false → lt y x ≡ false → ties lt x y ≡ true
  tied x y h k = λ i. not (h i) && not (k i)

  each-filter : (P : X → Type 0) (f : X → Bool) (xs : List X) → Each P xs → Each P (filter f xs)
  each-filter P f [] h = tt
  each-filter P f (x ∷ xs) h = by (f x) (each-filter P f xs h.1)
    where
      by : (b : Bool) → Each P (filter f xs) → Each P (cond b (x ∷ filter f xs) (filter f xs))
      by true more = (h.0, more)
      by false more = more

  front : (f : X → Bool) (x : X) (xs : List X) → f x ≡ true → filter f (x ∷ xs) ≡ x ∷ filter f xs
  front f x xs h = λ i. cond (h i) (x ∷ filter f xs) (filter f xs)

  -- an element of one list isn't less than the first of another
  not-less : (x y : X) (xs ys : List X) → Rises (y ∷ ys) → filter (ties lt x) (x ∷ xs) ≡ filter (ties lt x) (y ∷ ys) → lt x y ≡ false
  not-less x y xs ys r h =
      (subst (λ (zs : List X). Each (λ z. lt z y ≡ false) zs) (sym h ∙ front (ties lt x) x xs (tied x x (itself x) (itself x)))
      (each-filter (λ z. lt z y ≡ false) (ties lt x) (y ∷ ys) (itself y, r.0))).0

  tail-same : (x : X) (f : X → Bool) (xs ys : List X) → filter f (x ∷ xs) ≡ filter f (x ∷ ys) → filter f xs ≡ filter f ys
  tail-same x f xs ys = by (f x)
    where
      by : (b : Bool) → cond b (x ∷ filter f xs) (filter f xs) ≡ cond b (x ∷ filter f ys) (filter f ys) → filter f xs ≡ filter f ys
      by true h = cc
      by false h = h

  -- lists in order that have the same elements of each tie are one
  pub one-order : (xs ys : List X) → Rises xs → Rises ys → ((z : X) → filter (ties lt z) xs ≡ filter (ties lt z) ys) → xs ≡ ys
  one-order [] [] r s h = refl
  one-order [] (y ∷ ys) r s h = absurd (never (h y ∙ front (ties lt y) y ys (tied y y (itself y) (itself y))))
    where
      never : [] ≡ y ∷ filter (ties lt y) ys → ⊥
      never e = cc
  one-order (x ∷ xs) [] r s h = absurd (never (sym (h x) ∙ front (ties lt x) x xs (tied x x (itself x) (itself x))))
    where
      never : [] ≡ x ∷ filter (ties lt x) xs → ⊥
      never e = cc
  one-order (x ∷ xs) (y ∷ ys) r s h =
      let below = not-less x y xs ys s (h x) in
      let above = not-less y x ys xs r (sym (h y)) in
      let heads : x ∷ filter (ties lt x) xs ≡ y ∷ filter (ties lt x) ys =
      sym (front (ties lt x) x xs (tied x x (itself x) (itself x))) ∙ (h x ∙ front (ties lt x) y ys (tied x y below above)) in
      let same : x ≡ y = cc in
      let rest = one-order xs ys r.1 s.1 (λ z. tail-same x (ties lt z) xs ys (subst (λ (w : X). filter (ties lt z) (x ∷ xs) ≡ filter (ties lt z) (w ∷ ys)) (sym same) (h z))) in
      λ i. same i ∷ rest i

-- ---- migrations by name

abbrev pub stands_before : Migration → Migration → Bool
stands_before q r = is_lt (slice_cmp nat_cmp q.name r.name)

pub names_rank : IsStrictWeakOrder stands_before
names_rank = ranks_by nat_list_cmp_total (λ (q : Migration). q.name)

behind : (q r : Migration) → is_gt (slice_cmp nat_cmp q.name r.name) ≡ stands_before r q
behind q r = ap (λ (o : Ordering). is_gt o) (nat_list_cmp_total.antisymm q.name r.name) ∙ turned (slice_cmp nat_cmp r.name q.name)
  where
    turned : (o : Ordering) → is_gt (ordering_reverse o) ≡ is_lt o
    turned Less = refl
    turned Equal = refl
    turned Greater = refl

each-placed : (P : Migration → Type 0) (q : Migration) (rs : List Migration) → P q → Each P rs → Each P (placed q rs)
each-placed P q [] p h = (p, tt)
each-placed P q (r ∷ rs) p h = by (is_gt (slice_cmp nat_cmp q.name r.name)) (each-placed P q rs p h.1)
  where
    by : (b : Bool) → Each P (placed q rs) → Each P (if b then r ∷ placed q rs else q ∷ r ∷ rs)
    by true more = (h.0, more)
    by false more = (p, h)

pub each-by_name : (P : Migration → Type 0) (qs : List Migration) → Each P qs → Each P (by_name qs)
each-by_name P [] h = tt
each-by_name P (q ∷ qs) h = each-placed P q (by_name qs) h.0 (each-by_name P qs h.1)

each-map : (P Q : Migration → Type 0) (rs : List Migration) → ((r : Migration) → P r → Q r) → Each P rs → Each Q rs
each-map P Q [] f h = tt
each-map P Q (r ∷ rs) f h = (f r h.0, each-map P Q rs f h.1)

placed-rises : (q : Migration) (rs : List Migration) → Rises stands_before names_rank rs → Rises stands_before names_rank (placed q rs)
placed-rises q [] h = (tt, tt)
placed-rises q (r ∷ rs) h = by (is_gt (slice_cmp nat_cmp q.name r.name)) (sym (behind q r)) (placed-rises q rs h.1)
  where
    by : (b : Bool) → stands_before r q ≡ b → Rises stands_before names_rank (placed q rs) → Rises stands_before names_rank (if b then r ∷ placed q rs else q ∷ r ∷ rs)
    by true less more = (each-placed (λ z. stands_before z r ≡ false) q rs (names_rank.one_way r q less) h.0, more)
    by false less more = ((less, each-map (λ z. stands_before z r ≡ false) (λ z. stands_before z q ≡ false) rs (λ z k. names_rank.chain z r q k less) h.0), h)

by_name-rises : (qs : List Migration) → Rises stands_before names_rank (by_name qs)
by_name-rises [] = tt
by_name-rises (q ∷ qs) = placed-rises q (by_name qs) (by_name-rises qs)

placed-stable : (x q : Migration) (rs : List Migration) → filter (ties stands_before x) (placed q rs) ≡ filter (ties stands_before x) (q ∷ rs)
placed-stable x q [] = refl
placed-stable x q (r ∷ rs) = by (is_gt (slice_cmp nat_cmp q.name r.name)) (sym (behind q r)) (placed-stable x q rs)
  where
    f : Migration → Bool
    f = ties stands_before x

    swap : (a b : Bool) (ys : List Migration) → (a ≡ true → b ≡ true → ⊥) → cond a (r ∷ cond b (q ∷ ys) ys) (cond b (q ∷ ys) ys) ≡ cond b (q ∷ cond a (r ∷ ys) ys) (cond a (r ∷ ys) ys)
    swap true true ys n = absurd (n refl refl)
    swap true false ys n = refl
    swap false true ys n = refl
    swap false false ys n = refl

    either : (a b : Bool) → not a && not b ≡ true → (a ≡ false) × (b ≡ false)
    either true b h = absurd (cc)
    either false true h = absurd (cc)
    either false false h = (refl, refl)

    never : stands_before r q ≡ true → f r ≡ true → f q ≡ true → ⊥
    never less a b =
        let not_less = names_rank.chain r x q (either (stands_before x r) (stands_before r x) a).1 (either (stands_before x q) (stands_before q x) b).0 in
        absurd (clash (sym less ∙ not_less))
      where
        clash : true ≡ false → ⊥
        clash e = cc

    by : (b : Bool) → stands_before r q ≡ b → filter f (placed q rs) ≡ filter f (q ∷ rs) → filter f (if b then r ∷ placed q rs else q ∷ r ∷ rs) ≡ filter f (q ∷ r ∷ rs)
    by true less same = (λ i. cond (f r) (r ∷ same i) (same i)) ∙ swap (f r) (f q) (filter f rs) (never less)
    by false less same = refl

by_name-stable : (x : Migration) (qs : List Migration) → filter (ties stands_before x) (by_name qs) ≡ filter (ties stands_before x) qs
by_name-stable x [] = refl
by_name-stable x (q ∷ qs) = placed-stable x q (by_name qs) ∙ (λ i. cond (ties stands_before x q) (q ∷ by_name-stable x qs i) (by_name-stable x qs i))

-- what a stable sort ensures makes the list by name
pub sorted-by_name : (xs ys : List Migration) → IsSortedBy stands_before ys → IsStableBy stands_before xs ys → ys ≡ by_name xs
sorted-by_name xs ys sorted stable =
    one-order stands_before names_rank ys (by_name xs) (rises stands_before names_rank ys (sorted_far stands_before names_rank ys sorted)) (by_name-rises xs)
    (λ z. stable z ∙ sym (by_name-stable z xs))
