-- Objects by rising key: what is put among them, and that two lists of the same objects are one.
use Rattle.std.proofs.Common.{◌≡◌, List, [], ◌∷◌, Bool, true, false, None, Some, Ordering, Less, Equal, Greater, ap, ap₂, refl, sym, subst, ◌∙◌, cond, filter, inl, inr}
use Rattle.std.specs.Prelude.{◌⊎◌}
use Rattle.std.specs.Ordering.{match_ordering, ordering_reverse}
use Rattle.kube_meta.specs.Key.{KeyView, key_cmp}
use Rattle.kube_meta.specs.laws.KeyOrder.{key_cmp_total, key_cmp_one, key_cmp_itself}
use Rattle.record_store.specs.ByKey.{put}
use Rattle.api_calls.specs.Objects.{Stored, object_key, find}
use Rattle.api_calls.specs.Legal.{Each, In}
use Rattle.api_calls.specs.LegalLists.{IsRising}

reversed : (k l : KeyView) (o : Ordering) → key_cmp k l ≡ o → key_cmp l k ≡ ordering_reverse o
reversed k l o e = key_cmp_total.antisymm l k ∙ ap ordering_reverse e

-- ---- what holds of each

in-each : (P : Stored → Type 0) (e : Stored) (es : List Stored) → Each P es → In e es → P e
in-each P e [] h i = absurd i
in-each P e (f ∷ fs) h (inl same) = subst P (sym same) h.0
in-each P e (f ∷ fs) h (inr i) = in-each P e fs h.1 i

each-weaker : (P Q : Stored → Type 0) → ((e : Stored) → P e → Q e) → (es : List Stored) → Each P es → Each Q es
each-weaker P Q f [] h = tt
each-weaker P Q f (e ∷ es) h = (f e h.0, each-weaker P Q f es h.1)

each-filter : (P : Stored → Type 0) (p : Stored → Bool) (es : List Stored) → Each P es → Each P (filter p es)
each-filter P p [] h = tt
each-filter P p (e ∷ es) h = by (p e) (each-filter P p es h.1)
  where
    by : (b : Bool) → Each P (filter p es) → Each P (cond b (e ∷ filter p es) (filter p es))
    by true more = (h.0, more)
    by false more = more

each-put : (P : Stored → Type 0) (y : Stored) (es : List Stored) → P y → Each P es → Each P (put object_key y es)
each-put P y [] p h = (p, tt)
each-put P y (e ∷ es) p h = by (key_cmp y.key e.key) (each-put P y es p h.1)
  where
    by : (o : Ordering) → Each P (put object_key y es) → Each P (match_ordering o (y ∷ e ∷ es) (y ∷ es) (e ∷ put object_key y es))
    by Less more = (p, h)
    by Equal more = (p, h.1)
    by Greater more = (h.0, more)

-- ---- keys go on rising

pub rising-filter : (p : Stored → Bool) (es : List Stored) → IsRising es → IsRising (filter p es)
rising-filter p [] h = tt
rising-filter p (e ∷ es) h = by (p e) (rising-filter p es h.1)
  where
    by : (b : Bool) → IsRising (filter p es) → IsRising (cond b (e ∷ filter p es) (filter p es))
    by true more = (each-filter (λ f. key_cmp e.key f.key ≡ Less) p es h.0, more)
    by false more = more

rising-put : (y : Stored) (es : List Stored) → IsRising es → IsRising (put object_key y es)
rising-put y [] h = (tt, tt)
rising-put y (e ∷ es) h = by (key_cmp y.key e.key) refl (rising-put y es h.1)
  where
    by : (o : Ordering) → key_cmp y.key e.key ≡ o → IsRising (put object_key y es) → IsRising (match_ordering o (y ∷ e ∷ es) (y ∷ es) (e ∷ put object_key y es))
    by Less q more = ((q, each-weaker (λ f. key_cmp e.key f.key ≡ Less) (λ f. key_cmp y.key f.key ≡ Less) (λ f l. key_cmp_total.trans y.key e.key f.key q l) es h.0), h)
    by Equal q more = (each-weaker (λ f. key_cmp e.key f.key ≡ Less) (λ f. key_cmp y.key f.key ≡ Less) (λ f l. key_cmp_total.congr y.key e.key f.key q ∙ l) es h.0, h.1)
    by Greater q more = (each-put (λ f. key_cmp e.key f.key ≡ Less) y es (reversed y.key e.key Greater q) h.0, more)

-- ---- members

pub find-in : (k : KeyView) (es : List Stored) (e : Stored) → find k es ≡ Some e → In e es
find-in k [] e h = absurd (cc)
find-in k (f ∷ fs) e h = by (key_cmp k f.key) h (find-in k fs e)
  where
    by : (o : Ordering) → match_ordering o None (Some f) (find k fs) ≡ Some e → (find k fs ≡ Some e → In e fs) → In e (f ∷ fs)
    by Less h more = absurd (cc)
    by Equal h more = let same : e ≡ f = cc in inl same
    by Greater h more = inr (more h)

pub in-find : (es : List Stored) (e : Stored) → IsRising es → In e es → find e.key es ≡ Some e
in-find [] e r i = absurd i
in-find (f ∷ es) e r (inl same) =
    let k : key_cmp e.key f.key ≡ Equal = ap (λ (q : Stored). key_cmp e.key q.key) (sym same) ∙ key_cmp_itself e.key in
    rw k (ap (λ (q : Stored). Some q) (sym same))
in-find (f ∷ es) e r (inr i) =
    let l : key_cmp f.key e.key ≡ Less = in-each (λ g. key_cmp f.key g.key ≡ Less) e es r.0 i in
    let g : key_cmp e.key f.key ≡ Greater = reversed f.key e.key Less l in rw g (in-find es e r.1 i)

-- one object stands under a key
pub rising-one : (es : List Stored) (a b : Stored) → IsRising es → In a es → In b es → key_cmp a.key b.key ≡ Equal → b ≡ a
rising-one es a b h i j q =
    let one = in-find es a h i in
    let two = in-find es b h j in
    let same = ap (λ (k : KeyView). find k es) (key_cmp_one a.key b.key q) in
    let e : Some a ≡ Some b = sym one ∙ same ∙ two in
    cc

in-put-here : (y : Stored) (es : List Stored) → In y (put object_key y es)
in-put-here y [] = inl refl
in-put-here y (e ∷ es) = by (key_cmp y.key e.key) (in-put-here y es)
  where
    by : (o : Ordering) → In y (put object_key y es) → In y (match_ordering o (y ∷ e ∷ es) (y ∷ es) (e ∷ put object_key y es))
    by Less more = inl refl
    by Equal more = inl refl
    by Greater more = inr more

in-put-other : (e y : Stored) (es : List Stored) → (key_cmp y.key e.key ≡ Equal → e ≡ y) → In e es → In e (put object_key y es)
in-put-other e y [] one i = absurd i
in-put-other e y (f ∷ fs) one i = by (key_cmp y.key f.key) refl i (in-put-other e y fs one)
  where
    by : (o : Ordering) → key_cmp y.key f.key ≡ o → In e (f ∷ fs) → (In e fs → In e (put object_key y fs)) → In e (match_ordering o (y ∷ f ∷ fs) (y ∷ fs) (f ∷ put object_key y fs))
    by Less q i more = inr i
    by Equal q (inl same) more = inl (one (ap (λ (g : Stored). key_cmp y.key g.key) same ∙ q))
    by Equal q (inr i) more = inr i
    by Greater q (inl same) more = inl same
    by Greater q (inr i) more = inr (more i)

put-in : (e y : Stored) (es : List Stored) → In e (put object_key y es) → (e ≡ y) ⊎ In e es
put-in e y [] i = i
put-in e y (f ∷ fs) i = by (key_cmp y.key f.key) i (put-in e y fs)
  where
    by : (o : Ordering) → In e (match_ordering o (y ∷ f ∷ fs) (y ∷ fs) (f ∷ put object_key y fs)) → (In e (put object_key y fs) → (e ≡ y) ⊎ In e fs) → (e ≡ y) ⊎ In e (f ∷ fs)
    by Less (inl same) more = inl same
    by Less (inr i) more = inr i
    by Equal (inl same) more = inl same
    by Equal (inr i) more = inr (inr i)
    by Greater (inl same) more = inr (inl same)
    by Greater (inr i) more = elim (more i) [ inl same ↦ inl same | inr j ↦ inr (inr j) ]

pub filter-in : (p : Stored → Bool) (e : Stored) (es : List Stored) → In e (filter p es) → In e es × (p e ≡ true)
filter-in p e [] i = absurd i
filter-in p e (f ∷ fs) i = by (p f) refl i (filter-in p e fs)
  where
    by : (b : Bool) → p f ≡ b → In e (cond b (f ∷ filter p fs) (filter p fs)) → (In e (filter p fs) → In e fs × (p e ≡ true)) → In e (f ∷ fs) × (p e ≡ true)
    by true q (inl same) more = (inl same, ap p same ∙ q)
    by true q (inr i) more = let m = more i in (inr m.0, m.1)
    by false q i more = let m = more i in (inr m.0, m.1)

pub in-filter : (p : Stored → Bool) (e : Stored) (es : List Stored) → p e ≡ true → In e es → In e (filter p es)
in-filter p e [] t i = absurd i
in-filter p e (f ∷ fs) t i = by (p f) refl i (in-filter p e fs t)
  where
    by : (b : Bool) → p f ≡ b → In e (f ∷ fs) → (In e fs → In e (filter p fs)) → In e (cond b (f ∷ filter p fs) (filter p fs))
    by true q (inl same) more = inl same
    by true q (inr i) more = inr (more i)
    by false q (inl same) more = let e : p e ≡ p f = ap p same in absurd (cc)
    by false q (inr i) more = more i

-- ---- many are put

abbrev pub put_each : List Stored → List Stored → List Stored
put_each xs [] = xs
put_each xs (y ∷ ys) = put object_key y (put_each xs ys)

pub rising-put_each : (xs ys : List Stored) → IsRising xs → IsRising (put_each xs ys)
rising-put_each xs [] h = h
rising-put_each xs (y ∷ ys) h = rising-put y (put_each xs ys) (rising-put_each xs ys h)

pub put_each-in : (e : Stored) (xs ys : List Stored) → In e (put_each xs ys) → In e xs ⊎ In e ys
put_each-in e xs [] i = inl i
put_each-in e xs (y ∷ ys) i = by (put-in e y (put_each xs ys) i) (put_each-in e xs ys)
  where
    by : (e ≡ y) ⊎ In e (put_each xs ys) → (In e (put_each xs ys) → In e xs ⊎ In e ys) → In e xs ⊎ In e (y ∷ ys)
    by (inl same) more = inr (inl same)
    by (inr i) more = elim (more i) [ inl a ↦ inl a | inr b ↦ inr (inr b) ]

-- where no two differ under one key, none is lost
module _ (C : Stored → Type 0) (one : (a b : Stored) → C a → C b → key_cmp a.key b.key ≡ Equal → b ≡ a) (e : Stored) (c : C e) where
  pub in-put_each-first : (xs ys : List Stored) → ((y : Stored) → In y ys → C y) → In e xs → In e (put_each xs ys)
  in-put_each-first xs [] all i = i
  in-put_each-first xs (y ∷ ys) all i =
      in-put-other e y (put_each xs ys) (λ q. one y e (all y (inl refl)) c q) (in-put_each-first xs ys (λ z j. all z (inr j)) i)

  pub in-put_each-then : (xs ys : List Stored) → ((y : Stored) → In y ys → C y) → In e ys → In e (put_each xs ys)
  in-put_each-then xs [] all i = absurd i
  in-put_each-then xs (y ∷ ys) all (inl same) = subst (λ (a : Stored). In a (put object_key y (put_each xs ys))) (sym same) (in-put-here y (put_each xs ys))
  in-put_each-then xs (y ∷ ys) all (inr i) =
      in-put-other e y (put_each xs ys) (λ q. one y e (all y (inl refl)) c q) (in-put_each-then xs ys (λ z j. all z (inr j)) i)

-- ---- two rising lists with the same members are one

clash : (k l : KeyView) → key_cmp k l ≡ Less → key_cmp l k ≡ Less → ⊥
clash k l p q = let r : key_cmp l k ≡ Greater = reversed k l Less p in cc

apart : (x y e : Stored) (xs : List Stored) → Each (λ f. key_cmp x.key f.key ≡ Less) xs → x ≡ y → e ≡ y → In e xs → ⊥
apart x y e xs h same is i =
    let less : key_cmp x.key e.key ≡ Less = in-each (λ f. key_cmp x.key f.key ≡ Less) e xs h i in
    let equal : key_cmp x.key e.key ≡ Equal = ap (λ (a : Stored). key_cmp a.key e.key) (same ∙ sym is) ∙ key_cmp_itself e.key in
    cc

pub one-list : (xs ys : List Stored) → IsRising xs → IsRising ys → ((e : Stored) → In e xs → In e ys) → ((e : Stored) → In e ys → In e xs) → xs ≡ ys
one-list [] [] h k to from = refl
one-list [] (y ∷ ys) h k to from = absurd (from y (inl refl))
one-list (x ∷ xs) [] h k to from = absurd (to x (inl refl))
one-list (x ∷ xs) (y ∷ ys) h k to from =
    ap₂ (λ (a : Stored) (rest : List Stored). a ∷ rest) same (one-list xs ys h.1 k.1 (λ e i. keep e i (to e (inr i))) (λ e i. keep_back e i (from e (inr i))))
  where
    first : In x (y ∷ ys) → In y (x ∷ xs) → x ≡ y
    first (inl s) j = s
    first (inr i) (inl s) = sym s
    first (inr i) (inr j) =
        absurd (clash x.key y.key (in-each (λ f. key_cmp x.key f.key ≡ Less) y xs h.0 j) (in-each (λ f. key_cmp y.key f.key ≡ Less) x ys k.0 i))

    same : x ≡ y
    same = first (to x (inl refl)) (from y (inl refl))

    keep : (e : Stored) → In e xs → In e (y ∷ ys) → In e ys
    keep e i (inl s) = absurd (apart x y e xs h.0 same s i)
    keep e i (inr j) = j

    keep_back : (e : Stored) → In e ys → In e (x ∷ xs) → In e xs
    keep_back e i (inl s) = absurd (apart y x e ys k.0 (sym same) s i)
    keep_back e i (inr j) = j
