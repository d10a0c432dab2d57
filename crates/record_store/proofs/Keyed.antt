-- What a list by key keeps where one thing is put into it or taken out.
use Rattle.std.proofs.Common.{◌≡◌, ℕ, ◌+◌, List, [], ◌∷◌, ◌++◌, map, None, Some, Ordering, Less, Equal, Greater, ap, subst, refl, ◌∙◌, arith}
use Rattle.std.specs.List.{AllByRecursion as Each}
use Rattle.std.specs.Ordering.{match_ordering}
use Rattle.kube_meta.specs.Key.{KeyView, key_cmp}
use Rattle.kube_meta.specs.laws.KeyOrder.{key_cmp_total, key_cmp_one}
use Rattle.kube_meta.specs.Window.{weights}
use Rattle.record_store.specs.ByKey.{IsBelowFirst, KeysRise, find, put, without}

module _ {X : Type 0} (key : X → KeyView) where
  -- ---- sums

  pub weights-put : (w : X → ℕ) (y : X) (xs : List X) → find key (key y) xs ≡ None → weights w (put key y xs) ≡ w y + weights w xs
  weights-put w y [] h = refl
  weights-put w y (x ∷ xs) h = by (key_cmp (key y) (key x)) h (weights-put w y xs)
    where
      by : (o : Ordering) → match_ordering o None (Some x) (find key (key y) xs) ≡ None → (find key (key y) xs ≡ None → weights w (put key y xs) ≡ w y + weights w xs)
          → weights w (match_ordering o (y ∷ x ∷ xs) (y ∷ xs) (x ∷ put key y xs)) ≡ w y + (w x + weights w xs)
      by Less h more = refl
      by Equal h more = cc
      by Greater h more = let e = more h in omega (arith, e)

  pub weights-without : (w : X → ℕ) (k : KeyView) (y : X) (xs : List X) → find key k xs ≡ Some y → weights w xs ≡ w y + weights w (without key k xs)
  weights-without w k y [] h = cc
  weights-without w k y (x ∷ xs) h = by (key_cmp k (key x)) h (weights-without w k y xs)
    where
      by : (o : Ordering) → match_ordering o None (Some x) (find key k xs) ≡ Some y → (find key k xs ≡ Some y → weights w xs ≡ w y + weights w (without key k xs))
          → w x + weights w xs ≡ w y + weights w (match_ordering o (x ∷ xs) xs (x ∷ without key k xs))
      by Less h more = cc
      by Equal h more = let e : x ≡ y = cc in let f = ap w e in omega (arith, f)
      by Greater h more = let e = more h in omega (arith, e)

  -- ---- what holds of each

  pub each-put : (P : X → Type 0) (y : X) (xs : List X) → P y → Each P xs → Each P (put key y xs)
  each-put P y [] p h = (p, tt)
  each-put P y (x ∷ xs) p h = by (key_cmp (key y) (key x)) (each-put P y xs p h.1)
    where
      by : (o : Ordering) → Each P (put key y xs) → Each P (match_ordering o (y ∷ x ∷ xs) (y ∷ xs) (x ∷ put key y xs))
      by Less more = (p, h)
      by Equal more = (p, h.1)
      by Greater more = (h.0, more)

  pub each-without : (P : X → Type 0) (k : KeyView) (xs : List X) → Each P xs → Each P (without key k xs)
  each-without P k [] h = tt
  each-without P k (x ∷ xs) h = by (key_cmp k (key x)) (each-without P k xs h.1)
    where
      by : (o : Ordering) → Each P (without key k xs) → Each P (match_ordering o (x ∷ xs) xs (x ∷ without key k xs))
      by Less more = h
      by Equal more = h.1
      by Greater more = (h.0, more)

  pub each-found : (P : X → Type 0) (k : KeyView) (y : X) (xs : List X) → find key k xs ≡ Some y → Each P xs → P y
  each-found P k y [] e h = absurd (cc)
  each-found P k y (x ∷ xs) e h = by (key_cmp k (key x)) e (each-found P k y xs)
    where
      by : (o : Ordering) → match_ordering o None (Some x) (find key k xs) ≡ Some y → (find key k xs ≡ Some y → Each P xs → P y) → P y
      by Less e more = absurd (cc)
      by Equal e more = let same : x ≡ y = cc in subst P same h.0
      by Greater e more = more e h.1

  -- ---- the key itself

  pub key_of-found : (k : KeyView) (y : X) (xs : List X) → find key k xs ≡ Some y → k ≡ key y
  key_of-found k y [] e = absurd (cc)
  key_of-found k y (x ∷ xs) e = by (key_cmp k (key x)) refl e (key_of-found k y xs)
    where
      by : (o : Ordering) → key_cmp k (key x) ≡ o → match_ordering o None (Some x) (find key k xs) ≡ Some y → (find key k xs ≡ Some y → k ≡ key y) → k ≡ key y
      by Less q e more = absurd (cc)
      by Equal q e more = let same : x ≡ y = cc in key_cmp_one k (key x) q ∙ ap key same
      by Greater q e more = more e

  pub without-absent : (k : KeyView) (xs : List X) → find key k xs ≡ None → without key k xs ≡ xs
  without-absent k [] h = refl
  without-absent k (x ∷ xs) h = by (key_cmp k (key x)) h (without-absent k xs)
    where
      by : (o : Ordering) → match_ordering o None (Some x) (find key k xs) ≡ None → (find key k xs ≡ None → without key k xs ≡ xs) → match_ordering o (x ∷ xs) xs (x ∷ without key k xs) ≡ x ∷ xs
      by Less h more = refl
      by Equal h more = absurd (cc)
      by Greater h more = ap (λ (r : List X). x ∷ r) (more h)

  find-below : (k : KeyView) (xs : List X) → IsBelowFirst k (map key xs) → find key k xs ≡ None
  find-below k [] b = refl
  find-below k (x ∷ xs) b = rw b refl

  find-same : (k l : KeyView) (xs : List X) → key_cmp k l ≡ Equal → IsBelowFirst l (map key xs) → find key k xs ≡ None
  find-same k l [] q b = refl
  find-same k l (x ∷ xs) q b = let e : key_cmp k (key x) ≡ Less = key_cmp_total.congr k l (key x) q ∙ b in rw e refl

  -- a key that was taken out isn't there
  pub find-without : (k : KeyView) (xs : List X) → KeysRise (map key xs) → find key k (without key k xs) ≡ None
  find-without k [] h = refl
  find-without k (x ∷ xs) h = by (key_cmp k (key x)) refl (find-without k xs h.1)
    where
      by : (o : Ordering) → key_cmp k (key x) ≡ o → find key k (without key k xs) ≡ None → find key k (match_ordering o (x ∷ xs) xs (x ∷ without key k xs)) ≡ None
      by Less q more = rw q refl
      by Equal q more = find-same k (key x) xs q h.0
      by Greater q more = rw q more

  put-below : (y : X) (xs : List X) (l : KeyView) → key_cmp (key y) l ≡ Equal → IsBelowFirst l (map key xs) → put key y xs ≡ y ∷ xs
  put-below y [] l q b = refl
  put-below y (x ∷ xs) l q b = let e : key_cmp (key y) (key x) ≡ Less = key_cmp_total.congr (key y) l (key x) q ∙ b in rw e refl

  -- what stood under the key doesn't matter
  pub put-without : (y : X) (xs : List X) → KeysRise (map key xs) → put key y (without key (key y) xs) ≡ put key y xs
  put-without y [] h = refl
  put-without y (x ∷ xs) h = by (key_cmp (key y) (key x)) refl (put-without y xs h.1)
    where
      by : (o : Ordering) → key_cmp (key y) (key x) ≡ o → put key y (without key (key y) xs) ≡ put key y xs
          → put key y (match_ordering o (x ∷ xs) xs (x ∷ without key (key y) xs)) ≡ match_ordering o (y ∷ x ∷ xs) (y ∷ xs) (x ∷ put key y xs)
      by Less q more = rw q refl
      by Equal q more = put-below y xs (key x) q h.0
      by Greater q more = rw q (ap (λ (r : List X). x ∷ r) more)

-- ---- appended

pub each-push : {X : Type 0} (P : X → Type 0) (xs : List X) (x : X) → Each P xs → P x → Each P (xs ++ x ∷ [])
each-push P [] x h p = (p, tt)
each-push P (y ∷ xs) x h p = (h.0, each-push P xs x h.1 p)

pub each-weaker : {X : Type 0} (P Q : X → Type 0) → ((x : X) → P x → Q x) → (xs : List X) → Each P xs → Each Q xs
each-weaker P Q f [] h = tt
each-weaker P Q f (x ∷ xs) h = (f x h.0, each-weaker P Q f xs h.1)
