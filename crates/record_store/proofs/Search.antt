-- What a binary search finds among keys that rise.
use Rattle.std.proofs.Common.{◌≡◌, ℕ, zero, suc, ◌+◌, ◌<◌, ◌≤◌, List, [], ◌∷◌, length, get_or, map, Some, Result, Ok, Err, Ordering, Less, Equal, Greater, add-one, ap, sym, refl, ◌∙◌, arith}
use Rattle.std.specs.Prelude.{slice_get}
use Rattle.std.specs.Ordering.{ordering_index, ordering_reverse}
use Rattle.std.specs.List.Sorted.{IsBinarySearchResult, IsSearchInRange, IsNonDecreasingBy}
use Rattle.std.proofs.lemmas.Option.{get_or_from_slice_get, slice_get_within}
use Rattle.std.proofs.lemmas.List.Sorted.{IsNonDecreasingBy-from_all_adjacent}
use Rattle.kube_meta.specs.Key.{KeyView, key_cmp}
use Rattle.kube_meta.specs.laws.KeyOrder.{key_cmp_total}
use Rattle.record_store.specs.ByKey.{IsBelowFirst, KeysRise, next, place}

pub reversed : (k l : KeyView) (o : Ordering) → key_cmp k l ≡ o → key_cmp l k ≡ ordering_reverse o
reversed k l o e = key_cmp_total.antisymm l k ∙ ap ordering_reverse e

-- an earlier key is no further up than a later one
no_further : (m n k : KeyView) → key_cmp m n ≡ Less → ordering_index (key_cmp m k) ≤ ordering_index (key_cmp n k)
no_further m n k p = by_order (key_cmp m k) refl
  where
    by_order : (o : Ordering) → key_cmp m k ≡ o → ordering_index o ≤ ordering_index (key_cmp n k)
    by_order Less q = omega arith
    by_order Equal q =
        let above : key_cmp n k ≡ Greater = reversed k n Less (sym (key_cmp_total.congr m k n q) ∙ p) in
        rw above (omega arith)
    by_order Greater q =
        let above : key_cmp n k ≡ Greater = reversed k n Less (key_cmp_total.trans k m n (reversed m k Greater q) p) in
        rw above (omega arith)

module _ {F : Type 0} (key : F → KeyView) where
  adjacent : (fs : List F) (i : ℕ) (d : F) → KeysRise (map key fs) → suc i < length fs → key_cmp (key (get_or fs i d)) (key (get_or fs (suc i) d)) ≡ Less
  adjacent [] i d h p = absurd (omega arith)
  adjacent (f ∷ []) i d h p = absurd (omega arith)
  adjacent (f ∷ g ∷ fs) zero d h p = h.0
  adjacent (f ∷ g ∷ fs) (suc i) d h p = adjacent (g ∷ fs) i d h.1 (omega arith)

  rises : (k : KeyView) (fs : List F) → KeysRise (map key fs) → IsNonDecreasingBy (λ f. ordering_index (key_cmp (key f) k)) fs
  rises k fs h =
      IsNonDecreasingBy-from_all_adjacent (λ f. ordering_index (key_cmp (key f) k)) fs (λ i d p. rw (add-one i) (no_further (key (get_or fs i d)) (key (get_or fs (suc i) d)) k (adjacent fs i d h (omega (arith, p)))))

  below_later : (n : KeyView) (fs : List F) (i : ℕ) (d : F) → IsBelowFirst n (map key fs) → KeysRise (map key fs) → i < length fs → key_cmp n (key (get_or fs i d)) ≡ Less
  below_later n [] i d b h p = absurd (omega arith)
  below_later n (f ∷ fs) zero d b h p = b
  below_later n (f ∷ fs) (suc i) d b h p =
      key_cmp_total.trans n (key f) _ b (below_later (key f) fs i d h.0 h.1 (omega arith))

  at_hit : (k : KeyView) (fs : List F) (i : ℕ) → KeysRise (map key fs) → i < length fs → ((d : F) → key_cmp (key (get_or fs i d)) k ≡ Equal) → Ok i ≡ place k (map key fs)
  at_hit k [] i h p e = absurd (omega arith)
  at_hit k (f ∷ fs) zero h p e =
      let here : key_cmp k (key f) ≡ Equal = reversed (key f) k Equal (e f) in
      rw here refl
  at_hit k (f ∷ fs) (suc i) h p e =
      let there = key (get_or fs i f) in
      let above : key_cmp k (key f) ≡ Greater =
      sym (key_cmp_total.congr there k (key f) (e f)) ∙ reversed (key f) there Less (below_later (key f) fs i f h.0 h.1 (omega arith)) in
      rw above (ap next (at_hit k fs i h.1 (omega arith) e))

  pub at_miss : (k : KeyView) (fs : List F) (i : ℕ) → i ≤ length fs → ((j : ℕ) (d : F) → j < i → key_cmp (key (get_or fs j d)) k ≡ Less) → ((j : ℕ) (d : F) → i ≤ j → j < length fs → key_cmp (key (get_or fs j d)) k ≡ Greater)
      → Err i ≡ place k (map key fs)
  at_miss k [] zero p low high = refl
  at_miss k [] (suc i) p low high = absurd (omega arith)
  at_miss k (f ∷ fs) zero p low high =
      let below : key_cmp k (key f) ≡ Less = reversed (key f) k Greater (high 0 f (omega arith) (omega arith)) in
      rw below refl
  at_miss k (f ∷ fs) (suc i) p low high =
      let above : key_cmp k (key f) ≡ Greater = reversed (key f) k Less (low 0 f (omega arith)) in
      rw above (ap next (at_miss k fs i (omega arith) (λ j d q. low (suc j) d (omega (arith, q))) (λ j d q r. high (suc j) d (omega (arith, q)) (omega (arith, r)))))

  -- what stands before one that is too low is too low, and what stands behind one that is too high is too high
  too_low : (k : KeyView) (fs : List F) (i j : ℕ) (d : F) → KeysRise (map key fs) → j ≤ i → i < length fs → key_cmp (key (get_or fs i d)) k ≡ Less → key_cmp (key (get_or fs j d)) k ≡ Less
  too_low k [] i j d h q p e = absurd (omega (arith, p))
  too_low k (f ∷ fs) zero zero d h q p e = e
  too_low k (f ∷ fs) zero (suc j) d h q p e = absurd (omega (arith, q))
  too_low k (f ∷ fs) (suc i) zero d h q p e = key_cmp_total.trans (key f) (key (get_or fs i d)) k (below_later (key f) fs i d h.0 h.1 (omega (arith, p))) e
  too_low k (f ∷ fs) (suc i) (suc j) d h q p e = too_low k fs i j d h.1 (omega (arith, q)) (omega (arith, p)) e

  too_high : (k : KeyView) (fs : List F) (i j : ℕ) (d : F) → KeysRise (map key fs) → i ≤ j → j < length fs → key_cmp (key (get_or fs i d)) k ≡ Greater → key_cmp (key (get_or fs j d)) k ≡ Greater
  too_high k [] i j d h q p e = absurd (omega (arith, p))
  too_high k (f ∷ fs) zero zero d h q p e = e
  too_high k (f ∷ fs) (suc i) zero d h q p e = absurd (omega (arith, q))
  too_high k (f ∷ fs) zero (suc j) d h q p e =
      let there = key (get_or fs j d) in
      reversed k there Less (key_cmp_total.trans k (key f) there (reversed (key f) k Greater e) (below_later (key f) fs j d h.0 h.1 (omega (arith, p))))
  too_high k (f ∷ fs) (suc i) (suc j) d h q p e = too_high k fs i j d h.1 (omega (arith, q)) (omega (arith, p)) e

  -- the same, of one that was read
  pub lower : (k : KeyView) (fs : List F) (i : ℕ) (f : F) → KeysRise (map key fs) → slice_get fs i ≡ Some f → key_cmp (key f) k ≡ Less → (j : ℕ) (d : F) → j < i + 1 → key_cmp (key (get_or fs j d)) k ≡ Less
  lower k fs i f h got e j d p =
      too_low k fs i j d h (omega (arith, p)) (slice_get_within fs i f got) (ap (λ (g : F). key_cmp (key g) k) (get_or_from_slice_get fs i f d got) ∙ e)

  pub higher : (k : KeyView) (fs : List F) (i : ℕ) (f : F) → KeysRise (map key fs) → slice_get fs i ≡ Some f → key_cmp (key f) k ≡ Greater → (j : ℕ) (d : F) → i ≤ j → j < length fs → key_cmp (key (get_or fs j d)) k ≡ Greater
  higher k fs i f h got e j d p q = too_high k fs i j d h p q (ap (λ (g : F). key_cmp (key g) k) (get_or_from_slice_get fs i f d got) ∙ e)

  pub here : (k : KeyView) (fs : List F) (i : ℕ) (f : F) → KeysRise (map key fs) → slice_get fs i ≡ Some f → key_cmp (key f) k ≡ Equal → Ok i ≡ place k (map key fs)
  here k fs i f h got e = at_hit k fs i h (slice_get_within fs i f got) (λ d. ap (λ (g : F). key_cmp (key g) k) (get_or_from_slice_get fs i f d got) ∙ e)

  pub earlier : (fs : List F) (i j : ℕ) (d : F) → KeysRise (map key fs) → j < i → i < length fs → key_cmp (key (get_or fs j d)) (key (get_or fs i d)) ≡ Less
  earlier [] i j d h q p = absurd (omega (arith, p))
  earlier (f ∷ fs) zero j d h q p = absurd (omega (arith, q))
  earlier (f ∷ fs) (suc i) zero d h q p = below_later (key f) fs i d h.0 h.1 (omega (arith, p))
  earlier (f ∷ fs) (suc i) (suc j) d h q p = earlier fs i j d h.1 (omega (arith, q)) (omega (arith, p))

  pub searched : (k : KeyView) (fs : List F) (r : Result ℕ ℕ) → KeysRise (map key fs) → IsSearchInRange r (length fs) → IsBinarySearchResult (λ f. key_cmp (key f) k) fs r → r ≡ place k (map key fs)
  searched k fs (Ok i) h within found = at_hit k fs i h within found
  searched k fs (Err i) h within found =
      let parts = found (rises k fs h) in
      at_miss k fs i within (λ j d q. parts.0 j d (omega arith) q) parts.1
