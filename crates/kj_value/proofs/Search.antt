-- What a binary search finds among names that rise.
use Rattle.std.proofs.Common.{◌≡◌, ◌≢◌, ℕ, zero, suc, ◌<◌, ◌≤◌, List, [], ◌∷◌, length, get_or, map, Some, None, Result, Ok, Err, Ordering, Less, Equal, Greater, nat_cmp, add-one, ap, sym, refl, ◌∙◌, arith}
use Rattle.std.specs.Ordering.{ordering_index, ordering_reverse, ordering_then, match_ordering}
use Rattle.std.specs.Cmp.Lexicographic.{slice_cmp}
use Rattle.std.specs.List.Sorted.{IsBinarySearchResult, IsSearchInRange, IsNonDecreasingBy}
use Rattle.std.proofs.lemmas.Cmp.{nat_list_cmp_total, tied_itself, ranked}
use Rattle.std.proofs.lemmas.List.Sorted.{IsNonDecreasingBy-from_all_adjacent}
use Rattle.kj_value.specs.Fields.{IsBelowFirst, NamesRise, next, place, seek}

reversed : (k l : List ℕ) (o : Ordering) → slice_cmp nat_cmp k l ≡ o → slice_cmp nat_cmp l k ≡ ordering_reverse o
reversed k l o e = nat_list_cmp_total.antisymm l k ∙ ap ordering_reverse e

-- an earlier name is no further up than a later one
no_further : (m n k : List ℕ) → slice_cmp nat_cmp m n ≡ Less → ordering_index (slice_cmp nat_cmp m k) ≤ ordering_index (slice_cmp nat_cmp n k)
no_further m n k p = by_order (slice_cmp nat_cmp m k) refl
  where
    by_order : (o : Ordering) → slice_cmp nat_cmp m k ≡ o → ordering_index o ≤ ordering_index (slice_cmp nat_cmp n k)
    by_order Less q = omega arith
    by_order Equal q =
        let above : slice_cmp nat_cmp n k ≡ Greater = reversed k n Less (sym (nat_list_cmp_total.congr m k n q) ∙ p) in
        rw above (omega arith)
    by_order Greater q =
        let above : slice_cmp nat_cmp n k ≡ Greater = reversed k n Less (nat_list_cmp_total.trans k m n (reversed m k Greater q) p) in
        rw above (omega arith)

-- ---- the place alone

place_next : (r : Result ℕ ℕ) → None ≡ place r → None ≡ place (next r)
place_next (Ok j) e = cc
place_next (Err j) e = refl

tied_same : (k l : List ℕ) → slice_cmp nat_cmp k l ≡ Equal → k ≡ l
tied_same [] [] e = refl
tied_same [] (y ∷ l) e = cc
tied_same (x ∷ k) [] e = cc
tied_same (x ∷ k) (y ∷ l) e = by_head (tied_same k l) (nat_cmp x y) refl e
  where
    by_head : (slice_cmp nat_cmp k l ≡ Equal → k ≡ l) → (o : Ordering) → nat_cmp x y ≡ o → ordering_then o (slice_cmp nat_cmp k l) ≡ Equal → x ∷ k ≡ y ∷ l
    by_head rest Less q r = cc
    by_head rest Equal q r = let heads : x ≡ y = ranked x y Equal (sym q) in let tails : k ≡ l = rest r in cc
    by_head rest Greater q r = cc

module _ {F : Type 0} (name : F → List ℕ) where
  adjacent : (fs : List F) (i : ℕ) (d : F) → NamesRise (map name fs) → suc i < length fs → slice_cmp nat_cmp (name (get_or fs i d)) (name (get_or fs (suc i) d)) ≡ Less
  adjacent [] i d h p = absurd (omega arith)
  adjacent (f ∷ []) i d h p = absurd (omega arith)
  adjacent (f ∷ g ∷ fs) zero d h p = h.0
  adjacent (f ∷ g ∷ fs) (suc i) d h p = adjacent (g ∷ fs) i d h.1 (omega arith)

  rises : (k : List ℕ) (fs : List F) → NamesRise (map name fs) → IsNonDecreasingBy (λ f. ordering_index (slice_cmp nat_cmp (name f) k)) fs
  rises k fs h =
      IsNonDecreasingBy-from_all_adjacent (λ f. ordering_index (slice_cmp nat_cmp (name f) k)) fs (λ i d p. rw (add-one i) (no_further (name (get_or fs i d)) (name (get_or fs (suc i) d)) k (adjacent fs i d h (omega (arith, p)))))

  below_later : (n : List ℕ) (fs : List F) (i : ℕ) (d : F) → IsBelowFirst n (map name fs) → NamesRise (map name fs) → i < length fs → slice_cmp nat_cmp n (name (get_or fs i d)) ≡ Less
  below_later n [] i d b h p = absurd (omega arith)
  below_later n (f ∷ fs) zero d b h p = b
  below_later n (f ∷ fs) (suc i) d b h p =
      nat_list_cmp_total.trans n (name f) _ b (below_later (name f) fs i d h.0 h.1 (omega arith))

  at_hit : (k : List ℕ) (fs : List F) (i : ℕ) → NamesRise (map name fs) → i < length fs → ((d : F) → slice_cmp nat_cmp (name (get_or fs i d)) k ≡ Equal) → Ok i ≡ seek k (map name fs)
  at_hit k [] i h p e = absurd (omega arith)
  at_hit k (f ∷ fs) zero h p e =
      let here : slice_cmp nat_cmp k (name f) ≡ Equal = reversed (name f) k Equal (e f) in
      rw here refl
  at_hit k (f ∷ fs) (suc i) h p e =
      let there = name (get_or fs i f) in
      let above : slice_cmp nat_cmp k (name f) ≡ Greater =
      sym (nat_list_cmp_total.congr there k (name f) (e f)) ∙ reversed (name f) there Less (below_later (name f) fs i f h.0 h.1 (omega arith)) in
      rw above (ap next (at_hit k fs i h.1 (omega arith) e))

  at_miss : (k : List ℕ) (fs : List F) (i : ℕ) → i ≤ length fs → ((j : ℕ) (d : F) → j < i → slice_cmp nat_cmp (name (get_or fs j d)) k ≡ Less) → ((j : ℕ) (d : F) → i ≤ j → j < length fs → slice_cmp nat_cmp (name (get_or fs j d)) k ≡ Greater)
      → Err i ≡ seek k (map name fs)
  at_miss k [] zero p low high = refl
  at_miss k [] (suc i) p low high = absurd (omega arith)
  at_miss k (f ∷ fs) zero p low high =
      let below : slice_cmp nat_cmp k (name f) ≡ Less = reversed (name f) k Greater (high 0 f (omega arith) (omega arith)) in
      rw below refl
  at_miss k (f ∷ fs) (suc i) p low high =
      let above : slice_cmp nat_cmp k (name f) ≡ Greater = reversed (name f) k Less (low 0 f (omega arith)) in
      rw above (ap next (at_miss k fs i (omega arith) (λ j d q. low (suc j) d (omega (arith, q))) (λ j d q r. high (suc j) d (omega (arith, q)) (omega (arith, r)))))

  pub searched : (k : List ℕ) (fs : List F) (r : Result ℕ ℕ) → NamesRise (map name fs) → IsSearchInRange r (length fs) → IsBinarySearchResult (λ f. slice_cmp nat_cmp (name f) k) fs r → r ≡ seek k (map name fs)
  searched k fs (Ok i) h within found = at_hit k fs i h within found
  searched k fs (Err i) h within found =
      let parts = found (rises k fs h) in
      at_miss k fs i within (λ j d q. parts.0 j d (omega arith) q) parts.1

  -- ---- the end, looked at first

  same_at : (fs : List F) (i : ℕ) (d e : F) → i < length fs → get_or fs i d ≡ get_or fs i e
  same_at [] i d e p = absurd (omega arith)
  same_at (f ∷ fs) zero d e p = refl
  same_at (f ∷ fs) (suc i) d e p = same_at fs i d e (omega arith)

  -- the name comes after the last one
  pub last_miss : (k : List ℕ) (fs : List F) (i : ℕ) (d : F) → NamesRise (map name fs) → suc i ≡ length fs → slice_cmp nat_cmp (name (get_or fs i d)) k ≡ Less → Err (length fs) ≡ seek k (map name fs)
  last_miss k [] i d h p e = absurd (omega (arith, p))
  last_miss k (f ∷ []) zero d h p e =
      let above : slice_cmp nat_cmp k (name f) ≡ Greater = reversed (name f) k Less e in
      rw above refl
  last_miss k (f ∷ []) (suc i) d h p e = absurd (omega (arith, p))
  last_miss k (f ∷ g ∷ fs) zero d h p e = absurd (omega (arith, p))
  last_miss k (f ∷ g ∷ fs) (suc i) d h p e =
      let later : slice_cmp nat_cmp (name f) (name (get_or (g ∷ fs) i d)) ≡ Less = below_later (name f) (g ∷ fs) i d h.0 h.1 (omega (arith, p)) in
      let above : slice_cmp nat_cmp k (name f) ≡ Greater = reversed (name f) k Less (nat_list_cmp_total.trans (name f) (name (get_or (g ∷ fs) i d)) k later e) in
      rw above (ap next (last_miss k (g ∷ fs) i d h.1 (omega (arith, p)) e))

  -- the name is the last one
  pub last_hit : (k : List ℕ) (fs : List F) (i : ℕ) (d : F) → NamesRise (map name fs) → i < length fs → slice_cmp nat_cmp (name (get_or fs i d)) k ≡ Equal → Ok i ≡ seek k (map name fs)
  last_hit k fs i d h p e =
      at_hit k fs i h p (λ x. ap (λ (f : F). slice_cmp nat_cmp (name f) k) (same_at fs i x d p) ∙ e)

  -- ---- each one looked at

  pub name_at : (fs : List F) (i : ℕ) (d : F) → i < length fs → get_or (map name fs) i [] ≡ name (get_or fs i d)
  name_at [] i d p = absurd (omega arith)
  name_at (f ∷ fs) zero d p = refl
  name_at (f ∷ fs) (suc i) d p = name_at fs i d (omega arith)

  pub found_at : (k : List ℕ) (fs : List F) (i : ℕ) (d : F) → NamesRise (map name fs) → i < length fs → name (get_or fs i d) ≡ k → Some i ≡ place (seek k (map name fs))
  found_at k fs i d h p e =
      ap place (last_hit k fs i d h p (ap (λ (n : List ℕ). slice_cmp nat_cmp n k) e ∙ tied_itself nat_list_cmp_total k))

pub found_none : (k : List ℕ) (ns : List (List ℕ)) → ((j : ℕ) → j < length ns → get_or ns j [] ≢ k) → None ≡ place (seek k ns)
found_none k [] other = refl
found_none k (n ∷ ns) other = by_order (found_none k ns (λ j p. other (suc j) (omega (arith, p)))) (slice_cmp nat_cmp k n) refl
  where
    by_order : None ≡ place (seek k ns) → (o : Ordering) → slice_cmp nat_cmp k n ≡ o → None ≡ place (match_ordering o (Err 0) (Ok 0) (next (seek k ns)))
    by_order rest Less q = refl
    by_order rest Equal q = absurd (other 0 (omega arith) (sym (tied_same k n q)))
    by_order rest Greater q = place_next (seek k ns) rest
