-- What a search among the names of a map finds.
use Rattle.std.proofs.Common.{◌≡◌, ℕ, ◌<◌, List, [], ◌∷◌, length, get_or, map, Some, None, Result, Ok, Err, Ordering, Less, Equal, Greater, nat_cmp, subst, sym, refl, arith}
use Rattle.std.specs.Ordering.{match_ordering}
use Rattle.std.specs.Cmp.Lexicographic.{slice_cmp}
use Rattle.std.proofs.lemmas.Cmp.{nat_list_cmp_total}
use Rattle.kj_value.specs.Fields.{field, IsBelowFirst, NamesRise, AreInOrder, next, seek}

module _ {F V : Type 0} (pair : F → List ℕ × V) where
  abbrev pub names : List F → List (List ℕ)
  names fs = map (λ f. (pair f).0) fs

  pub order_names : (fs : List F) → AreInOrder (map pair fs) → NamesRise (names fs)
  order_names [] h = tt
  order_names (f ∷ []) h = (tt, tt)
  order_names (f ∷ g ∷ fs) h = (h.0, order_names (g ∷ fs) h.1)

  pub record Hits (k : List ℕ) (fs : List F) (i : ℕ) : Type 0 where
    pub within : i < length fs
    pub value : (d : F) → field k (map pair fs) ≡ Some (pair (get_or fs i d)).1

  pub record Misses (k : List ℕ) (fs : List F) : Type 0 where
    pub value : NamesRise (names fs) → field k (map pair fs) ≡ None

  abbrev Found : List ℕ → List F → Result ℕ ℕ → Type 0
  Found k fs (Ok i) = Hits k fs i
  Found k fs (Err i) = Misses k fs

  field_before : (k : List ℕ) (fs : List F) → IsBelowFirst k (names fs) → NamesRise (names fs) → field k (map pair fs) ≡ None
  field_before k [] p h = refl
  field_before k (f ∷ []) p h = rw p refl
  field_before k (f ∷ g ∷ fs) p h =
      rw p (field_before k (g ∷ fs) (nat_list_cmp_total.trans k (pair f).0 (pair g).0 p h.0) h.1)

  found_past : (k : List ℕ) (f : F) (fs : List F) (r : Result ℕ ℕ) → slice_cmp nat_cmp k (pair f).0 ≡ Greater → Found k fs r → Found k (f ∷ fs) (next r)
  found_past k f fs (Ok i) q h = record { within = omega (arith, h.within); value = λ d. rw q (h.value d) }
  found_past k f fs (Err i) q h = record { value = λ s. rw q (h.value s.1) }

  found : (k : List ℕ) (fs : List F) → Found k fs (seek k (names fs))
  found k [] = record { value = λ _. refl }
  found k (f ∷ fs) = by_order (found k fs) (slice_cmp nat_cmp k (pair f).0) refl
    where
      by_order : Found k fs (seek k (names fs)) → (o : Ordering) → slice_cmp nat_cmp k (pair f).0 ≡ o → Found k (f ∷ fs) (match_ordering o (Err 0) (Ok 0) (next (seek k (names fs))))
      by_order h Less q = record { value = λ s. field_before k (f ∷ fs) q s }
      by_order h Equal q = record { within = omega arith; value = λ d. rw q refl }
      by_order h Greater q = found_past k f fs _ q h

  -- as `seek` answers, of a slice xs that is the fields fs
  pub hit : (k : List ℕ) (xs fs : List F) (i : ℕ) → xs ≡ fs → Ok i ≡ seek k (names xs) → Hits k fs i
  hit k xs fs i same e = subst (λ (ys : List F). Hits k ys i) same (subst (Found k xs) (sym e) (found k xs))

  pub miss : (k : List ℕ) (xs fs : List F) (i : ℕ) → xs ≡ fs → Err i ≡ seek k (names xs) → Misses k fs
  miss k xs fs i same e = subst (λ (ys : List F). Misses k ys) same (subst (Found k xs) (sym e) (found k xs))
