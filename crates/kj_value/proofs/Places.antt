-- What a field at a place says of the fields by name.
use Rattle.std.proofs.Common.{◌≡◌, ℕ, ◌<◌, ◌≤◌, List, [], ◌∷◌, length, get_or, set, map, Some, None, Result, Ok, Err, Ordering, Less, Equal, Greater, nat_cmp, subst, ap, sym, refl, ◌∙◌, arith}
use Rattle.std.specs.Prelude.{insert, remove}
use Rattle.std.specs.Ordering.{match_ordering}
use Rattle.std.specs.Cmp.Lexicographic.{slice_cmp}
use Rattle.std.proofs.lemmas.Cmp.{nat_list_cmp_total}
use Rattle.kj_value.specs.Fields.{field, with_field, without_field, IsBelowFirst, NamesRise, next, seek}

module _ {F V : Type 0} (pair : F → List ℕ × V) where
  abbrev pub names : List F → List (List ℕ)
  names fs = map (λ f. (pair f).0) fs

  -- what a hit at i says, of the fields and any default d
  pub record Hits (k : List ℕ) (fs : List F) (i : ℕ) : Type 0 where
    pub within : i < length fs
    pub value : (d : F) → field k (map pair fs) ≡ Some (pair (get_or fs i d)).1
    pub replaced : (d g : F) → (pair g).0 ≡ (pair (get_or fs i d)).0 → map pair (set fs i g) ≡ with_field k (pair g).1 (map pair fs)
    pub removed : map pair (remove fs i) ≡ without_field k (map pair fs)

  -- what a miss at i says
  pub record Misses (k : List ℕ) (fs : List F) (i : ℕ) : Type 0 where
    pub within : i ≤ length fs
    pub value : NamesRise (names fs) → field k (map pair fs) ≡ None
    pub inserted : (g : F) → (pair g).0 ≡ k → map pair (insert fs i g) ≡ with_field k (pair g).1 (map pair fs)
    pub removed : NamesRise (names fs) → without_field k (map pair fs) ≡ map pair fs

  abbrev Found : List ℕ → List F → Result ℕ ℕ → Type 0
  Found k fs (Ok i) = Hits k fs i
  Found k fs (Err i) = Misses k fs i

  field_before : (k : List ℕ) (fs : List F) → IsBelowFirst k (names fs) → NamesRise (names fs) → field k (map pair fs) ≡ None
  field_before k [] p h = refl
  field_before k (f ∷ []) p h = rw p refl
  field_before k (f ∷ g ∷ fs) p h =
      rw p (field_before k (g ∷ fs) (nat_list_cmp_total.trans k (pair f).0 (pair g).0 p h.0) h.1)

  without_before : (k : List ℕ) (fs : List F) → IsBelowFirst k (names fs) → NamesRise (names fs) → without_field k (map pair fs) ≡ map pair fs
  without_before k [] p h = refl
  without_before k (f ∷ []) p h = rw p refl
  without_before k (f ∷ g ∷ fs) p h =
      rw p (ap (λ (r : List (List ℕ × V)). pair f ∷ r) (without_before k (g ∷ fs) (nat_list_cmp_total.trans k (pair f).0 (pair g).0 p h.0) h.1))

  found_past : (k : List ℕ) (f : F) (fs : List F) (r : Result ℕ ℕ) → slice_cmp nat_cmp k (pair f).0 ≡ Greater → Found k fs r → Found k (f ∷ fs) (next r)
  found_past k f fs (Ok i) q h = record {
    within = omega (arith, h.within);
    value = λ d. rw q (h.value d);
    replaced = λ d g e. rw q (ap (λ (r : List (List ℕ × V)). pair f ∷ r) (h.replaced d g e));
    removed = rw q (ap (λ (r : List (List ℕ × V)). pair f ∷ r) h.removed);
  }
  found_past k f fs (Err i) q h = record {
    within = omega (arith, h.within);
    value = λ s. rw q (h.value s.1);
    inserted = λ g e. rw q (ap (λ (r : List (List ℕ × V)). pair f ∷ r) (h.inserted g e));
    removed = λ s. rw q (ap (λ (r : List (List ℕ × V)). pair f ∷ r) (h.removed s.1));
  }

  -- a pair that has the name n
  named : (p : List ℕ × V) (n : List ℕ) (es : List (List ℕ × V)) → p.0 ≡ n → p ∷ es ≡ (n, p.1) ∷ es
  named p n es e = ap (λ (m : List ℕ). (m, p.1) ∷ es) e

  found : (k : List ℕ) (fs : List F) → Found k fs (seek k (names fs))
  found k [] = record {
    within = omega arith;
    value = λ _. refl;
    inserted = λ g e. named (pair g) k [] e;
    removed = λ _. refl;
  }
  found k (f ∷ fs) = by_order (found k fs) (slice_cmp nat_cmp k (pair f).0) refl
    where
      by_order : Found k fs (seek k (names fs)) → (o : Ordering) → slice_cmp nat_cmp k (pair f).0 ≡ o → Found k (f ∷ fs) (match_ordering o (Err 0) (Ok 0) (next (seek k (names fs))))
      by_order h Less q = record {
        within = omega arith;
        value = λ s. field_before k (f ∷ fs) q s;
        inserted = λ g e. rw q (named (pair g) k (map pair (f ∷ fs)) e);
        removed = λ s. without_before k (f ∷ fs) q s;
      }
      by_order h Equal q = record {
        within = omega arith;
        value = λ d. rw q refl;
        replaced = λ d g e. rw q (named (pair g) (pair f).0 (map pair fs) e);
        removed = rw q refl;
      }
      by_order h Greater q = found_past k f fs _ q h

  -- as `seek` answers, of a slice xs that is the fields fs
  pub hit : (k : List ℕ) (xs fs : List F) (i : ℕ) → xs ≡ fs → Ok i ≡ seek k (names xs) → Hits k fs i
  hit k xs fs i same e = subst (λ (ys : List F). Hits k ys i) same (subst (Found k xs) (sym e) (found k xs))

  pub miss : (k : List ℕ) (xs fs : List F) (i : ℕ) → xs ≡ fs → Err i ≡ seek k (names xs) → Misses k fs i
  miss k xs fs i same e = subst (λ (ys : List F). Misses k ys i) same (subst (Found k xs) (sym e) (found k xs))

  -- after a write of the value alone to the field d at i, as the field g
  pub replaced_at : (k n : List ℕ) (fs : List F) (i : ℕ) (d g : F) → Hits k fs i → d ≡ get_or fs i d → k ≡ n → (pair g).0 ≡ (pair d).0 → map pair (set fs i g) ≡ with_field n (pair g).1 (map pair fs)
  replaced_at k n fs i d g h e same kept =
      h.replaced d g (kept ∙ ap (λ (x : F). (pair x).0) e) ∙ ap (λ (m : List ℕ). with_field m (pair g).1 (map pair fs)) same

  pub inserted_at : (k : List ℕ) (fs : List F) (i : ℕ) (g : F) → Misses k fs i → k ≡ (pair g).0 → map pair (insert fs i g) ≡ with_field (pair g).0 (pair g).1 (map pair fs)
  inserted_at k fs i g h same =
      h.inserted g (sym same) ∙ ap (λ (m : List ℕ). with_field m (pair g).1 (map pair fs)) same
