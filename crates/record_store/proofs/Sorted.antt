-- A thing that is put at its place among things by key.
use Rattle.std.proofs.Common.{◌≡◌, ℕ, suc, ◌<◌, ◌≤◌, List, [], ◌∷◌, length, get_or, set, map, None, Some, Result, Ok, Err, Ordering, Less, Equal, Greater, subst, ap, sym, refl, ◌∙◌, arith}
use Rattle.std.specs.Prelude.{insert}
use Rattle.std.specs.Ordering.{match_ordering, ordering_reverse}
use Rattle.kube_meta.specs.Key.{KeyView, key_cmp}
use Rattle.kube_meta.specs.laws.KeyOrder.{key_cmp_total}
use Rattle.record_store.specs.ByKey.{IsBelowFirst, KeysRise, find, put, next, place}

module _ {F : Type 0} (key : F → KeyView) where
  -- what a hit at i says
  pub record Hits (k : KeyView) (fs : List F) (i : ℕ) : Type 0 where
    pub within : i < length fs
    pub value : (d : F) → find key k fs ≡ Some (get_or fs i d)
    pub replaced : (g : F) → key g ≡ k → set fs i g ≡ put key g fs

  -- what a miss at i says
  pub record Misses (k : KeyView) (fs : List F) (i : ℕ) : Type 0 where
    pub within : i ≤ length fs
    pub value : find key k fs ≡ None
    pub inserted : (g : F) → key g ≡ k → insert fs i g ≡ put key g fs

  abbrev Found : KeyView → List F → Result ℕ ℕ → Type 0
  Found k fs (Ok i) = Hits k fs i
  Found k fs (Err i) = Misses k fs i

  found_past : (k : KeyView) (f : F) (fs : List F) (r : Result ℕ ℕ) → key_cmp k (key f) ≡ Greater → Found k fs r → Found k (f ∷ fs) (next r)
  found_past k f fs (Ok i) q h = record {
    within = omega (arith, h.within);
    value = λ d. rw q (h.value d);
    replaced = λ g e. past g (rw e q) (h.replaced g e);
  }
    where
      past : (g : F) → key_cmp (key g) (key f) ≡ Greater → set fs i g ≡ put key g fs → set (f ∷ fs) (suc i) g ≡ put key g (f ∷ fs)
      past g above e = rw above (ap (λ (r : List F). f ∷ r) e)
  found_past k f fs (Err i) q h = record {
    within = omega (arith, h.within);
    value = rw q h.value;
    inserted = λ g e. past g (rw e q) (h.inserted g e);
  }
    where
      past : (g : F) → key_cmp (key g) (key f) ≡ Greater → insert fs i g ≡ put key g fs → insert (f ∷ fs) (suc i) g ≡ put key g (f ∷ fs)
      past g above e = rw above (ap (λ (r : List F). f ∷ r) e)

  found : (k : KeyView) (fs : List F) → Found k fs (place k (map key fs))
  found k [] = record {
    within = omega arith;
    value = refl;
    inserted = λ g e. refl;
  }
  found k (f ∷ fs) = by_order (found k fs) (key_cmp k (key f)) refl
    where
      by_order : Found k fs (place k (map key fs)) → (o : Ordering) → key_cmp k (key f) ≡ o → Found k (f ∷ fs) (match_ordering o (Err 0) (Ok 0) (next (place k (map key fs))))
      by_order h Less q = record {
        within = omega arith;
        value = rw q refl;
        inserted = λ g e. let below : key_cmp (key g) (key f) ≡ Less = ap (λ (l : KeyView). key_cmp l (key f)) e ∙ q in rw below refl;
      }
      by_order h Equal q = record {
        within = omega arith;
        value = λ d. rw q refl;
        replaced = λ g e. let same : key_cmp (key g) (key f) ≡ Equal = ap (λ (l : KeyView). key_cmp l (key f)) e ∙ q in rw same refl;
      }
      by_order h Greater q = found_past k f fs _ q h

  pub hit : (k : KeyView) (xs fs : List F) (i : ℕ) → xs ≡ fs → Ok i ≡ place k (map key xs) → Hits k fs i
  hit k xs fs i same e = subst (λ (ys : List F). Hits k ys i) same (subst (Found k xs) (sym e) (found k xs))

  pub miss : (k : KeyView) (xs fs : List F) (i : ℕ) → xs ≡ fs → Err i ≡ place k (map key xs) → Misses k fs i
  miss k xs fs i same e = subst (λ (ys : List F). Misses k ys i) same (subst (Found k xs) (sym e) (found k xs))

  -- as `place` answers, where the key's parts were read one by one
  pub hit_of : (k : KeyView) (ns name : List ℕ) (xs fs : List F) (i : ℕ) → ns ≡ k.ns → name ≡ k.name → xs ≡ fs → Ok i ≡ place (record { ns = ns; name = name }) (map key xs) → Hits k fs i
  hit_of k ns name xs fs i e f same h =
      hit k xs fs i same (h ∙ ap (λ (n : List ℕ). place (record { ns = n; name = name }) (map key xs)) e ∙ ap (λ (n : List ℕ). place (record { ns = k.ns; name = n }) (map key xs)) f)

  pub miss_of : (k : KeyView) (ns name : List ℕ) (xs fs : List F) (i : ℕ) → ns ≡ k.ns → name ≡ k.name → xs ≡ fs → Err i ≡ place (record { ns = ns; name = name }) (map key xs) → Misses k fs i
  miss_of k ns name xs fs i e f same h =
      miss k xs fs i same (h ∙ ap (λ (n : List ℕ). place (record { ns = n; name = name }) (map key xs)) e ∙ ap (λ (n : List ℕ). place (record { ns = k.ns; name = n }) (map key xs)) f)

  -- ---- keys go on rising

  below_first-put : (l : KeyView) (y : F) (fs : List F) → key_cmp l (key y) ≡ Less → IsBelowFirst l (map key fs) → IsBelowFirst l (map key (put key y fs))
  below_first-put l y [] p h = p
  below_first-put l y (f ∷ fs) p h = by_order (key_cmp (key y) (key f))
    where
      by_order : (o : Ordering) → IsBelowFirst l (map key (match_ordering o (y ∷ f ∷ fs) (y ∷ fs) (f ∷ put key y fs)))
      by_order Less = p
      by_order Equal = p
      by_order Greater = h

  below_first-congr : (k l : KeyView) (fs : List F) → key_cmp k l ≡ Equal → IsBelowFirst l (map key fs) → IsBelowFirst k (map key fs)
  below_first-congr k l [] q h = tt
  below_first-congr k l (f ∷ fs) q h = key_cmp_total.congr k l (key f) q ∙ h

  pub rise-put : (y : F) (fs : List F) → KeysRise (map key fs) → KeysRise (map key (put key y fs))
  rise-put y [] h = (tt, tt)
  rise-put y (f ∷ fs) h = by_order (rise-put y fs h.1) (key_cmp (key y) (key f)) refl
    where
      by_order : KeysRise (map key (put key y fs)) → (o : Ordering) → key_cmp (key y) (key f) ≡ o → KeysRise (map key (match_ordering o (y ∷ f ∷ fs) (y ∷ fs) (f ∷ put key y fs)))
      by_order r Less q = (q, h)
      by_order r Equal q = (below_first-congr (key y) (key f) fs q h.0, h.1)
      by_order r Greater q = (below_first-put (key f) y fs (key_cmp_total.antisymm (key f) (key y) ∙ ap ordering_reverse q) h.0, r)
