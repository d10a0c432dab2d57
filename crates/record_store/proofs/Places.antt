-- What a place among keys says of the things by key.
use Rattle.std.proofs.Common.{◌≡◌, ℕ, zero, suc, ◌<◌, ◌≤◌, List, [], ◌∷◌, length, get_or, set, map, drop, Option, Some, None, Result, Ok, Err, Ordering, Less, Equal, Greater, false, subst, ap, sym, refl, ◌∙◌, arith}
use Rattle.std.specs.Prelude.{find as first, insert, remove, not, slice_get}
use Rattle.std.specs.Ordering.{match_ordering, is_gt}
use Rattle.kube_meta.specs.Key.{KeyView, key_cmp}
use Rattle.kube_meta.specs.laws.KeyOrder.{key_cmp_total}
use Rattle.kube_meta.specs.Plan.{Start, After, passed}
use Rattle.record_store.specs.ByKey.{IsBelowFirst, KeysRise, all_behind, find, put, without, next, place, place_behind}
use Rattle.record_store.proofs.Search.{reversed}

module _ {F : Type 0} (key : F → KeyView) where
  -- the first behind a key
  abbrev pub behind : KeyView → List F → Option F
  behind k fs = first (λ f. not (passed (After k) (key f))) fs

  pub first_of_all : (fs : List F) → slice_get fs 0 ≡ first (λ f. not (passed Start (key f))) fs
  first_of_all [] = refl
  first_of_all (f ∷ fs) = refl

  -- what a hit at i says
  pub record Hits (k : KeyView) (fs : List F) (i : ℕ) : Type 0 where
    pub within : i < length fs
    pub value : (d : F) → find key k fs ≡ Some (get_or fs i d)
    pub replaced : (g : F) → key g ≡ k → set fs i g ≡ put key g fs
    pub removed : remove fs i ≡ without key k fs
    pub later : KeysRise (map key fs) → slice_get fs (suc i) ≡ behind k fs
    pub beyond : KeysRise (map key fs) → drop (suc i) fs ≡ all_behind key (Some k) fs

  -- what a miss at i says
  pub record Misses (k : KeyView) (fs : List F) (i : ℕ) : Type 0 where
    pub within : i ≤ length fs
    pub value : find key k fs ≡ None
    pub inserted : (g : F) → key g ≡ k → insert fs i g ≡ put key g fs
    pub removed : without key k fs ≡ fs
    pub later : slice_get fs i ≡ behind k fs
    pub beyond : KeysRise (map key fs) → drop i fs ≡ all_behind key (Some k) fs

  abbrev Found : KeyView → List F → Result ℕ ℕ → Type 0
  Found k fs (Ok i) = Hits k fs i
  Found k fs (Err i) = Misses k fs i

  not_passed : (k : KeyView) (f : F) (fs : List F) → key_cmp k (key f) ≡ Less → behind k (f ∷ fs) ≡ Some f
  not_passed k f fs q = let e : key_cmp (key f) k ≡ Greater = reversed k (key f) Less q in rw e refl

  skipped : (k : KeyView) (f : F) (fs : List F) → (is_gt (key_cmp (key f) k) ≡ false) → behind k (f ∷ fs) ≡ behind k fs
  skipped k f fs q = rw q refl

  skipped_equal : (k : KeyView) (f : F) (fs : List F) → key_cmp k (key f) ≡ Equal → behind k (f ∷ fs) ≡ behind k fs
  skipped_equal k f fs q = let e : key_cmp (key f) k ≡ Equal = reversed k (key f) Equal q in skipped k f fs (rw e refl)

  skipped_greater : (k : KeyView) (f : F) (fs : List F) → key_cmp k (key f) ≡ Greater → behind k (f ∷ fs) ≡ behind k fs
  skipped_greater k f fs q = let e : key_cmp (key f) k ≡ Less = reversed k (key f) Greater q in skipped k f fs (rw e refl)

  -- behind the key at the front stands the next one
  next_behind : (k : KeyView) (f : F) (fs : List F) → key_cmp k (key f) ≡ Equal → KeysRise (map key (f ∷ fs)) → slice_get fs 0 ≡ behind k (f ∷ fs)
  next_behind k f [] q h = sym (skipped_equal k f [] q)
  next_behind k f (g ∷ gs) q h =
      let less : key_cmp k (key g) ≡ Less = key_cmp_total.congr k (key f) (key g) q ∙ h.0 in
      sym (skipped_equal k f (g ∷ gs) q ∙ not_passed k g gs less)

  -- ---- all that is behind

  -- behind a key that comes before the first one stand all
  all-kept : (k : KeyView) (fs : List F) → IsBelowFirst k (map key fs) → KeysRise (map key fs) → fs ≡ all_behind key (Some k) fs
  all-kept k [] p h = refl
  all-kept k (f ∷ fs) p h =
      let e : key_cmp (key f) k ≡ Greater = reversed k (key f) Less p in
      rw e (ap (λ (r : List F). f ∷ r) (all-kept k fs (below-rest k f fs p h) h.1))
    where
      below-rest : (k : KeyView) (f : F) (fs : List F) → key_cmp k (key f) ≡ Less → KeysRise (map key (f ∷ fs)) → IsBelowFirst k (map key fs)
      below-rest k f [] p h = tt
      below-rest k f (g ∷ fs) p h = key_cmp_total.trans k (key f) (key g) p h.0

  dropped : (k : KeyView) (f : F) (fs : List F) → is_gt (key_cmp (key f) k) ≡ false → all_behind key (Some k) (f ∷ fs) ≡ all_behind key (Some k) fs
  dropped k f fs q = rw q refl

  dropped_equal : (k : KeyView) (f : F) (fs : List F) → key_cmp k (key f) ≡ Equal → all_behind key (Some k) (f ∷ fs) ≡ all_behind key (Some k) fs
  dropped_equal k f fs q = let e : key_cmp (key f) k ≡ Equal = reversed k (key f) Equal q in dropped k f fs (rw e refl)

  dropped_greater : (k : KeyView) (f : F) (fs : List F) → key_cmp k (key f) ≡ Greater → all_behind key (Some k) (f ∷ fs) ≡ all_behind key (Some k) fs
  dropped_greater k f fs q = let e : key_cmp (key f) k ≡ Less = reversed k (key f) Greater q in dropped k f fs (rw e refl)

  below_equal : (k : KeyView) (f : F) (fs : List F) → key_cmp k (key f) ≡ Equal → IsBelowFirst (key f) (map key fs) → IsBelowFirst k (map key fs)
  below_equal k f [] q h = tt
  below_equal k f (g ∷ fs) q h = key_cmp_total.congr k (key f) (key g) q ∙ h

  found_past : (k : KeyView) (f : F) (fs : List F) (r : Result ℕ ℕ) → key_cmp k (key f) ≡ Greater → Found k fs r → Found k (f ∷ fs) (next r)
  found_past k f fs (Ok i) q h = record {
    within = omega (arith, h.within);
    value = λ d. rw q (h.value d);
    replaced = λ g e. replaced_past g (rw e q) (h.replaced g e);
    removed = rw q (ap (λ (r : List F). f ∷ r) h.removed);
    later = λ s. h.later s.1 ∙ sym (skipped_greater k f fs q);
    beyond = λ s. h.beyond s.1 ∙ sym (dropped_greater k f fs q);
  }
    where
      replaced_past : (g : F) → key_cmp (key g) (key f) ≡ Greater → set fs i g ≡ put key g fs → set (f ∷ fs) (suc i) g ≡ put key g (f ∷ fs)
      replaced_past g above e = rw above (ap (λ (r : List F). f ∷ r) e)
  found_past k f fs (Err i) q h = record {
    within = omega (arith, h.within);
    value = rw q h.value;
    inserted = λ g e. inserted_past g (rw e q) (h.inserted g e);
    removed = rw q (ap (λ (r : List F). f ∷ r) h.removed);
    later = h.later ∙ sym (skipped_greater k f fs q);
    beyond = λ s. h.beyond s.1 ∙ sym (dropped_greater k f fs q);
  }
    where
      inserted_past : (g : F) → key_cmp (key g) (key f) ≡ Greater → insert fs i g ≡ put key g fs → insert (f ∷ fs) (suc i) g ≡ put key g (f ∷ fs)
      inserted_past g above e = rw above (ap (λ (r : List F). f ∷ r) e)

  found : (k : KeyView) (fs : List F) → Found k fs (place k (map key fs))
  found k [] = record {
    within = omega arith;
    value = refl;
    inserted = λ g e. refl;
    removed = refl;
    later = refl;
    beyond = λ s. refl;
  }
  found k (f ∷ fs) = by_order (found k fs) (key_cmp k (key f)) refl
    where
      by_order : Found k fs (place k (map key fs)) → (o : Ordering) → key_cmp k (key f) ≡ o → Found k (f ∷ fs) (match_ordering o (Err 0) (Ok 0) (next (place k (map key fs))))
      by_order h Less q = record {
        within = omega arith;
        value = rw q refl;
        inserted = λ g e. let below : key_cmp (key g) (key f) ≡ Less = ap (λ (l : KeyView). key_cmp l (key f)) e ∙ q in rw below refl;
        removed = rw q refl;
        later = sym (not_passed k f fs q);
        beyond = λ s. all-kept k (f ∷ fs) q s;
      }
      by_order h Equal q = record {
        within = omega arith;
        value = λ d. rw q refl;
        replaced = λ g e. let same : key_cmp (key g) (key f) ≡ Equal = ap (λ (l : KeyView). key_cmp l (key f)) e ∙ q in rw same refl;
        removed = rw q refl;
        later = λ s. next_behind k f fs q s;
        beyond = λ s. all-kept k fs (below_equal k f fs q s.0) s.1 ∙ sym (dropped_equal k f fs q);
      }
      by_order h Greater q = found_past k f fs _ q h

  -- as `place` answers, of a slice xs that is the things fs
  pub hit : (k : KeyView) (xs fs : List F) (i : ℕ) → xs ≡ fs → Ok i ≡ place k (map key xs) → Hits k fs i
  hit k xs fs i same e = subst (λ (ys : List F). Hits k ys i) same (subst (Found k xs) (sym e) (found k xs))

  pub miss : (k : KeyView) (xs fs : List F) (i : ℕ) → xs ≡ fs → Err i ≡ place k (map key xs) → Misses k fs i
  miss k xs fs i same e = subst (λ (ys : List F). Misses k ys i) same (subst (Found k xs) (sym e) (found k xs))

  -- the same, where the key's parts were read one by one
  pub hit_of : (k : KeyView) (ns name : List ℕ) (xs fs : List F) (i : ℕ) → ns ≡ k.ns → name ≡ k.name → xs ≡ fs → Ok i ≡ place (record { ns = ns; name = name }) (map key xs) → Hits k fs i
  hit_of k ns name xs fs i e f same h =
      hit k xs fs i same (h ∙ ap (λ (n : List ℕ). place (record { ns = n; name = name }) (map key xs)) e ∙ ap (λ (n : List ℕ). place (record { ns = k.ns; name = n }) (map key xs)) f)

  pub miss_of : (k : KeyView) (ns name : List ℕ) (xs fs : List F) (i : ℕ) → ns ≡ k.ns → name ≡ k.name → xs ≡ fs → Err i ≡ place (record { ns = ns; name = name }) (map key xs) → Misses k fs i
  miss_of k ns name xs fs i e f same h =
      miss k xs fs i same (h ∙ ap (λ (n : List ℕ). place (record { ns = n; name = name }) (map key xs)) e ∙ ap (λ (n : List ℕ). place (record { ns = k.ns; name = n }) (map key xs)) f)

  pub none-behind : (fs : List F) → fs ≡ all_behind key None fs
  none-behind [] = refl
  none-behind (f ∷ fs) = ap (λ (r : List F). f ∷ r) (none-behind fs)

  -- where the things behind a key begin
  pub record IsBegin (k : KeyView) (fs : List F) (n : ℕ) : Type 0 where
    pub within : n ≤ length fs
    pub rows : drop n fs ≡ all_behind key (Some k) fs

  pub begins : (k : KeyView) (ns name : List ℕ) (fs : List F) (r : Result ℕ ℕ) → ns ≡ k.ns → name ≡ k.name → KeysRise (map key fs) → r ≡ place (record { ns = ns; name = name }) (map key fs) → IsBegin k fs (place_behind r)
  begins k ns name fs (Ok i) e f rise is =
      let h = hit_of k ns name fs fs i e f refl is in
      record { within = h.within; rows = h.beyond rise }
  begins k ns name fs (Err i) e f rise is =
      let h = miss_of k ns name fs fs i e f refl is in
      record { within = h.within; rows = h.beyond rise }

  -- ---- keys go on rising

  below_first-put : (l : KeyView) (y : F) (fs : List F) → key_cmp l (key y) ≡ Less → IsBelowFirst l (map key fs) → IsBelowFirst l (map key (put key y fs))
  below_first-put l y [] p h = p
  below_first-put l y (f ∷ fs) p h = by_order (key_cmp (key y) (key f))
    where
      by_order : (o : Ordering) → IsBelowFirst l (map key (match_ordering o (y ∷ f ∷ fs) (y ∷ fs) (f ∷ put key y fs)))
      by_order Less = p
      by_order Equal = p
      by_order Greater = h

  below_first-congr : (k l : KeyView) (fs : List F) → key_cmp k l ≡ Equal → IsBelowFirst l (map key fs) → IsBelowFirst k (map key fs)
  below_first-congr k l [] q h = tt
  below_first-congr k l (f ∷ fs) q h = key_cmp_total.congr k l (key f) q ∙ h

  pub rise-put : (y : F) (fs : List F) → KeysRise (map key fs) → KeysRise (map key (put key y fs))
  rise-put y [] h = (tt, tt)
  rise-put y (f ∷ fs) h = by_order (rise-put y fs h.1) (key_cmp (key y) (key f)) refl
    where
      by_order : KeysRise (map key (put key y fs)) → (o : Ordering) → key_cmp (key y) (key f) ≡ o → KeysRise (map key (match_ordering o (y ∷ f ∷ fs) (y ∷ fs) (f ∷ put key y fs)))
      by_order r Less q = (q, h)
      by_order r Equal q = (below_first-congr (key y) (key f) fs q h.0, h.1)
      by_order r Greater q = (below_first-put (key f) y fs (reversed (key y) (key f) Greater q) h.0, r)

  below_first-tail : (l : KeyView) (f : F) (fs : List F) → IsBelowFirst l (map key (f ∷ fs)) → KeysRise (map key (f ∷ fs)) → IsBelowFirst l (map key fs)
  below_first-tail l f [] p h = tt
  below_first-tail l f (g ∷ fs) p h = key_cmp_total.trans l (key f) (key g) p h.0

  below_first-without : (l k : KeyView) (fs : List F) → IsBelowFirst l (map key fs) → KeysRise (map key fs) → IsBelowFirst l (map key (without key k fs))
  below_first-without l k [] p h = tt
  below_first-without l k (f ∷ fs) p h = by_order (key_cmp k (key f))
    where
      by_order : (o : Ordering) → IsBelowFirst l (map key (match_ordering o (f ∷ fs) fs (f ∷ without key k fs)))
      by_order Less = p
      by_order Equal = below_first-tail l f fs p h
      by_order Greater = p

  pub rise-without : (k : KeyView) (fs : List F) → KeysRise (map key fs) → KeysRise (map key (without key k fs))
  rise-without k [] h = tt
  rise-without k (f ∷ fs) h = by_order (rise-without k fs h.1) (key_cmp k (key f))
    where
      by_order : KeysRise (map key (without key k fs)) → (o : Ordering) → KeysRise (map key (match_ordering o (f ∷ fs) fs (f ∷ without key k fs)))
      by_order r Less = h
      by_order r Equal = h.1
      by_order r Greater = (below_first-without (key f) k fs h.0 h.1, r)

  -- ---- one thing changes beside its key

  pub keys-set : (fs : List F) (i : ℕ) (f g : F) → f ≡ get_or fs i f → key g ≡ key f → map key (set fs i g) ≡ map key fs
  keys-set [] i f g e same = refl
  keys-set (h ∷ fs) zero f g e same = ap (λ (k : KeyView). k ∷ map key fs) (same ∙ ap key e)
  keys-set (h ∷ fs) (suc i) f g e same = ap (λ (ks : List KeyView). key h ∷ ks) (keys-set fs i f g e same)

pub got : {F : Type 0} (fs : List F) (i : ℕ) (f g : F) → slice_get fs i ≡ Some f → g ≡ get_or fs i g → g ≡ f
got [] i f g e q = absurd (cc)
got (h ∷ fs) zero f g e q = let same : h ≡ f = cc in q ∙ same
got (h ∷ fs) (suc i) f g e q = got fs i f g e q
