-- One more record, where the versions before the first found are looked for.
use Rattle.std.proofs.Common.{◌≡◌, ◌∙◌, ℕ, suc, ◌+◌, ◌≤◌, List, [], ◌∷◌, Option, None, Some, Bool, true, false, cond, nat_eq, refl, ap, sym, subst, take, map, arith, add-one}
use Rattle.std.specs.Prelude.{position, option_map, if◌then◌else◌}
use Rattle.std.specs.List.{position_from}
use Rattle.std.specs.Option.{option_or}
use Rattle.std.proofs.lemmas.Bool.Decides.{nat_tests}
use Rattle.std.proofs.lemmas.List.{take-take}
use Rattle.std.proofs.lemmas.Iterator.Adapters.{position_from-zero}
use Rattle.kube_meta.specs.Key.{KeyView}
use Rattle.record_store.specs.Standing.{first_at, at_version, first_held}

-- ---- places

shifted : (p : ℕ → Bool) (i : ℕ) (vs : List ℕ) → position_from p (i + 1) vs ≡ option_map suc (position_from p i vs)
shifted p i [] = refl
shifted p i (v ∷ vs) = by (p v) (shifted p (i + 1) vs)
  where
    by : (b : Bool) → position_from p (i + 1 + 1) vs ≡ option_map suc (position_from p (i + 1) vs)
        → cond b (Some (i + 1)) (position_from p (i + 1 + 1) vs) ≡ option_map suc (cond b (Some i) (position_from p (i + 1) vs))
    by true more = rw add-one refl
    by false more = more

-- ---- one more record

abbrev Pick : Type 0
Pick = Option (ℕ × KeyView)

number : (m n : ℕ) → nat_eq m n ≡ true → m ≡ n
number m n h = grind (arith, nat_tests)

flipped : (m n : ℕ) → nat_eq m n ≡ nat_eq n m
flipped m n = grind (arith, nat_tests)

module _ {X : Type 0} (at : X → ℕ) (key : X → KeyView) where
  -- it stands at the version of a place: the versions from there on don't matter any more
  found-from : (vs : List ℕ) (x : X) (xs : List X) (i : ℕ) (d : Pick) → position_from (λ v. nat_eq v (at x)) 0 vs ≡ Some i
      → option_or (first_held at key vs (x ∷ xs)) d ≡ option_or (first_held at key (take i vs) xs) (Some (at x, key x))
  found-from [] x xs i d is = cc
  found-from (v ∷ vs) x xs i d is = by (nat_eq v (at x)) refl (sym (flipped v (at x))) is (found-from vs x xs)
    where
      step : (o : Option KeyView) (j : ℕ) (e : option_or (first_held at key vs (x ∷ xs)) d ≡ option_or (first_held at key (take j vs) xs) (Some (at x, key x)))
          → option_or (at_version v o (first_held at key vs (x ∷ xs))) d ≡ option_or (at_version v o (first_held at key (take j vs) xs)) (Some (at x, key x))
      step None j e = e
      step (Some k) j e = refl

      later : (o : Option ℕ) → position_from (λ v. nat_eq v (at x)) 0 vs ≡ o → option_map suc o ≡ Some i
          → ((j : ℕ) (d : Pick) → position_from (λ v. nat_eq v (at x)) 0 vs ≡ Some j → option_or (first_held at key vs (x ∷ xs)) d ≡ option_or (first_held at key (take j vs) xs) (Some (at x, key x)))
          → option_or (at_version v (first_at at key v xs) (first_held at key vs (x ∷ xs))) d ≡ option_or (first_held at key (take i (v ∷ vs)) xs) (Some (at x, key x))
      later None there is more = cc
      later (Some j) there is more =
          let next : suc j ≡ i = cc in
          subst (λ (n : ℕ). option_or (at_version v (first_at at key v xs) (first_held at key vs (x ∷ xs))) d ≡ option_or (first_held at key (take n (v ∷ vs)) xs) (Some (at x, key x)))
          next (step (first_at at key v xs) j (more j d there))

      by : (b : Bool) → nat_eq v (at x) ≡ b → nat_eq (at x) v ≡ nat_eq v (at x) → cond b (Some 0) (position_from (λ v. nat_eq v (at x)) 1 vs) ≡ Some i
          → ((j : ℕ) (d : Pick) → position_from (λ v. nat_eq v (at x)) 0 vs ≡ Some j → option_or (first_held at key vs (x ∷ xs)) d ≡ option_or (first_held at key (take j vs) xs) (Some (at x, key x)))
          → option_or (at_version v (if nat_eq (at x) v then Some (key x) else first_at at key v xs) (first_held at key vs (x ∷ xs))) d
          ≡ option_or (first_held at key (take i (v ∷ vs)) xs) (Some (at x, key x))
      by true is_b turn is more =
          let zero_is : 0 ≡ i = cc in
          let same : v ≡ at x = number v (at x) is_b in
          let here : nat_eq (at x) v ≡ true = turn ∙ is_b in
          rw (here, ← zero_is, same) refl
      by false is_b turn is more =
          let here : nat_eq (at x) v ≡ false = turn ∙ is_b in
          rw here (later (position_from (λ v. nat_eq v (at x)) 0 vs) refl (sym (shifted (λ v. nat_eq v (at x)) 0 vs) ∙ is) more)

  -- it stands at none of the versions
  none-from : (vs : List ℕ) (x : X) (xs : List X) → position_from (λ v. nat_eq v (at x)) 0 vs ≡ None → first_held at key vs (x ∷ xs) ≡ first_held at key vs xs
  none-from [] x xs is = refl
  none-from (v ∷ vs) x xs is = by (nat_eq v (at x)) refl (sym (flipped v (at x))) is (none-from vs x xs)
    where
      none : (o : Option ℕ) → option_map suc o ≡ None → o ≡ None
      none None h = refl
      none (Some j) h = cc

      by : (b : Bool) → nat_eq v (at x) ≡ b → nat_eq (at x) v ≡ nat_eq v (at x) → cond b (Some 0) (position_from (λ v. nat_eq v (at x)) 1 vs) ≡ None
          → (position_from (λ v. nat_eq v (at x)) 0 vs ≡ None → first_held at key vs (x ∷ xs) ≡ first_held at key vs xs)
          → at_version v (if nat_eq (at x) v then Some (key x) else first_at at key v xs) (first_held at key vs (x ∷ xs))
          ≡ at_version v (first_at at key v xs) (first_held at key vs xs)
      by true is_b turn is more = cc
      by false is_b turn is more =
          let here : nat_eq (at x) v ≡ false = turn ∙ is_b in
          let rest = more (none (position_from (λ v. nat_eq v (at x)) 0 vs) (sym (shifted (λ v. nat_eq v (at x)) 0 vs) ∙ is)) in
          rw here (ap (λ (o : Pick). at_version v (first_at at key v xs) o) rest)

  pub held-found : (vs : List ℕ) (x : X) (xs : List X) (i : ℕ) (d : Pick) → position (λ v. nat_eq v (at x)) vs ≡ Some i
      → option_or (first_held at key vs (x ∷ xs)) d ≡ option_or (first_held at key (take i vs) xs) (Some (at x, key x))
  held-found vs x xs i d is = found-from vs x xs i d (sym (position_from-zero (λ v. nat_eq v (at x)) vs) ∙ is)

  pub held-none : (vs : List ℕ) (x : X) (xs : List X) (d : Pick) → position (λ v. nat_eq v (at x)) vs ≡ None
      → option_or (first_held at key vs (x ∷ xs)) d ≡ option_or (first_held at key vs xs) d
  held-none vs x xs d is = ap (λ (o : Pick). option_or o d) (none-from vs x xs (sym (position_from-zero (λ v. nat_eq v (at x)) vs) ∙ is))

  pub held-nothing : (vs : List ℕ) (d : Pick) → option_or (first_held at key vs []) d ≡ d
  held-nothing [] d = refl
  held-nothing (v ∷ vs) d = held-nothing vs d

  pub first_at-map : {Y : Type 0} (f : Y → X) (v : ℕ) (ys : List Y) → first_at at key v (map f ys) ≡ first_at (λ y. at (f y)) (λ y. key (f y)) v ys
  first_at-map f v [] = refl
  first_at-map f v (y ∷ ys) = ap (λ (o : Option KeyView). if nat_eq (at (f y)) v then Some (key (f y)) else o) (first_at-map f v ys)

  pub first_held-map : {Y : Type 0} (f : Y → X) (vs : List ℕ) (ys : List Y) → first_held at key vs (map f ys) ≡ first_held (λ y. at (f y)) (λ y. key (f y)) vs ys
  first_held-map f [] ys = refl
  first_held-map f (v ∷ vs) ys = rw (first_at-map f v ys, first_held-map f vs ys) refl

  -- a turn of the walk over the records
  pub turn_found : (vs : List ℕ) (left : ℕ) (x : X) (xs : List X) (place : ℕ) (found all : Pick) → place ≤ left → position (λ v. nat_eq v (at x)) (take left vs) ≡ Some place
      → option_or (first_held at key (take left vs) (x ∷ xs)) found ≡ all → option_or (first_held at key (take place vs) xs) (Some (at x, key x)) ≡ all
  turn_found vs left x xs place found all within at_place so_far =
      ap (λ (ws : List ℕ). option_or (first_held at key ws xs) (Some (at x, key x))) (sym (take-take place left vs within))
      ∙ sym (held-found (take left vs) x xs place found at_place) ∙ so_far

  pub turn_none : (vs : List ℕ) (x : X) (xs : List X) (found all : Pick) → position (λ v. nat_eq v (at x)) vs ≡ None
      → option_or (first_held at key vs (x ∷ xs)) found ≡ all → option_or (first_held at key vs xs) found ≡ all
  turn_none vs x xs found all none so_far = sym (held-none vs x xs found none) ∙ so_far
