-- Lists by key and windows, seen through a function that keeps keys, numbers and weights.
use Rattle.std.proofs.Common.{◌≡◌, ℕ, List, [], ◌∷◌, ◌++◌, length, map, None, Some, Bool, true, false, Ordering, Less, Equal, Greater, ap, refl, ◌∙◌, arith, nat_lt, cond}
use Rattle.std.specs.Prelude.{find as first, if◌then◌else◌, option_map, not, ◌&&◌}
use Rattle.std.specs.List.{AllByRecursion as Each}
use Rattle.std.specs.Ordering.{match_ordering}
use Rattle.kube_meta.specs.Key.{KeyView, key_cmp}
use Rattle.kube_meta.specs.Window.{weights, fits, newest, floor_from, RisesFrom}
use Rattle.kube_meta.specs.declared.limits.Limits.{Limits}
use Rattle.record_store.specs.ByKey.{find, put, without}

module _ {X Y : Type 0} (f : X → Y) where
  pub length-seen : (xs : List X) → length (map f xs) ≡ length xs
  length-seen [] = refl
  length-seen (x ∷ xs) = let e = length-seen xs in omega (arith, e)

  pub push-seen : (xs : List X) (x : X) → map f (xs ++ x ∷ []) ≡ map f xs ++ f x ∷ []
  push-seen [] x = refl
  push-seen (y ∷ xs) x = ap (λ (r : List Y). f y ∷ r) (push-seen xs x)

  pub each-seen : (P : Y → Type 0) (xs : List X) → Each (λ x. P (f x)) xs → Each P (map f xs)
  each-seen P [] h = tt
  each-seen P (x ∷ xs) h = (h.0, each-seen P xs h.1)

  pub first-seen : (p : Y → Bool) (xs : List X) → first p (map f xs) ≡ option_map f (first (λ x. p (f x)) xs)
  first-seen p [] = refl
  first-seen p (x ∷ xs) = by (p (f x)) (first-seen p xs)
    where
      by : (b : Bool) → first p (map f xs) ≡ option_map f (first (λ x. p (f x)) xs) → cond b (Some (f x)) (first p (map f xs)) ≡ option_map f (cond b (Some x) (first (λ x. p (f x)) xs))
      by true more = refl
      by false more = more

  module _ (key : Y → KeyView) where
    abbrev here : X → KeyView
    here x = key (f x)

    pub keys-seen : (xs : List X) → map key (map f xs) ≡ map here xs
    keys-seen [] = refl
    keys-seen (x ∷ xs) = ap (λ (r : List KeyView). here x ∷ r) (keys-seen xs)

    pub find-seen : (k : KeyView) (xs : List X) → find key k (map f xs) ≡ option_map f (find here k xs)
    find-seen k [] = refl
    find-seen k (x ∷ xs) = by (key_cmp k (here x)) (find-seen k xs)
      where
        by : (o : Ordering) → find key k (map f xs) ≡ option_map f (find here k xs) → match_ordering o None (Some (f x)) (find key k (map f xs)) ≡ option_map f (match_ordering o None (Some x) (find here k xs))
        by Less more = refl
        by Equal more = refl
        by Greater more = more

    pub put-seen : (y : X) (xs : List X) → map f (put here y xs) ≡ put key (f y) (map f xs)
    put-seen y [] = refl
    put-seen y (x ∷ xs) = by (key_cmp (here y) (here x)) (put-seen y xs)
      where
        by : (o : Ordering) → map f (put here y xs) ≡ put key (f y) (map f xs)
            → map f (match_ordering o (y ∷ x ∷ xs) (y ∷ xs) (x ∷ put here y xs)) ≡ match_ordering o (f y ∷ f x ∷ map f xs) (f y ∷ map f xs) (f x ∷ put key (f y) (map f xs))
        by Less more = refl
        by Equal more = refl
        by Greater more = ap (λ (r : List Y). f x ∷ r) more

    pub without-seen : (k : KeyView) (xs : List X) → map f (without here k xs) ≡ without key k (map f xs)
    without-seen k [] = refl
    without-seen k (x ∷ xs) = by (key_cmp k (here x)) (without-seen k xs)
      where
        by : (o : Ordering) → map f (without here k xs) ≡ without key k (map f xs)
            → map f (match_ordering o (x ∷ xs) xs (x ∷ without here k xs)) ≡ match_ordering o (f x ∷ map f xs) (map f xs) (f x ∷ without key k (map f xs))
        by Less more = refl
        by Equal more = refl
        by Greater more = ap (λ (r : List Y). f x ∷ r) more

  module _ (number weight : Y → ℕ) (limits : Limits) where
    abbrev number_of : X → ℕ
    number_of x = number (f x)

    abbrev weight_of : X → ℕ
    weight_of x = weight (f x)

    pub weights-seen : (xs : List X) → weights weight (map f xs) ≡ weights weight_of xs
    weights-seen [] = refl
    weights-seen (x ∷ xs) = let e = weights-seen xs in omega (arith, e)

    pub fits-seen : (xs : List X) → fits weight limits (map f xs) ≡ fits weight_of limits xs
    fits-seen xs =
        ap (λ (n : ℕ). not (nat_lt limits.window_records n) && not (nat_lt limits.window_chunks (weights weight (map f xs)))) (length-seen xs)
        ∙ ap (λ (w : ℕ). not (nat_lt limits.window_records (length xs)) && not (nat_lt limits.window_chunks w)) (weights-seen xs)

    pub newest-seen : (xs : List X) → newest weight limits (map f xs) ≡ map f (newest weight_of limits xs)
    newest-seen [] = refl
    newest-seen (x ∷ xs) = by (fits weight limits (map f (x ∷ xs))) (fits weight_of limits (x ∷ xs)) (fits-seen (x ∷ xs)) (newest-seen xs)
      where
        by : (b c : Bool) → b ≡ c → newest weight limits (map f xs) ≡ map f (newest weight_of limits xs)
            → (if b then f x ∷ map f xs else newest weight limits (map f xs)) ≡ map f (if c then x ∷ xs else newest weight_of limits xs)
        by true true e more = refl
        by false false e more = more
        by true false e more = cc
        by false true e more = cc

    pub floor-seen : (g : ℕ) (xs : List X) → floor_from number weight limits g (map f xs) ≡ floor_from number_of weight_of limits g xs
    floor-seen g [] = refl
    floor-seen g (x ∷ xs) = by (fits weight limits (map f (x ∷ xs))) (fits weight_of limits (x ∷ xs)) (fits-seen (x ∷ xs)) (floor-seen (number (f x)) xs)
      where
        by : (b c : Bool) → b ≡ c → floor_from number weight limits (number (f x)) (map f xs) ≡ floor_from number_of weight_of limits (number (f x)) xs
            → (if b then g else floor_from number weight limits (number (f x)) (map f xs)) ≡ (if c then g else floor_from number_of weight_of limits (number (f x)) xs)
        by true true e more = refl
        by false false e more = more
        by true false e more = cc
        by false true e more = cc

    pub rises-seen : (g : ℕ) (xs : List X) → RisesFrom number_of g xs → RisesFrom number g (map f xs)
    rises-seen g [] h = tt
    rises-seen g (x ∷ xs) h = (h.0, rises-seen (number (f x)) xs h.1)
