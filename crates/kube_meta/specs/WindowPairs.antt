-- Two lists whose records pair, with the same numbers and weights, have the same floor and windows that pair.
use Rattle.std.proofs.Common.{◌≡◌, ℕ, List, [], ◌∷◌, Bool, true, false, ap, refl, ◌∙◌, arith, length, nat_lt}
use Rattle.std.specs.Prelude.{if◌then◌else◌, ◌&&◌, not}
use Rattle.kube_meta.specs.declared.limits.Limits.{Limits}
use Rattle.kube_meta.specs.Window.{weights, fits, newest, floor_from}

abbrev pub AllPair : {X Y : Type 0} → (X → Y → Type 0) → List X → List Y → Type 0
AllPair R [] [] = Unit {0}
AllPair R (x ∷ xs) (y ∷ ys) = R x y × AllPair R xs ys
AllPair R [] (y ∷ ys) = ⊥
AllPair R (x ∷ xs) [] = ⊥

module _ {X Y : Type 0} (R : X → Y → Type 0) (nx wx : X → ℕ) (ny wy : Y → ℕ) (number : (x : X) (y : Y) → R x y → nx x ≡ ny y) (weight : (x : X) (y : Y) → R x y → wx x ≡ wy y) (limits : Limits) where
  same_length : (xs : List X) (ys : List Y) → AllPair R xs ys → length xs ≡ length ys
  same_length [] [] p = refl
  same_length (x ∷ xs) (y ∷ ys) p = let e = same_length xs ys p.1 in omega (arith, e)
  same_length [] (y ∷ ys) p = absurd p
  same_length (x ∷ xs) [] p = absurd p

  same_weights : (xs : List X) (ys : List Y) → AllPair R xs ys → weights wx xs ≡ weights wy ys
  same_weights [] [] p = refl
  same_weights (x ∷ xs) (y ∷ ys) p = let e = same_weights xs ys p.1 in let w = weight x y p.0 in omega (arith, e, w)
  same_weights [] (y ∷ ys) p = absurd p
  same_weights (x ∷ xs) [] p = absurd p

  same_fits : (xs : List X) (ys : List Y) → AllPair R xs ys → fits wx limits xs ≡ fits wy limits ys
  same_fits xs ys p =
      ap (λ (n : ℕ). not (nat_lt limits.window_records n) && not (nat_lt limits.window_chunks (weights wx xs))) (same_length xs ys p)
      ∙ ap (λ (w : ℕ). not (nat_lt limits.window_records (length ys)) && not (nat_lt limits.window_chunks w)) (same_weights xs ys p)

  pub newest-pair : (xs : List X) (ys : List Y) → AllPair R xs ys → AllPair R (newest wx limits xs) (newest wy limits ys)
  newest-pair [] [] p = tt
  newest-pair [] (y ∷ ys) p = absurd p
  newest-pair (x ∷ xs) [] p = absurd p
  newest-pair (x ∷ xs) (y ∷ ys) p = by (fits wx limits (x ∷ xs)) (fits wy limits (y ∷ ys)) (same_fits (x ∷ xs) (y ∷ ys) p) (newest-pair xs ys p.1)
    where
      by : (b c : Bool) → b ≡ c → AllPair R (newest wx limits xs) (newest wy limits ys) → AllPair R (if b then x ∷ xs else newest wx limits xs) (if c then y ∷ ys else newest wy limits ys)
      by true true e more = p
      by false false e more = more
      by true false e more = cc
      by false true e more = cc

  pub floor_from-pair : (f : ℕ) (xs : List X) (ys : List Y) → AllPair R xs ys → floor_from nx wx limits f xs ≡ floor_from ny wy limits f ys
  floor_from-pair f [] [] p = refl
  floor_from-pair f [] (y ∷ ys) p = absurd p
  floor_from-pair f (x ∷ xs) [] p = absurd p
  floor_from-pair f (x ∷ xs) (y ∷ ys) p =
      by (fits wx limits (x ∷ xs)) (fits wy limits (y ∷ ys)) (same_fits (x ∷ xs) (y ∷ ys) p)
      (floor_from-pair (nx x) xs ys p.1 ∙ ap (λ (g : ℕ). floor_from ny wy limits g ys) (number x y p.0))
    where
      by : (b c : Bool) → b ≡ c → floor_from nx wx limits (nx x) xs ≡ floor_from ny wy limits (ny y) ys
          → (if b then f else floor_from nx wx limits (nx x) xs) ≡ (if c then f else floor_from ny wy limits (ny y) ys)
      by true true e more = refl
      by false false e more = more
      by true false e more = cc
      by false true e more = cc
