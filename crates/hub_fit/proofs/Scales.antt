-- A factor keeps bounds: products and quotients, and the order of whole numbers.
use Rattle.std.proofs.Common.{◌≡◌, ◌<◌, ◌≤◌, ◌*◌, ◌/◌, ◌-◌, ℕ, zero, suc, ℤ, pos, negsuc, neg_ℤ, ◌*ℤ◌, ◌≤ℤ◌, true, not, ap, sym, subst, ◌⊎◌, inl, inr, arith}
use Rattle.std.specs.Prelude.{int_lt}
use Rattle.std.proofs.Math.Nat.{le-div_iff_mul-le, mul_comm}
use Rattle.std.proofs.lemmas.Int.{ints}
use Rattle.std.proofs.lemmas.Bool.{cases_lt}
use Rattle.hub_cells.specs.Cross.{quotient}

-- ---- a product is at most z exactly where the number is at most the quotient

times_negsuc : (k a : ℕ) → 0 < k → pos k *ℤ negsuc a ≡ negsuc (k * suc a - 1)
times_negsuc k a p = by_product (k * suc a) (omega arith)
  where
    by_product : (m : ℕ) → 0 < m → neg_ℤ (pos m) ≡ negsuc (m - 1)
    by_product zero q = absurd (omega arith)
    by_product (suc m) q = ap negsuc (omega arith)

below_next : (k n a : ℕ) → 0 < k → n / k ≤ a → n < k * suc a
below_next k n a p h = by_case (cases_lt n (k * suc a))
  where
    by_case : (n < k * suc a) ⊎ (k * suc a ≤ n) → n < k * suc a
    by_case (inl q) = q
    by_case (inr q) =
        let c : suc a * k ≡ k * suc a = mul_comm (suc a) k in
        let g : suc a * k ≤ n = omega (arith, q, c) in
        let f : suc a ≤ n / k = (le-div_iff_mul-le p).1 g in
        absurd (omega (arith, h, f))

next_below : (k n a : ℕ) → 0 < k → n < k * suc a → n / k ≤ a
next_below k n a p h = by_case (cases_lt a (n / k))
  where
    by_case : (a < n / k) ⊎ (n / k ≤ a) → n / k ≤ a
    by_case (inr q) = q
    by_case (inl q) =
        let f : suc a ≤ n / k = omega (arith, q) in
        let g : suc a * k ≤ n = (le-div_iff_mul-le p).0 f in
        let c : suc a * k ≡ k * suc a = mul_comm (suc a) k in
        absurd (omega (arith, h, g, c))

pub to_product : (k : ℕ) (m z : ℤ) → 0 < k → m ≤ℤ quotient k z → (pos k *ℤ m) ≤ℤ z
to_product k (pos a) (pos n) p h =
    let e : a ≤ n / k = omega (arith, ints, h) in
    let f : a * k ≤ n = (le-div_iff_mul-le p).0 e in
    omega (arith, ints, f)
to_product k (pos a) (negsuc n) p h = absurd (omega (arith, ints, h))
to_product k (negsuc a) (pos n) p h = rw (times_negsuc k a p) (omega (arith, ints))
to_product k (negsuc a) (negsuc n) p h =
    let e : n / k ≤ a = omega (arith, ints, h) in
    let f : n < k * suc a = below_next k n a p e in
    rw (times_negsuc k a p) (omega (arith, ints, f))

pub to_quotient : (k : ℕ) (m z : ℤ) → 0 < k → (pos k *ℤ m) ≤ℤ z → m ≤ℤ quotient k z
to_quotient k (pos a) (pos n) p h =
    let f : a * k ≤ n = omega (arith, ints, h) in
    let e : a ≤ n / k = (le-div_iff_mul-le p).1 f in
    omega (arith, ints, e)
to_quotient k (pos a) (negsuc n) p h = absurd (omega (arith, ints, h))
to_quotient k (negsuc a) (pos n) p h = omega (arith, ints)
to_quotient k (negsuc a) (negsuc n) p h =
    let g : negsuc (k * suc a - 1) ≤ℤ negsuc n = subst (λ (y : ℤ). y ≤ℤ negsuc n) (times_negsuc k a p) h in
    let q : 0 < k * suc a = omega (arith, p) in
    let f : n < k * suc a = omega (arith, ints, g, q) in
    let e : n / k ≤ a = next_below k n a p f in
    omega (arith, ints, e)

le_refl : (z : ℤ) → z ≤ℤ z
le_refl z = omega (arith, ints)

le_trans : (x y z : ℤ) → x ≤ℤ y → y ≤ℤ z → x ≤ℤ z
le_trans x y z h g = omega (arith, ints, h, g)

pub products_rise : (k : ℕ) (m z : ℤ) → 0 < k → quotient k (pos k *ℤ z) ≡ z → m ≤ℤ z → (pos k *ℤ m) ≤ℤ (pos k *ℤ z)
products_rise k m z p e h = to_product k m (pos k *ℤ z) p (subst (λ (y : ℤ). m ≤ℤ y) (sym e) h)

pub quotients_rise : (k : ℕ) (y z : ℤ) → 0 < k → y ≤ℤ z → quotient k y ≤ℤ quotient k z
quotients_rise k y z p h =
    to_quotient k (quotient k y) z p (le_trans (pos k *ℤ quotient k y) y z (to_product k (quotient k y) y p (le_refl (quotient k y))) h)

-- ---- tests

pub not_less : (x y : ℤ) → not (int_lt x y) ≡ true → y ≤ℤ x
not_less x y h = grind (arith, ints)

pub less_not : (x y : ℤ) → y ≤ℤ x → not (int_lt x y) ≡ true
less_not x y h = grind (arith, ints)
