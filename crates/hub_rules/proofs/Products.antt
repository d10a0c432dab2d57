-- The product of a factor and a number of 64 bits has 128 bits.
use Rattle.std.proofs.Common.{◌≤◌, ◌^◌, ℕ, ℤ, pos, ◌*ℤ◌, FitsSigned, lit<, arith}
use Rattle.std.specs.Int.{w64, w128}
use Rattle.std.proofs.lemmas.Int.{ints, fits_signed_mul}

pub product_fits : (k : ℕ) (z : ℤ) → k ≤ 1000000000 → FitsSigned w64 z → FitsSigned w128 (pos k *ℤ z)
product_fits k z p q = fits_signed_mul w128 (pos k) z 1000000000 (2 ^ 63) p (omega (arith, ints, q)) (lit< tt)
