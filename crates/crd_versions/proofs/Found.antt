-- What holds of the numbers below a number, and of that number, holds below the next.
use Rattle.std.proofs.Common.{◌≡◌, ℕ, suc, ◌+◌, ◌<◌, Bool, true, false, nat_eq, refl, subst, sym, arith}
use Rattle.std.proofs.lemmas.Bool.Decides.{Decides-eqb, nat_tests}

pub one_more : (P : ℕ → Type 0) (v : ℕ) → ((u : ℕ) → u < v → P u) → P v → (u : ℕ) → u < 1 + v → P u
one_more P v before here u h = by_test (nat_eq u v) refl
  where
    by_test : (b : Bool) → nat_eq u v ≡ b → P u
    by_test true q = subst P (sym ((Decides-eqb u v).0 q)) here
    by_test false q = before u (grind (arith, nat_tests))
