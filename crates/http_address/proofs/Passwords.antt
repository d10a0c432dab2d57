-- What a URL tells of its password.
use Rattle.std.proofs.Common.{◌≡◌, ℕ, Bool, true, false, List, [], ◌∷◌, None, Some, refl, arith, if◌then◌else◌}
use Rattle.std.specs.Prelude.{◌==◌}
use Rattle.std.proofs.lemmas.Bool.Decides.{nat_tests}
use Rattle.url.specs.Input.{is_empty}

-- no password is an empty one
pub no_password : (p : List ℕ) → (if is_empty p then None else Some p) ≡ None → p ≡ []
no_password [] e = refl
no_password (b ∷ bs) e =
    let filled : is_empty (b ∷ bs) ≡ false = grind (arith, nat_tests) in
    by_test (is_empty (b ∷ bs)) filled e
  where
    by_test : (t : Bool) → t ≡ false → (if t then None else Some (b ∷ bs)) ≡ None → b ∷ bs ≡ []
    by_test true p q = absurd (cc)
    by_test false p q = absurd (cc)
