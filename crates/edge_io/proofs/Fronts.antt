use Rattle.std.proofs.Common.{◌≡◌, ℕ, ◌+◌, List, ◌++◌, take, drop, Some, ap, refl}
use Rattle.std.proofs.lemmas.List.{drop-drop, take-append-drop}

-- what was left is what was copied, and then what is left
pub copied_front : (xs ys into : List ℕ) (at n : ℕ) → ys ≡ drop at xs
    → take n into ≡ take n ys
    → Some (drop at xs) ≡ Some (take n into ++ drop (at + n) xs)
copied_front xs ys into at n same copied =
    ap (λ (zs : List ℕ). Some zs) (rw (copied, same, ← drop-drop n at xs, take-append-drop) refl)
