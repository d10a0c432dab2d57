-- Numbers of connections.
use Rattle.std.proofs.Common.{◌≡◌, ℕ, ◌+◌, ◌<◌, List, [], ◌∷◌, ◌++◌, length, zero, suc, get_or, refl, ap, ◌∙◌, arith}
use Rattle.edge_io.specs.Connections.{Origin, NumbersDiffer}
use Rattle.edge_io.specs.MemoryEars.{numbered}

abbrev origin : ℕ → List ℕ → Origin
origin n bytes = record { number = n; bytes = bytes }

-- one more has the next number
pub numbered-append : (n : ℕ) (xs : List (List ℕ)) (x : List ℕ)
    → numbered n (xs ++ x ∷ []) ≡ numbered n xs ++ origin (n + length xs) x ∷ []
numbered-append n [] x = ap (λ k. origin k x ∷ []) (omega arith)
numbered-append n (y ∷ ys) x =
    ap (λ os. origin n y ∷ os) (numbered-append (n + 1) ys x ∙ ap (λ k. numbered (n + 1) ys ++ origin k x ∷ []) (omega arith))

-- and where the numbers begin with 0, that is how many there were
pub numbered-next : (xs : List (List ℕ)) (x : List ℕ)
    → numbered 0 (xs ++ x ∷ []) ≡ numbered 0 xs ++ origin (length xs) x ∷ []
numbered-next xs x = numbered-append 0 xs x ∙ ap (λ k. numbered 0 xs ++ origin k x ∷ []) (omega arith)

length-numbered : (n : ℕ) (xs : List (List ℕ)) → length (numbered n xs) ≡ length xs
length-numbered n [] = refl
length-numbered n (x ∷ xs) = rw (length-numbered (n + 1) xs) refl

number_at : (n : ℕ) (xs : List (List ℕ)) (i : ℕ) (d : Origin) → i < length (numbered n xs) → (get_or (numbered n xs) i d).number ≡ n + i
number_at n [] i d h = absurd (omega arith)
number_at n (x ∷ xs) zero d h = omega arith
number_at n (x ∷ xs) (suc i) d h = number_at (n + 1) xs i d (omega arith) ∙ omega arith

-- no two of them have one number
pub numbers_differ : (n : ℕ) (xs : List (List ℕ)) → NumbersDiffer (numbered n xs)
numbers_differ n xs i j d before within same =
    omega (arith, same, number_at n xs i d (omega arith), number_at n xs j d within)
