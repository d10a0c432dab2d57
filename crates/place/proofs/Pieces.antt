-- The pieces of a path, cut at its first slash.
use Rattle.std.proofs.Common.{◌≡◌, ◌≢◌, ◌==◌, ℕ, zero, suc, ◌<◌, Bool, true, false, cond, List, [], ◌∷◌, ◌++◌, length, get_or, Option, None, Some, MatchOption, refl, ap, sym, ◌∙◌, arith}
use Rattle.std.specs.Borrow.{Bor}
use Rattle.std.specs.List.{onto_first}
use Rattle.std.proofs.lemmas.Bool.Decides.{nat_tests}
use Rattle.std.proofs.lemmas.Str.Pattern.{IsSplitOnceResult, split_parts}
use Rattle.place.specs.Place.{pieces, slash}

-- no byte is a slash
abbrev pub HasNoSlash : List ℕ → Type 0
HasNoSlash xs = (i : ℕ) → i < length xs → get_or xs i 0 ≢ slash

other_test : (b : ℕ) → b ≢ slash → (b == slash) ≡ false
other_test b other = grind (arith, nat_tests)

later : (b : ℕ) (bs : List ℕ) → HasNoSlash (b ∷ bs) → HasNoSlash bs
later b bs clean i within = clean (suc i) (omega arith)

-- a path without a slash is one piece
pub no_slash : (xs : List ℕ) → HasNoSlash xs → pieces xs ≡ xs ∷ []
no_slash [] clean = refl
no_slash (b ∷ bs) clean =
    let other : (b == slash) ≡ false = other_test b (clean 0 (omega arith)) in
    rw (other, no_slash bs (later b bs clean)) refl

-- the piece before the first slash, and the pieces behind it
pub first_slash : (xs ys : List ℕ) → HasNoSlash xs → pieces (xs ++ slash ∷ ys) ≡ xs ∷ pieces ys
first_slash [] ys clean = refl
first_slash (b ∷ bs) ys clean =
    let other : (b == slash) ≡ false = other_test b (clean 0 (omega arith)) in
    rw (other, first_slash bs ys (later b bs clean)) refl

-- what a cut finds
pub cut_is : (bs : List ℕ) (r : Option (Bor (List ℕ) × Bor (List ℕ))) → IsSplitOnceResult slash bs r
    → MatchOption r (pieces bs ≡ bs ∷ []) (λ p. pieces bs ≡ p.0.now ∷ pieces p.1.now)
cut_is bs r is = by_result r (split_parts slash bs r is (omega arith))
  where
    by_result : (r : Option (Bor (List ℕ) × Bor (List ℕ)))
        → MatchOption r (HasNoSlash bs) (λ x. (bs ≡ x.0.now ++ (slash ∷ x.1.now)) × HasNoSlash x.0.now)
        → MatchOption r (pieces bs ≡ bs ∷ []) (λ p. pieces bs ≡ p.0.now ∷ pieces p.1.now)
    by_result None clean = no_slash bs clean
    by_result (Some p) found = ap pieces found.0 ∙ first_slash p.0.now p.1.now found.1

-- there is always a piece
pub some_piece : (bs : List ℕ) → pieces bs ≡ [] → ⊥
some_piece [] e = cc
some_piece (b ∷ bs) e = by_test (b == slash) (pieces bs) e
  where
    by_test : (t : Bool) (ps : List (List ℕ)) → cond t ([] ∷ ps) (onto_first b ps) ≡ [] → ⊥
    by_test true ps e = cc
    by_test false [] e = cc
    by_test false (p ∷ ps) e = cc

-- six pieces aren't five
pub too_many : (path a b d e f : List ℕ) (ra rb rd re rf : List ℕ) (v w x y z : List ℕ)
    → pieces path ≡ a ∷ pieces ra → pieces ra ≡ b ∷ pieces rb → pieces rb ≡ d ∷ pieces rd → pieces rd ≡ e ∷ pieces re → pieces re ≡ f ∷ pieces rf
    → pieces path ≡ v ∷ w ∷ x ∷ y ∷ z ∷ [] → ⊥
too_many path a b d e f ra rb rd re rf v w x y z p q r s t five = some_piece rf cc
