-- What is told of exchanges while they are made.
use Rattle.std.specs.Prelude.{◌≡◌, ◌⊎◌, ℕ, Bool, false, List, ◌∷◌, ◌++◌, Option, None, Some, IsTrue, MatchOption, codes, decimal}
use Rattle.edge_io.specs.Sends.{AddsSome}

-- the number of exchanges, at the beginning of the line
abbrev pub progress : ℕ → List ℕ
progress n = 13 ∷ (decimal n ++ codes " exchanges")

-- the line is empty again: its beginning, and what erases the rest of it (ECMA-48, section 8.3.41)
abbrev pub erased : List ℕ
erased = 13 ∷ 27 ∷ codes "[K"

-- nothing was written, or the bytes were, or a front of them
abbrev pub MayAdd : Option (List ℕ) → Option (List ℕ) → List ℕ → Type 0
MayAdd before now bytes = (now ≡ before) ⊎ AddsSome before now bytes

-- where there was a sink it is there still, and those bytes may have been added; where there was none there is none
abbrev pub MayTell : {K : Type 0} → (K → Option (List ℕ)) → Option K → Option K → List ℕ → Type 0
MayTell {K} written before now bytes = MatchOption before (now ≡ None) (λ old. (new : K) × (now ≡ Some new) × MayAdd (written old) (written new) bytes)

-- The sink of a link that is given back is there again. Where something was told on it the line is erased, or a front of that is written, and
-- else it is as it was. Where the link had none, what was there stays.
abbrev pub GivesBack : {K : Type 0} → (K → Option (List ℕ)) → Bool → Option K → Option K → Option K → Type 0
GivesBack {K} written told given before now = MatchOption given (now ≡ before) (λ old. (new : K) × (now ≡ Some new)
    × (IsTrue told → AddsSome (written old) (written new) erased) × (told ≡ false → new ≡ old))
