-- What the fields of a head say of its body, where one length stands in the place of another field.
use Rattle.std.proofs.Common.{◌≡◌, ◌≢◌, ℕ, suc, ◌+◌, ◌-◌, ◌<◌, Bool, true, false, ◌||◌, List, [], ◌∷◌, ◌++◌, length, refl, arith, true≢false}
use Rattle.std.specs.Str.{str_eq_ignore_ascii_case}
use Rattle.http_wire.specs.Fields.{Fields, values}
use Rattle.chunked_bodies.specs.Response.{Pair, at, frames, tells_coding, tells_length}

-- no field of that name
abbrev pub HasNone : List ℕ → Fields → Type 0
HasNone name fs = (i : ℕ) → i < length fs → str_eq_ignore_ascii_case (at fs i).0 name ≡ false

pub values_none : (name : List ℕ) (fs : Fields) → HasNone name fs → values name fs ≡ []
unfolding values
values_none name [] none = refl
values_none name (f ∷ fs) none =
    rw (none 0 (omega arith)) (values_none name fs (λ i inside. none (suc i) (omega (arith, inside))))

-- where no field before has the name, the values are those of the fields behind
pub values_behind : (name : List ℕ) (fs gs : Fields) → HasNone name fs → values name (fs ++ gs) ≡ values name gs
unfolding values
values_behind name [] gs none = refl
values_behind name (f ∷ fs) gs none =
    rw (none 0 (omega arith)) (values_behind name fs gs (λ i inside. none (suc i) (omega (arith, inside))))

pub neither : (p : Pair) → frames p ≡ false → (tells_coding p ≡ false) × (tells_length p ≡ false)
unfolding frames
neither p e = both (tells_coding p) (tells_length p) e
  where
    both : (a b : Bool) → (a || b) ≡ false → (a ≡ false) × (b ≡ false)
    both true b e = absurd (true≢false e)
    both false b e = (refl, e)
