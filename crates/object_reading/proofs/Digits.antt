-- The test of a text decides whether it is the decimal text of a number.
use Rattle.std.proofs.Common.{◌≡◌, ◌∙◌, ℕ, ◌^◌, ◌<◌, List, Decides, ap, sym, subst}
use Rattle.std.specs.Prelude.{decimal}
use Rattle.std.specs.Str.Parse.{digits_value}
use Rattle.std.proofs.lemmas.Fmt.{decimal_is_IsNumeral}
use Rattle.std.proofs.lemmas.Slice.Eq.{bytes_eq-Decides}
use Rattle.std.proofs.lemmas.Bool.Decides.{Decides-and, Decides-ltb, Decides-like}
use Rattle.object_reading.specs.Numbers.{is_number, HasNumber}

there : (s : List ℕ) → (digits_value 10 s < 2 ^ 64) × (decimal (digits_value 10 s) ≡ s) → HasNumber s
there s h = (digits_value 10 s, h.0, h.1)

back : (s : List ℕ) → HasNumber s → (digits_value 10 s < 2 ^ 64) × (decimal (digits_value 10 s) ≡ s)
back s h =
    let value : digits_value 10 s ≡ h.0 = ap (digits_value 10) (sym h.2) ∙ (decimal_is_IsNumeral h.0 h.1).1 in
    (subst (λ (n : ℕ). n < 2 ^ 64) (sym value) h.1, ap decimal value ∙ h.2)

pub is_number-Decides : (s : List ℕ) → Decides (is_number s) (HasNumber s)
unfolding is_number
is_number-Decides s =
    Decides-like _ (there s) (back s) (Decides-and _ _ (Decides-ltb (digits_value 10 s) (2 ^ 64)) (bytes_eq-Decides (decimal (digits_value 10 s)) s))
