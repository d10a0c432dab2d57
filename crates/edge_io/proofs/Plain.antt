-- Texts that JSON spells as they stand.
use Rattle.std.proofs.Common.{◌≡◌, ◌==◌, ℕ, ◌≤◌, ◌<◌, lit≤, lit<, List, [], ◌∷◌, ◌++◌, Bool, true, false, refl, ap, sym, subst, arith}
use Rattle.std.specs.Prelude.{codes, flat_map, nat_le, nat_lt, if◌then◌else◌}
use Rattle.std.specs.Char.{is_ascii_digit}
use Rattle.std.proofs.lemmas.Bool.{and_from, and_parts}
use Rattle.std.proofs.lemmas.Bool.Decides.{nat_tests}
use Rattle.kj_value.specs.Text.{escaped_byte}
use Rattle.edge_io.specs.Stamps.{fits_byte, fits_form, HasStampForm}

-- bytes from the hyphen to the capital letter Z
abbrev pub ArePlain : List ℕ → Type 0
ArePlain [] = Unit {0}
ArePlain (x ∷ xs) = (45 ≤ x) × (x < 91) × ArePlain xs

other : (x n : ℕ) → n < 45 → 45 ≤ x → (x == n) ≡ false
other x n small large = grind (arith, nat_tests)

past : (x n : ℕ) → x < n → (x == n) ≡ false
past x n small = grind (arith, nat_tests)

above : (x : ℕ) → 45 ≤ x → nat_lt x 32 ≡ false
above x large = grind (arith, nat_tests)

plain_byte : (x : ℕ) → 45 ≤ x → x < 91 → escaped_byte x ≡ x ∷ []
plain_byte x low high =
    rw (other x 34 (omega arith) low, past x 92 (omega (arith, high)), other x 8 (omega arith) low, other x 9 (omega arith) low, other x 10 (omega arith) low, other x 12 (omega arith) low, other x 13 (omega arith) low, above x low) refl

pub flat_plain : (xs : List ℕ) → ArePlain xs → flat_map escaped_byte xs ≡ xs
flat_plain [] h = refl
flat_plain (x ∷ xs) h =
    subst (λ (bs : List ℕ). bs ++ flat_map escaped_byte xs ≡ x ∷ xs) (sym (plain_byte x h.0 h.1)) (ap (λ (t : List ℕ). x ∷ t) (flat_plain xs h.2))

digit_range : (x : ℕ) → is_ascii_digit x ≡ true → (48 ≤ x) × (x < 58)
digit_range x is =
    let p = and_parts (nat_le 48 x) (nat_le x 57) is in
    let low : nat_le 48 x ≡ true = p.0 in
    let high : nat_le x 57 ≡ true = p.1 in
    (grind (arith, nat_tests), grind (arith, nat_tests))

pub is_digit : (x : ℕ) → (48 ≤ x) × (x < 58) → is_ascii_digit x ≡ true
is_digit x d =
    let low : 48 ≤ x = d.0 in
    let high : x < 58 = d.1 in
    and_from (nat_le 48 x) (nat_le x 57) (grind (arith, nat_tests)) (grind (arith, nat_tests))

-- what fits a plain byte is plain
plain_there : (form byte : ℕ) → 45 ≤ form → form < 91 → fits_byte form byte ≡ true → (45 ≤ byte) × (byte < 91)
plain_there form byte low high fits = by (form == 48) fits
  where
    by : (b : Bool) → (if b then is_ascii_digit byte else byte == form) ≡ true → (45 ≤ byte) × (byte < 91)
    by true is = let d = digit_range byte is in (omega (arith, d.0), omega (arith, d.1))
    by false is = let same : byte ≡ form = grind (arith, nat_tests) in (omega (arith, same), omega (arith, same))

plain_throughout : (form text : List ℕ) → ArePlain form → fits_form form text ≡ true → ArePlain text
plain_throughout [] [] plain fits = tt
plain_throughout [] (b ∷ bs) plain fits = cc
plain_throughout (f ∷ fs) [] plain fits = cc
plain_throughout (f ∷ fs) (b ∷ bs) plain fits =
    let parts = and_parts (fits_byte f b) (fits_form fs bs) fits in
    let here = plain_there f b plain.0 plain.1 parts.0 in
    (here.0, here.1, plain_throughout fs bs plain.2 parts.1)

form_plain : ArePlain (codes "0000-00-00T00:00:00Z")
form_plain = (lit≤ tt, lit< tt, (lit≤ tt, lit< tt, (lit≤ tt, lit< tt, (lit≤ tt, lit< tt, (lit≤ tt, lit< tt, (lit≤ tt, lit< tt, (lit≤ tt, lit< tt, (lit≤ tt, lit< tt, (lit≤ tt, lit< tt, (lit≤ tt, lit< tt, (lit≤ tt, lit< tt, (lit≤ tt, lit< tt, (lit≤ tt, lit< tt, (lit≤ tt, lit< tt, (lit≤ tt, lit< tt, (lit≤ tt, lit< tt, (lit≤ tt, lit< tt, (lit≤ tt, lit< tt, (lit≤ tt, lit< tt, (lit≤ tt, lit< tt, tt))))))))))))))))))))

-- JSON spells a stamp as it stands
pub stamp_plain : (text : List ℕ) → HasStampForm text → flat_map escaped_byte text ≡ text
stamp_plain text form = flat_plain text (plain_throughout (codes "0000-00-00T00:00:00Z") text form_plain form)
