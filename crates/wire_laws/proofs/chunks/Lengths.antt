-- The decimal text of a length is a length of a head.
use Rattle.std.proofs.Common.{◌≡◌, ◌≢◌, ℕ, ◌^◌, ◌<◌, ◌≤◌, List, [], ◌∷◌, length, reverse, IsTrue, Some, Bool, true, false, sym, refl, arith, lit<, true≢false}
use Rattle.std.specs.Prelude.{◌&&◌, ◌==◌, decimal, nat_le}
use Rattle.std.specs.Int.{IsInRange}
use Rattle.std.specs.Char.{is_ascii_digit}
use Rattle.std.specs.List.{list_all}
use Rattle.std.specs.Str.Parse.{digits_value}
use Rattle.std.proofs.lemmas.Bool.{le-leb}
use Rattle.std.proofs.lemmas.Bool.Decides.{nat_tests}
use Rattle.std.proofs.lemmas.List.Elements.{All-head}
use Rattle.std.proofs.lemmas.List.Sums.{AllPass-from_list_all}
use Rattle.std.proofs.lemmas.Fmt.{decimal_nonempty, length-decimal-le, digits_decimal, digits_value-decimal}
use Rattle.std.proofs.lemmas.Str.Parse.{IsDigitsTest, IsNumeralModel, numerals_by_value}
use Rattle.httparse.specs.Grammar.{AllPass, is_ows, is_value_byte, skip_ows, trim_ows}
use Rattle.httparse.proofs.TrimLemmas.{AllPass-reverse, trim_ows_space}
use Rattle.http_wire.specs.declared.limits.TheConstants.{MOST_BODY_BYTES}
use Rattle.http_wire.specs.Fields.{length_in}

both : (a b : Bool) → (a && b) ≡ true → (a ≡ true) × (b ≡ true)
both true true e = (refl, refl)
both true false e = absurd (true≢false (sym e))
both false b e = absurd (true≢false (sym e))

abbrev AreDigits : List ℕ → Type 0
AreDigits ds = list_all is_ascii_digit ds ≡ true

in_range : (c : ℕ) → is_ascii_digit c ≡ true → IsInRange 48 57 c
in_range c e = let k = both (nat_le 48 c) (nat_le c 57) e in let low : 48 ≤ c = grind (arith, nat_tests) in let high : c ≤ 57 = grind (arith, nat_tests) in (low, high)

range_in : (c : ℕ) → IsInRange 48 57 c → is_ascii_digit c ≡ true
range_in c k = let low : nat_le 48 c ≡ true = grind (arith, nat_tests) in let high : nat_le c 57 ≡ true = grind (arith, nat_tests) in rw (low, high) refl

tells : IsDigitsTest AreDigits
tells = record {
  empty = refl;
  parts = λ c cs e. (let k = both (is_ascii_digit c) (list_all is_ascii_digit cs) e in (in_range c k.0, k.1));
  more = λ c cs k e. rw (range_in c k) e;
}

own : IsNumeralModel AreDigits (digits_value 10)
own = numerals_by_value AreDigits tells

within : (n : ℕ) → n ≤ MOST_BODY_BYTES → n < 2 ^ 64
within n h = omega arith

few : (n : ℕ) → n ≤ MOST_BODY_BYTES → n < 10 ^ 18
few n h = omega arith

-- a digit is no white space
skip_digits : (ds : List ℕ) → AllPass is_ascii_digit ds → skip_ows ds ≡ ds
skip_digits [] are = refl
skip_digits (d ∷ ds) are =
    let r = in_range d (All-head (λ v. is_ascii_digit v ≡ true) d ds are) in
    let not : is_ows d ≡ false = grind (arith, nat_tests, r.0, r.1) in
    rw not refl

digits_pass : (n : ℕ) → n ≤ MOST_BODY_BYTES → AllPass is_ascii_digit (decimal n)
digits_pass n h = AllPass-from_list_all is_ascii_digit (decimal n) (digits_decimal own n (within n h))

-- the value of the field that is written
pub trimmed : (n : ℕ) → n ≤ MOST_BODY_BYTES → trim_ows (32 ∷ decimal n) ≡ decimal n
trimmed n h =
    let pass = digits_pass n h in
    trim_ows_space (decimal n) (skip_digits (decimal n) pass) (skip_digits (reverse (decimal n)) (AllPass-reverse is_ascii_digit (decimal n) pass))

pub length_is : (n : ℕ) → n ≤ MOST_BODY_BYTES → length_in (decimal n) ≡ Some n
unfolding length_in
length_is n h =
    let some : nat_le 1 (length (decimal n)) ≡ true = le-leb 1 (length (decimal n)) (decimal_nonempty n (within n h)) in
    let most : nat_le (length (decimal n)) 18 ≡ true = le-leb (length (decimal n)) 18 (length-decimal-le 18 n (lit< tt) (few n h) (within n h)) in
    rw (some, most, digits_decimal own n (within n h), digits_value-decimal own n (within n h)) refl

pub within_body : (n : ℕ) → n ≤ MOST_BODY_BYTES → nat_le n MOST_BODY_BYTES ≡ true
within_body n h = le-leb n MOST_BODY_BYTES h

-- its bytes are those of a value
pub value_bytes : (n : ℕ) → n ≤ MOST_BODY_BYTES → list_all is_ascii_digit (decimal n) ≡ true
value_bytes n h = digits_decimal own n (within n h)

pub digit_is_value : (b : ℕ) → IsTrue (is_ascii_digit b) → IsTrue (is_value_byte b)
digit_is_value b is =
    let r = in_range b is in
    let low : nat_le 32 b ≡ true = le-leb 32 b (omega (arith, r.0)) in
    let not : (b == 127) ≡ false = grind (arith, nat_tests, r.1) in
    let tab : (b == 9) ≡ false = grind (arith, nat_tests, r.0) in
    rw (low, not, tab) refl
