-- A number as the value of Content-Length.
use Rattle.std.proofs.Common.{◌≡◌, ◌∙◌, refl, sym, ap, ℕ, ◌+◌, ◌%◌, ◌^◌, ◌<◌, ◌≤◌, Bool, true, false, ◌&&◌, nat_le, IsTrue, List, [], ◌∷◌, ◌++◌, length, reverse, Some, decimal, arith}
use Rattle.std.specs.List.{list_all}
use Rattle.std.specs.Char.{is_ascii_digit}
use Rattle.std.proofs.lemmas.Bool.{and_parts, and_from, cond-false, le-leb}
use Rattle.std.proofs.lemmas.Bool.Decides.{nat_tests}
use Rattle.std.proofs.lemmas.List.{reverse-append}
use Rattle.std.proofs.lemmas.List.Elements.{All-cons, All-nil}
use Rattle.std.proofs.lemmas.List.Folds.{list_all-append}
use Rattle.std.proofs.lemmas.Fmt.{decimal_by_steps, decimal_is_IsNumeral, length-decimal-le}
use Rattle.httparse.specs.Grammar.{AllPass, is_ows, is_value_byte, skip_ows, trim_ows}
use Rattle.httparse.proofs.TrimLemmas.{trim_ows_space}
use Rattle.http_wire.specs.declared.limits.TheConstants.{MOST_LENGTH_DIGITS}
use Rattle.http_wire.specs.Fields.{length_in}

-- a test that each byte passes
pub passes : (test : ℕ → Bool) (v : List ℕ) → list_all test v ≡ true → AllPass test v
passes test [] all = All-nil (λ b. IsTrue (test b))
passes test (b ∷ bs) all =
    let both = and_parts (test b) (list_all test bs) all in
    All-cons (λ c. IsTrue (test c)) b bs both.0 (passes test bs both.1)

-- a test that is weaker
pub weaker : (strong weak : ℕ → Bool) → ((b : ℕ) → strong b ≡ true → weak b ≡ true) → (v : List ℕ) → list_all strong v ≡ true → list_all weak v ≡ true
weaker strong weak implies [] all = refl
weaker strong weak implies (b ∷ bs) all =
    let both = and_parts (strong b) (list_all strong bs) all in
    and_from (weak b) (list_all weak bs) (implies b both.0) (weaker strong weak implies bs both.1)

reversed : (test : ℕ → Bool) (v : List ℕ) → list_all test v ≡ true → list_all test (reverse v) ≡ true
reversed test [] all = refl
reversed test (b ∷ bs) all =
    let both = and_parts (test b) (list_all test bs) all in
    let front = reversed test bs both.1 in
    let last : list_all test (b ∷ []) ≡ true = and_from (test b) true both.0 refl in
    ap (list_all test) (reverse-append (b ∷ []) bs) ∙ list_all-append test (reverse bs) (b ∷ []) ∙ and_from _ _ front last

digit : (n : ℕ) → n < 10 → is_ascii_digit (48 + n) ≡ true
digit n small = grind (arith, nat_tests)

-- a decimal number has only digits
pub all_digits : (n : ℕ) → n < 2 ^ 64 → list_all is_ascii_digit (decimal n) ≡ true
all_digits = decimal_by_steps (λ n ds. list_all is_ascii_digit ds ≡ true)
    (λ n small. and_from _ _ (digit n small) refl)
    (λ n ds large all. list_all-append is_ascii_digit ds _ ∙ and_from _ _ all (and_from _ _ (digit (n % 10) (omega arith)) refl))

not_blank : (b : ℕ) → is_ascii_digit b ≡ true → is_ows b ≡ false
not_blank b is = grind (arith, nat_tests)

value_byte : (b : ℕ) → is_ascii_digit b ≡ true → is_value_byte b ≡ true
value_byte b is = grind (arith, nat_tests)

unskipped : (v : List ℕ) → list_all is_ascii_digit v ≡ true → skip_ows v ≡ v
unskipped [] all = refl
unskipped (b ∷ bs) all =
    let both = and_parts (is_ascii_digit b) (list_all is_ascii_digit bs) all in
    cond-false (is_ows b) (skip_ows bs) (b ∷ bs) (not_blank b both.0)

-- the number behind the space of its field
pub trimmed : (n : ℕ) → n < 2 ^ 64 → trim_ows (32 ∷ decimal n) ≡ decimal n
trimmed n small =
    let all = all_digits n small in
    trim_ows_space (decimal n) (unskipped (decimal n) all) (unskipped (reverse (decimal n)) (reversed is_ascii_digit (decimal n) all))

pub raw_bytes : (n : ℕ) → n < 2 ^ 64 → AllPass is_value_byte (32 ∷ decimal n)
raw_bytes n small = passes is_value_byte (32 ∷ decimal n) (weaker is_ascii_digit is_value_byte value_byte (decimal n) (all_digits n small))

-- the number that is read
pub length_is : (n : ℕ) → n < 10 ^ 18 → length_in (decimal n) ≡ Some n
unfolding length_in
length_is n small =
    let numeral = decimal_is_IsNumeral n (omega arith) in
    let some : nat_le 1 (length (decimal n)) ≡ true = le-leb 1 (length (decimal n)) numeral.0.0 in
    let few : nat_le (length (decimal n)) MOST_LENGTH_DIGITS ≡ true = le-leb (length (decimal n)) 18 (length-decimal-le 18 n (omega arith) small (omega arith)) in
    rw (some, few, all_digits n (omega arith), numeral.1) refl
