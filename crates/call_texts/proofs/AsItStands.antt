-- Texts that JSON spells as they stand: a number, and a uid.
use Rattle.std.proofs.Common.{◌≡◌, ◌==◌, ℕ, zero, suc, ◌+◌, ◌-◌, ◌*◌, ◌/◌, ◌%◌, ◌≤◌, ◌<◌, ◌^◌, List, [], ◌∷◌, ◌++◌, Bool, true, false, refl, ap, sym, subst, arith}
use Rattle.std.proofs.lemmas.Bool.Decides.{nat_tests}
use Rattle.std.proofs.lemmas.Fmt.{decimal_by_steps}
use Rattle.std.specs.Prelude.{decimal, flat_map, nat_lt, if◌then◌else◌, slice_index}
use Rattle.std.specs.Int.{w128, to_be_bytes}
use Rattle.uuid.specs.Text.{by_index, hex_digit, nibble, digit_place, is_hyphen_place, lower}
use Rattle.kj_value.specs.Text.{escaped_byte}
use Rattle.api_calls.specs.Uid.{uid, uid_high, uid_low}

abbrev is_plain : ℕ → Type 0
is_plain x = (45 ≤ x) × (x ≡ 92 → ⊥)

abbrev ArePlain : List ℕ → Type 0
ArePlain [] = Unit {0}
ArePlain (x ∷ xs) = is_plain x × ArePlain xs

other : (x n : ℕ) → n < 45 → 45 ≤ x → (x == n) ≡ false
other x n small large = grind (arith, nat_tests)

apart : (x : ℕ) → (x ≡ 92 → ⊥) → (x == 92) ≡ false
apart x differs = grind (arith, nat_tests, differs)

above : (x : ℕ) → 45 ≤ x → nat_lt x 32 ≡ false
above x large = grind (arith, nat_tests)

plain_byte : (x : ℕ) → is_plain x → escaped_byte x ≡ x ∷ []
plain_byte x p =
    rw (other x 34 (omega arith) p.0, apart x p.1, other x 8 (omega arith) p.0, other x 9 (omega arith) p.0, other x 10 (omega arith) p.0, other x 12 (omega arith) p.0, other x 13 (omega arith) p.0, above x p.0) refl

flat_plain : (xs : List ℕ) → ArePlain xs → flat_map escaped_byte xs ≡ xs
flat_plain [] h = refl
flat_plain (x ∷ xs) h =
    subst (λ (bs : List ℕ). bs ++ flat_map escaped_byte xs ≡ x ∷ xs) (sym (plain_byte x h.0)) (ap (λ (t : List ℕ). x ∷ t) (flat_plain xs h.1))

plain-append : (xs ys : List ℕ) → ArePlain xs → ArePlain ys → ArePlain (xs ++ ys)
plain-append [] ys p q = q
plain-append (x ∷ xs) ys p q = (p.0, plain-append xs ys p.1 q)

plain-digit : (n : ℕ) → n < 10 → is_plain (48 + n)
plain-digit n small = (omega arith, λ is. omega (arith, is, small))

plain-decimal : (n : ℕ) → n < 2 ^ 64 → ArePlain (decimal n)
plain-decimal n small =
    decimal_by_steps (λ k ds. ArePlain ds) (λ k few. (plain-digit k few, tt)) (λ k ds many p. plain-append ds ((48 + k % 10) ∷ []) p (plain-digit (k % 10) (omega arith), tt)) n small

plain-hex : (d : ℕ) → d < 16 → is_plain (hex_digit lower d)
plain-hex d small = by (nat_lt d 10) refl
  where
    by : (b : Bool) → nat_lt d 10 ≡ b → is_plain (if b then 48 + d else 97 + d - 10)
    by true is = let few : d < 10 = grind (arith, nat_tests) in plain-digit d few
    by false is = let many : 10 ≤ d = grind (arith, nat_tests) in (omega (arith, many), λ e. omega (arith, e, many))

plain-half : (b : Bool) (x y : ℕ) → (if b then x / 16 % 16 else y % 16) < 16
plain-half true x y = omega arith
plain-half false x y = omega arith

plain-uid_byte : (xs : List ℕ) (k : ℕ) (b : Bool) → is_plain (if b then 45 else hex_digit lower (nibble xs (digit_place k)))
plain-uid_byte xs k true = (omega arith, λ is. omega (arith, is))
plain-uid_byte xs k false =
    plain-hex (nibble xs (digit_place k)) (plain-half (digit_place k % 2 == 0) (slice_index xs (digit_place k / 2)) (slice_index xs (digit_place k / 2)))

plain-by_index : (n : ℕ) (f : ℕ → ℕ) → ((k : ℕ) → is_plain (f k)) → ArePlain (by_index n f)
unfolding by_index
plain-by_index zero f each = tt
plain-by_index (suc n) f each = plain-append (by_index n f) (f n ∷ []) (plain-by_index n f each) (each n, tt)

plain-uid : (boot born : ℕ) → ArePlain (uid boot born)
unfolding uid
plain-uid boot born =
    let bytes : List ℕ = to_be_bytes w128 (uid_high boot * 2 ^ 64 + uid_low born) in
    plain-by_index 36 (λ k. if is_hyphen_place k then 45 else hex_digit lower (nibble bytes (digit_place k))) (λ k. plain-uid_byte bytes k (is_hyphen_place k))

pub number_as_it_stands : (n : ℕ) → n < 2 ^ 64 → flat_map escaped_byte (decimal n) ≡ decimal n
number_as_it_stands n small = flat_plain (decimal n) (plain-decimal n small)

pub uid_as_it_stands : (boot born : ℕ) → flat_map escaped_byte (uid boot born) ≡ uid boot born
uid_as_it_stands boot born = flat_plain (uid boot born) (plain-uid boot born)
