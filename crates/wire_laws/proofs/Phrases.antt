-- Each canonical phrase is short, and its bytes may stand in a status line.
use Rattle.std.proofs.Common.{◌≡◌, refl, sym, inl, inr, ℕ, zero, suc, ◌<◌, ◌≤◌, Bool, true, ◌&&◌, nat_le, List, length, arith, subst, add-one}
use Rattle.std.specs.List.{list_all}
use Rattle.std.proofs.lemmas.Bool.{and_parts, leb-true, cases_eq}
use Rattle.httparse.specs.Grammar.{AllPass, is_value_byte}
use Rattle.http_wire.specs.Response.{phrase}
use Rattle.wire_laws.proofs.Digits.{passes}

fits : ℕ → Bool
fits code = nat_le (length (phrase code)) 40 && list_all is_value_byte (phrase code)

all_fit : ℕ → Bool
all_fit zero = true
all_fit (suc n) = fits n && all_fit n

below : (k n : ℕ) → all_fit k ≡ true → n < k → fits n ≡ true
unfolding all_fit
below zero n all under = absurd (omega arith)
below (suc k) n all under =
    let both = and_parts (fits k) (all_fit k) all in
    elim (cases_eq n k) [
      | inl same ↦ subst (λ (j : ℕ). fits j ≡ true) (sym same) both.0
      | inr other ↦ below k n both.1 (omega arith)
    ]

table : all_fit 1000 ≡ true
unfolding fits all_fit phrase
table = refl

pub phrase_fits : (code : ℕ) → code < 1000 → (length (phrase code) ≤ 40) × AllPass is_value_byte (phrase code)
unfolding fits
phrase_fits code small =
    let both = and_parts (nat_le (length (phrase code)) 40) (list_all is_value_byte (phrase code)) (below 1000 code table small) in
    (leb-true (length (phrase code)) 40 both.0, passes is_value_byte (phrase code) both.1)
