-- Whether what stands somewhere is a text with a number.
use Rattle.std.proofs.Common.{◌≡◌, ◌≢◌, ◌<◌, ◌^◌, ℕ, Bool, true, false, List, [], Option, None, Some, MatchOption, unwrap_or, refl, ap, sym, ◌∙◌, decimal}
use Rattle.kj_value.specs.Json.{Json, null, boolean, whole, text, list, object}
use Rattle.object_reading.specs.Fields.{text_at}
use Rattle.object_reading.specs.Refusal.{is_given_text}
use Rattle.object_reading.specs.Numbers.{is_number, HasNumber}
use Rattle.object_reading.proofs.Digits.{is_number-Decides}

-- where a text stands, it is judged
pub given_text : (kind : List ℕ → Bool) (o : Option Json) (s : List ℕ) → text_at o ≡ Some s → is_given_text kind o ≡ kind s
given_text kind None s e = absurd (cc)
given_text kind (Some null) s e = absurd (cc)
given_text kind (Some (boolean b)) s e = absurd (cc)
given_text kind (Some (whole z)) s e = absurd (cc)
given_text kind (Some (text t)) s e = ap kind cc
given_text kind (Some (list js)) s e = absurd (cc)
given_text kind (Some (object ms)) s e = absurd (cc)

not_number : (s : List ℕ) → ((n : ℕ) → n < 2 ^ 64 → decimal n ≢ s) → is_number s ≡ false
not_number s no_number = by_test (is_number s) refl
  where
    by_test : (b : Bool) → is_number s ≡ b → b ≡ false
    by_test true e = let h = (is_number-Decides s).0 e in absurd (no_number h.0 h.1 h.2)
    by_test false e = refl

pub number_told : (o : Option Json) (s : List ℕ) (r : Option ℕ) → text_at o ≡ Some s
    → MatchOption r ((n : ℕ) → n < 2 ^ 64 → decimal n ≢ s) (λ n. (n < 2 ^ 64) × (decimal n ≡ s))
    → MatchOption r (is_given_text is_number o ≡ false) (λ n. (is_given_text is_number o ≡ true) × (decimal n ≡ unwrap_or (text_at o) []))
number_told o s None there h = given_text is_number o s there ∙ not_number s h
number_told o s (Some n) there h = (
  given_text is_number o s there ∙ (is_number-Decides s).1 (n, h.0, h.1),
  h.1 ∙ ap (λ (t : Option (List ℕ)). unwrap_or t []) (sym there),
)
