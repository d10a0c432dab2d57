use Rattle.std.proofs.Common.{◌≡◌, ◌∙◌, ◌^◌, ◌<◌, ℕ, List, Bool, false, ap, sym, arith}
use Rattle.std.specs.Prelude.{decimal}
use Rattle.std.specs.Str.{bytes_eq}
use Rattle.std.proofs.lemmas.Fmt.{parse-decimal}
use Rattle.std.proofs.lemmas.Slice.Eq.{bytes_eq-Decides}
use Rattle.std.proofs.lemmas.Bool.Decides.{same_from_decides}
use Rattle.object_reading.specs.Numbers.{is_number, HasNumber}
use Rattle.object_reading.proofs.Digits.{is_number-Decides}
use Rattle.object_reading.proofs.numerals.number_ok.Goals as goal

-- of a text with no number
none_there : (s : List ℕ) → (HasNumber s → ⊥) → false ≡ is_number s
none_there s no_number = same_from_decides false (is_number s) (λ e. absurd (cc), λ h. absurd (no_number h)) (is_number-Decides s)

-- of a text whose number can only be n
only_one : (s : List ℕ) (n : ℕ) (b : Bool) → n < 2 ^ 64 → b ≡ bytes_eq (decimal n) s → ((h : HasNumber s) → h.0 ≡ n) → b ≡ is_number s
only_one s n b small test only = same_from_decides b (is_number s) (
  λ e. (n, small, (bytes_eq-Decides (decimal n) s).0 (sym test ∙ e)),
  λ h. test ∙ (bytes_eq-Decides (decimal n) s).1 (ap decimal (sym (only h)) ∙ h.2),
)
    (is_number-Decides s)

pub returns-in_default : goal.returns-in_default
returns-in_default c = none_there c.args.text.now (λ h.
    let parsed = parse-decimal 64 h.0 c.args.text.now c.parse.result h.1 h.1 (sym h.2) c.parse.ensures.value.0 in cc (parsed, c.in_default.is))

pub returns : goal.returns
returns c = only_one c.args.text.now c.in-Ok.number c.eq.result (omega arith)
    (c.eq.ensures ∙ ap (λ (t : List ℕ). bytes_eq t c.args.text.now) c.format.ensures.text)
    (λ h. let parsed = parse-decimal 64 h.0 c.args.text.now c.parse.result h.1 h.1 (sym h.2) c.parse.ensures.value.0 in cc (parsed, c.in-Ok.is))
