-- One piece of a text behind another.
use Rattle.std.proofs.Common.{◌≡◌, ℕ, List, [], ◌++◌, Bool, true, false, arith, ap, ◌∙◌, append_assoc, refl}
use Rattle.std.specs.Prelude.{decimal, nat_eq, if◌then◌else◌}
use Rattle.std.proofs.lemmas.Bool.Decides.{nat_tests}
use Rattle.call_texts.specs.PageTexts.{Adds, before_left, left_text}

-- a piece that is known by another name
pub known : {s t x : List ℕ} (p : List ℕ) → x ≡ p → Adds s x t → Adds s p t
known {s} p same e = record { text = e.text ∙ ap (λ (x : List ℕ). s ++ x) same }

-- a piece, and then the rest
pub onward : {s t v p rest : List ℕ} → Adds s p t → Adds t rest v → Adds s (p ++ rest) v
onward {s} {p = p} {rest} e f = record { text = f.text ∙ (ap (λ (x : List ℕ). x ++ rest) e.text ∙ append_assoc s p rest) }

pub left-some : (n : ℕ) → (n ≡ 0 → ⊥) → before_left ++ decimal n ≡ left_text n
left-some n h = by (nat_eq n 0) refl
  where
    by : (b : Bool) → nat_eq n 0 ≡ b → before_left ++ decimal n ≡ (if b then [] else before_left ++ decimal n)
    by true is = absurd (h (grind (arith, nat_tests)))
    by false is = refl
