use Rattle.std.proofs.Common.{◌≡◌, ◌==◌, ◌∙◌, ℕ, ◌+◌, ◌<◌, List, Bool, true, length, drop, get_or, ◌∷◌, ap, refl, sym, arith, add-one, drop-cons}
use Rattle.std.proofs.lemmas.Bool.Decides.{nat_tests}
use Rattle.document_text.specs.inner.Ending.{in_text, escaped}
use Rattle.document_text.proofs.ends.behind_text.Goals as goal

here : (b : List ℕ) (i : ℕ) → i < length b → drop i b ≡ get_or b i 0 ∷ drop (i + 1) b
here b i small = drop-cons b i 0 small ∙ ap (λ (n : ℕ). get_or b i 0 ∷ drop n b) (sym (add-one i))

same_test : (x n : ℕ) → x ≡ n → (x == n) ≡ true
same_test x n same = grind (arith, nat_tests)

at_backslash : (k : Bool) (l x : ℕ) (xs : List ℕ) → x ≡ 92 → in_text k l (x ∷ xs) ≡ escaped k l xs
at_backslash k l x xs is = rw (same_test x 92 is) refl

-- a backslash and the byte behind it are passed
pair : (k : Bool) (l : ℕ) (b : List ℕ) (i : ℕ) → i + 1 < length b → get_or b i 0 ≡ 92 → in_text k l (drop i b) ≡ in_text k l (drop (i + 1 + 1) b)
pair k l b i small is = ap (in_text k l) (here b i (omega arith)) ∙ (at_backslash k l (get_or b i 0) (drop (i + 1) b) is ∙ ap (escaped k l) (here b (i + 1) small))

pub loop-i-preserved-then-i-bytes : goal.loop-i-preserved-then-i-bytes
loop-i-preserved-then-i-bytes c = record {
  later = omega arith;
  within = omega arith;
  same = λ k l. c.loop-i.invariant.same k l ∙ pair k l c.args.bytes.now c.loop-i.i c.if-i-bytes.true c.if-x-eq92.true;
}
