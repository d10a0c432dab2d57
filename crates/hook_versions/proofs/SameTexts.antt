-- Texts by name are the same where they are so by cases.
use Rattle.std.proofs.Common.{◌≡◌, List, [], ◌∷◌, ℕ, map, length, Bool, true, false, ◌&&◌, refl, ap₂, sym, arith}
use Rattle.std.specs.Str.{bytes_eq}
use Rattle.std.proofs.lemmas.Slice.Eq.{bytes_eq-Decides}
use Rattle.std.proofs.lemmas.Bool.{false≢true}
use Rattle.kj_value.specs.Texts.{text_pair}
use Rattle.kj_value.specs.declared.texts.TextField.{TextField}
use Rattle.kube_meta.specs.View.{Texts}
use Rattle.hook_versions.specs.inner.Sameness.{texts_same}

both_true : (a b : Bool) → (a && b) ≡ true → (a ≡ true) × (b ≡ true)
both_true true b h = (refl, h)
both_true false b h = absurd (false≢true h)

pub same_texts : (a b : Texts) → texts_same a b ≡ true → a ≡ b
same_texts [] [] h = refl
same_texts (a ∷ more) (b ∷ others) h =
    let p = both_true (bytes_eq a.0 b.0 && bytes_eq a.1 b.1) (texts_same more others) h in
    let q = both_true (bytes_eq a.0 b.0) (bytes_eq a.1 b.1) p.0 in
    let name = (bytes_eq-Decides a.0 b.0).0 q.0 in
    let value = (bytes_eq-Decides a.1 b.1).0 q.1 in
    let first : (a.0, a.1) ≡ (b.0, b.1) = ap₂ (λ (m n : List ℕ). (m, n)) name value in
    ap₂ (λ (c : List ℕ × List ℕ) (cs : Texts). c ∷ cs) first (same_texts more others p.1)
same_texts _ _ h = absurd (false≢true h)

and_false : (a b : Bool) → b ≡ false → false ≡ (a && b)
and_false true b h = sym h
and_false false b h = refl

-- lists of other lengths differ
pub texts_differ : (xs ys : List TextField) → (length xs ≡ length ys → ⊥) → false ≡ texts_same (map text_pair xs) (map text_pair ys)
texts_differ [] [] h = absurd (h refl)
texts_differ (x ∷ xs) (y ∷ ys) h = and_false _ _ (sym (texts_differ xs ys (λ e. h (omega (arith, e)))))
texts_differ _ _ h = refl
