-- One object of a response after another.
use Rattle.std.proofs.Common.{◌≡◌, ℕ, zero, suc, List, [], ◌∷◌, ◌++◌, length, take, drop, Some, ap, sym}
use Rattle.std.specs.Prelude.{slice_get}
use Rattle.kj_value.specs.Json.{Json}
use Rattle.review_forms.specs.Response.{taken, all_taken}

-- what is known in the loop
pub record Taking (objects sent rest : List Json) (i : ℕ) (made : List Json) : Type 0 where
  pub left : drop i rest ≡ drop i objects
  pub long : length rest ≡ length objects
  pub taken : made ≡ all_taken (take i objects) (take i sent)

pub take_more : (ks ss : List Json) (i : ℕ) (k s : Json) → slice_get ks i ≡ Some k → slice_get ss i ≡ Some s
    → all_taken (take i ks) (take i ss) ++ taken k s ∷ [] ≡ all_taken (take (suc i) ks) (take (suc i) ss)
take_more [] ss i k s e f = absurd (cc)
take_more (x ∷ ks) [] i k s e f = absurd (cc)
take_more (x ∷ ks) (y ∷ ss) zero k s e f =
    let a : x ≡ k = cc in
    let b : y ≡ s = cc in
    λ i. taken (sym a i) (sym b i) ∷ []
take_more (x ∷ ks) (y ∷ ss) (suc i) k s e f = ap (λ (t : List Json). taken x y ∷ t) (take_more ks ss i k s e f)
