-- Fields, each changed by its name.
use Rattle.std.proofs.Common.{◌≡◌, ℕ, List, [], ◌∷◌, ◌++◌, refl, ap, ◌∙◌}
use Rattle.kj_value.specs.Json.{Json, Members, member, members_of}
use Rattle.kj_value.specs.Sound.{AreRising}
use Rattle.kj_value.specs.Fields.{Pairs, with_field}
use Rattle.kj_value.specs.laws.Last.{names, with_field_last}
use Rattle.crd_loading.specs.Known.{each_field, mapped}

pub each_mapped : (g : List ℕ → Json → Json) (es : Pairs) → members_of (mapped g es) ≡ each_field g (members_of es)
each_mapped g [] = refl
each_mapped g (e ∷ es) = ap (λ (ms : Members). member e.0 (g e.0 e.1) ms) (each_mapped g es)

names-mapped : (g : List ℕ → Json → Json) (es : Pairs) → names (mapped g es) ≡ names es
names-mapped g [] = refl
names-mapped g (e ∷ es) = ap (λ (ns : List (List ℕ)). e.0 ∷ ns) (names-mapped g es)

mapped-append : (g : List ℕ → Json → Json) (xs ys : Pairs) → mapped g xs ++ mapped g ys ≡ mapped g (xs ++ ys)
mapped-append g [] ys = refl
mapped-append g (x ∷ xs) ys = ap (λ (es : Pairs). (x.0, g x.0 x.1) ∷ es) (mapped-append g xs ys)

-- one more field, which comes after those before it
pub rebuilt : (g : List ℕ → Json → Json) (done : Pairs) (e : List ℕ × Json) (rest : Pairs) → AreRising (members_of (done ++ e ∷ rest)) → with_field e.0 (g e.0 e.1) (mapped g done) ≡ mapped g (done ++ e ∷ [])
rebuilt g done e rest s =
    with_field_last (mapped g done) done e rest (g e.0 e.1) (names-mapped g done) s ∙ mapped-append g done (e ∷ [])
