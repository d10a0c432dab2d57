-- The fields of an object by their places.
use Rattle.std.proofs.Common.{◌≡◌, ℕ, zero, suc, List, [], ◌∷◌, None, map, length, refl, subst}
use Rattle.std.specs.Prelude.{slice_get}
use Rattle.kj_value.specs.Json.{Json, list, items_of, members_of}
use Rattle.kj_value.specs.Sound.{AreRising}
use Rattle.kj_value.specs.Fields.{AreInOrder}
use Rattle.rule_reading.specs.Shapes.{field_at, two_items}
use Rattle.kj_value.specs.Seen.{json}
use Rattle.kj_value.specs.declared.value.JVal.{JVal}

pub place_is : (es : List (List ℕ × Json)) (i : ℕ) → slice_get es i ≡ field_at i (members_of es)
place_is [] i = refl
place_is (e ∷ es) zero = refl
place_is (e ∷ es) (suc i) = place_is es i

pub in_order : (es : List (List ℕ × Json)) → AreRising (members_of es) → AreInOrder es
in_order [] h = tt
in_order (e ∷ []) h = (tt, tt)
in_order (e ∷ f ∷ es) h = (h.0, in_order (f ∷ es) h.2)

-- another number of items than two
pub not_two : (vs : List JVal) (es : List Json) → map json vs ≡ es → (length vs ≡ 2 → ⊥) → None ≡ two_items (list (items_of es))
not_two vs es e h = subst (λ (js : List Json). None ≡ two_items (list (items_of js))) e (by_length vs h)
  where
    by_length : (us : List JVal) → (length us ≡ 2 → ⊥) → None ≡ two_items (list (items_of (map json us)))
    by_length [] h = refl
    by_length (v ∷ []) h = refl
    by_length (v ∷ x ∷ []) h = absurd (h refl)
    by_length (v ∷ x ∷ y ∷ us) h = refl
