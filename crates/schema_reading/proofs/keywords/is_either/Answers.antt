use Rattle.std.proofs.Common.{◌≡◌, ◌<◌, ◌≤◌, List, [], ◌∷◌, length, map, false, refl, ap, sym, ◌∙◌, arith}
use Rattle.kj_value.specs.Json.{Json, list, items_of}
use Rattle.kj_value.specs.Seen.{json}
use Rattle.kj_value.specs.declared.value.JVal.{JVal}
use Rattle.schema_reading.specs.Allowed.{is_either}
use Rattle.schema_reading.proofs.keywords.is_either.Goals as goal

too_few : (vs : List JVal) → length vs < 2 → false ≡ is_either (list (items_of (map json vs)))
too_few [] h = refl
too_few (v ∷ []) h = refl
too_few (v ∷ w ∷ vs) h = absurd (omega arith)

too_many : (vs : List JVal) → 3 ≤ length vs → false ≡ is_either (list (items_of (map json vs)))
too_many [] h = absurd (omega arith)
too_many (v ∷ []) h = absurd (omega arith)
too_many (v ∷ w ∷ []) h = absurd (omega arith)
too_many (v ∷ w ∷ x ∷ vs) h = refl

pub returns-in_default-as_slice : goal.returns-in_default-as_slice
returns-in_default-as_slice c =
    too_few c.as_slice.result.now c.in_default-as_slice.len_below ∙ ap (λ (js : List Json). is_either (list (items_of js))) c.as_slice.ensures.value ∙ ap (λ (v : JVal). is_either (json v)) (sym c.in-List.is)

pub returns-in_default-as_slice-2 : goal.returns-in_default-as_slice-2
returns-in_default-as_slice-2 c =
    too_many c.as_slice.result.now c.in_default-as_slice.len_at_least ∙ ap (λ (js : List Json). is_either (list (items_of js))) c.as_slice.ensures.value ∙ ap (λ (v : JVal). is_either (json v)) (sym c.in-List.is)
