use Rattle.std.proofs.Common.{◌≡◌, ℕ, ◌≤◌, List, [], ◌∷◌, length, map, false, refl, ap, sym, ◌∙◌, arith}
use Rattle.kj_value.specs.Json.{Json, object, members_of}
use Rattle.kj_value.specs.Seen.{json}
use Rattle.kj_value.specs.Pair.{pair_of}
use Rattle.kj_value.specs.declared.value.JVal.{JVal}
use Rattle.kj_value.specs.declared.value.Field.{Field}
use Rattle.schema_reading.specs.Allowed.{asks_type}
use Rattle.schema_reading.proofs.keywords.asks_type.Goals as goal

too_many : (t : List ℕ) (fs : List Field) → 2 ≤ length fs → false ≡ asks_type t (object (members_of (map pair_of fs)))
too_many t [] h = absurd (omega arith)
too_many t (f ∷ []) h = absurd (omega arith)
too_many t (f ∷ g ∷ fs) h = refl

pub returns-in_default-as_slice-2 : goal.returns-in_default-as_slice-2
returns-in_default-as_slice-2 c =
    too_many c.args.text.now c.as_slice.result.now c.in_default-as_slice.len_at_least ∙ ap (λ (es : List (List ℕ × Json)). asks_type c.args.text.now (object (members_of es))) c.as_slice.ensures.value ∙ ap (λ (v : JVal). asks_type c.args.text.now (json v)) (sym c.in-Obj.is)
