use Rattle.std.proofs.Common.{◌≡◌, ◌<◌, List, [], ◌∷◌, length, refl, ap, sym, ◌∙◌, arith}
use Rattle.std.proofs.lemmas.Bool.Decides.{nat_tests}
use Rattle.std.specs.Prelude.{nat_lt}
use Rattle.kj_value.specs.Json.{Json, list, items_of}
use Rattle.kj_value.specs.Seen.{json}
use Rattle.kj_value.specs.declared.value.JVal.{JVal}
use Rattle.schema_reading.specs.Allowed.{is_filled_list}
use Rattle.schema_reading.proofs.keywords.is_filled_list.Goals as goal

filled : (js : List Json) → nat_lt 0 (length js) ≡ is_filled_list (list (items_of js))
filled [] = refl
filled (j ∷ js) =
    let h : 0 < length (j ∷ js) = omega arith in
    grind (arith, nat_tests)

pub returns-in-List : goal.returns-in-List
returns-in-List c =
    ap (nat_lt 0) c.len.ensures.len ∙ filled c.in-List.items ∙ ap (λ (v : JVal). is_filled_list (json v)) (sym c.in-List.is)
