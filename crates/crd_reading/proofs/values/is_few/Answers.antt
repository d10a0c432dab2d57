use Rattle.std.proofs.Common.{ap, sym, ◌∙◌}
use Rattle.kj_value.specs.Seen.{json}
use Rattle.kj_value.specs.declared.value.JVal.{JVal}
use Rattle.struct_schema.specs.laws.LookupLaws.{item_count-items_of}
use Rattle.crd_reading.specs.Allowed.{are_few, is_few}
use Rattle.crd_reading.proofs.values.is_few.Goals as goal

pub returns-in-List : goal.returns-in-List
returns-in-List c =
    c.are_few.ensures ∙ ap are_few (c.len.ensures.len ∙ sym (item_count-items_of c.in-List.items)) ∙ ap (λ (v : JVal). is_few (json v)) (sym c.in-List.is)
