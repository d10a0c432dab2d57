use Rattle.std.proofs.Common.{List, Some, ap, sym, ◌∙◌}
use Rattle.kj_value.specs.Json.{Json}
use Rattle.kj_value.specs.KindLaws.{list_items}
use Rattle.kj_value.specs.Seen.{json}
use Rattle.kj_value.specs.declared.value.JVal.{JVal}
use Rattle.schema_reading.specs.OwnRead.{choices_of}
use Rattle.schema_reading.proofs.own.choices_at.Goals as goal

pub returns-in_ok-copy_choices-in-Some-List : goal.returns-in_ok-copy_choices-in-Some-List
returns-in_ok-copy_choices-in-Some-List c =
    ap (λ (js : List Json). Some js) (c.in_ok-copy_choices-in-Some-List.ensures ∙ sym (list_items c.in-Some-List.items)) ∙ ap (λ (v : JVal). choices_of (Some (json v))) (sym c.in-Some-List.field-0-is) ∙ ap choices_of c.in-Some-List.ensures
