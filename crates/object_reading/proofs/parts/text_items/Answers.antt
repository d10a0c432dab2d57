use Rattle.std.proofs.Common.{◌≡◌, ◌∙◌, ◌++◌, List, [], ◌∷◌, map, append_assoc, append-nil, ap, sym, arith}
use Rattle.std.proofs.lemmas.List.{nil_from_length}
use Rattle.std.specs.Vec.Iter.{into_iter_items}
use Rattle.kj_value.specs.Seen.{json}
use Rattle.kj_value.specs.declared.value.JVal.{JVal}
use Rattle.object_reading.specs.Parts.{text_item, text_items}
use Rattle.object_reading.proofs.parts.text_items.Goals as goal

pub loop-item-preserved : goal.loop-item-preserved
loop-item-preserved c =
    let l = c.loop-item in
    let left = into_iter_items c.next.new.self in
    let step : into_iter_items l.item-iterator ≡ c.in-Some.item ∷ left = c.in-Some.ensures.steps.0 in
    rw c.in_ok-add_item.ensures (
    append_assoc l.texts (text_item (json c.in-Some.item)) (text_items (map json left))
    ∙ ap (λ (vs : List JVal). l.texts ++ text_items (map json vs)) (sym step)
    ∙ l.invariant
    )

pub returns : goal.returns
returns c =
    let l = c.loop-item in
    let none : into_iter_items l.item-iterator ≡ [] = nil_from_length _ (grind (arith, c.in-None.ensures.steps.0)) in
    sym (append-nil l.texts) ∙ ap (λ (vs : List JVal). l.texts ++ text_items (map json vs)) (sym none) ∙ l.invariant
