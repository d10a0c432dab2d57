use Rattle.std.proofs.Common.{◌≡◌, ◌∙◌, List, [], ◌∷◌, map, ap, sym, arith}
use Rattle.std.proofs.lemmas.List.{nil_from_length}
use Rattle.std.specs.Vec.Iter.{into_iter_items}
use Rattle.kj_value.specs.Pair.{pair_of}
use Rattle.kj_value.specs.declared.value.Field.{Field}
use Rattle.object_reading.specs.Parts.{all_added}
use Rattle.object_reading.proofs.Adding.{all_added-rising}
use Rattle.object_reading.proofs.parts.texts_in.Goals as goal

pub loop-field-preserved : goal.loop-field-preserved
loop-field-preserved c =
    let l = c.loop-field in
    let left = into_iter_items c.next.new.self in
    let step : into_iter_items l.field-iterator ≡ c.in-Some.field ∷ left = c.in-Some.ensures.steps.0 in
    rw c.in_ok-add.ensures (
    ap (λ (fs : List Field). all_added l.texts (map pair_of fs)) (sym step)
    ∙ l.invariant
    )

pub returns : goal.returns
returns c =
    let l = c.loop-field in
    let none : into_iter_items l.field-iterator ≡ [] = nil_from_length _ (grind (arith, c.in-None.ensures.steps.0)) in
    ap (λ (fs : List Field). all_added l.texts (map pair_of fs)) (sym none) ∙ l.invariant ∙ all_added-rising c.args.fields c.into_vec-field-items.ensures.sound
