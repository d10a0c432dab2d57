use Rattle.std.proofs.Common.{◌≡◌, ◌∙◌, List, [], ◌∷◌, map, ap, sym, arith}
use Rattle.std.proofs.lemmas.List.{nil_from_length}
use Rattle.std.specs.Vec.Iter.{into_iter_items}
use Rattle.kj_value.specs.Texts.{text_pair}
use Rattle.kj_value.specs.declared.texts.TextField.{TextField}
use Rattle.crd_admission.proofs.Notes.{put_all, put_from_none}
use Rattle.crd_admission.proofs.showing.text_fields.Goals as goal

pub loop-text-preserved : goal.loop-text-preserved
loop-text-preserved c =
    let l = c.loop-text in
    let left = into_iter_items c.next.new.self in
    let step : into_iter_items l.text-iterator ≡ c.in-Some.text ∷ left = c.in-Some.ensures.steps.0 in
    rw c.in_ok-set.ensures.ok (ap (λ (fs : List TextField). put_all l.fields (map text_pair fs)) (sym step) ∙ l.invariant)

pub returns : goal.returns
returns c =
    let l = c.loop-text in
    let none : into_iter_items l.text-iterator ≡ [] = nil_from_length _ (grind (arith, c.in-None.ensures.steps.0)) in
    ap (λ (fs : List TextField). put_all l.fields (map text_pair fs)) (sym none) ∙ l.invariant ∙ put_from_none c.args.texts c.into_vec-text-items.ensures.order
