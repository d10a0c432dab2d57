use Rattle.std.proofs.Common.{◌≡◌, ◌++◌, [], ◌∷◌, List, map, ap, sym, subst, ◌∙◌, append_assoc}
use Rattle.std.specs.Vec.Iter.{into_iter_items}
use Rattle.kj_value.specs.Json.{text}
use Rattle.kj_value.specs.Fields.{Pairs, with_field, AreInOrder}
use Rattle.kj_value.specs.Texts.{text_pair}
use Rattle.kj_value.specs.declared.texts.TextField.{TextField}
use Rattle.kube_meta.specs.View.{Texts}
use Rattle.kube_meta.proofs.InOrder.{moved_text}
use Rattle.kube_meta.proofs.document.text_fields.Goals as goal

pub loop-t-preserved : goal.loop-t-preserved
loop-t-preserved c =
    let l = c.loop-t in
    let done = l.invariant.0 in
    let t = c.in-Some.t in
    let left = into_iter_items c.next.new.self in
    let step : into_iter_items l.t-iterator ≡ t ∷ left = c.in-Some.ensures.steps.0 in
    let all : c.args.texts ≡ done ++ text_pair t ∷ map text_pair left = l.invariant.1 ∙ ap (λ (ts : List TextField). done ++ map text_pair ts) step in
    let order : AreInOrder (done ++ text_pair t ∷ map text_pair left) = subst (λ (ts : Texts). AreInOrder ts) all c.into_vec-t-items.ensures.order in (
      done ++ text_pair t ∷ [],
      all ∙ sym (append_assoc done (text_pair t ∷ []) (map text_pair left)),
      c.in_ok-set.ensures.ok
          ∙ ap (λ (es : Pairs). with_field t.name.bytes (text t.value.bytes) es) l.invariant.2
          ∙ moved_text done (map text_pair left) (text_pair t) order,
    )
