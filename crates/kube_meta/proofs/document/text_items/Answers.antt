use Rattle.std.proofs.Common.{◌≡◌, ◌++◌, [], ◌∷◌, ℕ, refl, List, map, ap, sym, ◌∙◌, append_assoc}
use Rattle.std.specs.Vec.Iter.{into_iter_items}
use Rattle.kj_value.specs.Json.{Json, text}
use Rattle.kj_value.specs.Texts.{bytes_of}
use Rattle.kj_value.specs.declared.txt.Txt.{Txt}
use Rattle.kube_meta.proofs.document.text_items.Goals as goal

texts_more : (done : List (List ℕ)) (t : List ℕ) → map text done ++ text t ∷ [] ≡ map text (done ++ t ∷ [])
texts_more [] t = refl
texts_more (d ∷ done) t = ap (λ (js : List Json). text d ∷ js) (texts_more done t)

pub loop-t-preserved : goal.loop-t-preserved
loop-t-preserved c =
    let l = c.loop-t in
    let done = l.invariant.0 in
    let t = c.in-Some.t in
    let left = into_iter_items c.next.new.self in
    let step : into_iter_items l.t-iterator ≡ t ∷ left = c.in-Some.ensures.steps.0 in
    let all : c.args.texts ≡ done ++ bytes_of t ∷ map bytes_of left = l.invariant.1 ∙ ap (λ (ts : List Txt). done ++ map bytes_of ts) step in (
      done ++ bytes_of t ∷ [],
      all ∙ sym (append_assoc done (bytes_of t ∷ []) (map bytes_of left)),
      c.in_ok-push.ensures.ok ∙ ap (λ (js : List Json). js ++ text (bytes_of t) ∷ []) l.invariant.2 ∙ texts_more done (bytes_of t),
    )
