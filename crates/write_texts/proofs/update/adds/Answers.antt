use Rattle.std.proofs.Common.{List, ℕ, ap, map, sym, ◌∙◌}
use Rattle.std.specs.Prelude.{Bool, not}
use Rattle.std.specs.List.{list_all, list_any}
use Rattle.std.specs.Str.{bytes_eq}
use Rattle.kj_value.specs.Texts.{bytes_of}
use Rattle.kube_meta.specs.View.{object_of}
use Rattle.api_calls.specs.Values.{adds_finalizer, is_marked}
use Rattle.write_texts.proofs.Updating.{none_of_both, second_of_both}
use Rattle.write_texts.proofs.update.adds.Goals as goal

pub returns-then-not-marked : goal.returns-then-not-marked
returns-then-not-marked c =
    none_of_both (is_marked (object_of c.args.old.now)) (adds_finalizer (object_of c.args.old.now) (object_of c.args.hub.now)) (sym c.marked.ensures ∙ c.if-not-marked.true)

pub returns : goal.returns
returns c =
    let old = object_of c.args.old.now in
    let hub = object_of c.args.hub.now in
    second_of_both (is_marked old) (adds_finalizer old hub) (not c.are_among-held.result) (sym c.marked.ensures ∙ c.if-not-marked.false)
    (ap (λ (b : Bool). not b)
    (c.are_among-held.ensures
    ∙ ap (λ (fs : List (List ℕ)). list_all (λ f. list_any (bytes_eq f) fs) (map bytes_of c.as_slice.result.now)) c.as_slice-2.ensures
    ∙ ap (λ (gs : List (List ℕ)). list_all (λ f. list_any (bytes_eq f) old.meta.finalizers) gs) c.as_slice.ensures))
