use Rattle.std.proofs.Common.{◌≡◌, ◌∙◌, ap, subst, sym}
use Rattle.std.specs.Prelude.{IfOk, Result}
use Rattle.kj_value.specs.declared.error.NoMemory.{NoMemory}
use Rattle.kube_meta.specs.View.{object_of}
use Rattle.kube_meta.specs.declared.object.Object.{Object}
use Rattle.api_calls.specs.Values.{has_finalizer, is_marked}
use Rattle.api_calls.specs.laws.SpelledLaws.{stored-text}
use Rattle.write_texts.proofs.Stamps.{holds-as}
use Rattle.write_texts.proofs.mark.holding_of.Goals as goal

pub read_form-requires : goal.read_form-requires
read_form-requires g c =
    let it = c.args.lent.now.versions.now in
    let s = c.requires.1 in
    (s.form, stored-text (g.V.Versions.meaning it) c.args.at c.requires.0 c.args.bytes.now (g.met.V.Versions.stand it) s)

pub returns : goal.returns
returns g c = λ h s.
    let it = c.args.lent.now.versions.now in
    let m = g.V.Versions.meaning it in
    let read = c.read_form.ensures s.form (stored-text m c.args.at h c.args.bytes.now (g.met.V.Versions.stand it) s) in
    let same : object_of c.in_ok-form.form ≡ s.form = subst (λ (r : Result Object NoMemory). IfOk r (λ y. object_of y ≡ s.form)) c.in_ok-form.was read in
    holds-as m c.args.at h c.args.bytes.now c.told_by-told.result.held c.told_by-told.result.marked s
    (λ honest. g.met.V.Versions.one_to_one it (sym (g.met.V.Versions.told it) ∙ honest)) (g.met.V.Versions.unstamped it)
    (λ honest. g.met.V.Versions.finalizers it (sym (g.met.V.Versions.told it) ∙ honest))
    (c.told_by-told.ensures.held ∙ ap has_finalizer same) (c.told_by-told.ensures.marked ∙ ap is_marked same)
