use Rattle.std.proofs.Common.{◌≡◌, ◌<◌, length, Some, refl, sym, subst}
use Rattle.std.specs.Prelude.{slice_get}
use Rattle.std.proofs.lemmas.Option.{slice_get_within}
use Rattle.kube_meta.specs.View.{ObjectView, object_of}
use Rattle.kube_meta.specs.Shapes.{shaped}
use Rattle.keep_laws.specs.Spokes.{Spokes}
use Rattle.keep_laws.specs.WholeHub.{IsWholeHub}
use Rattle.keep_laws.specs.Pair.{IsPairOf}
use Rattle.crd_meaning.specs.Definition.{Seat}
use Rattle.crd_meaning.specs.Objects.{PairsAt}
use Rattle.crd_admission.proofs.weighing.form_at.Goals as goal

pub returns-in-None : goal.returns-in-None
returns-in-None c =
    let d = c.args.set.now in
    let h : ObjectView = object_of c.args.h.now in
    subst (λ (z : Seat). PairsAt d.spokes z h h) (sym c.in-None.ensures) refl

pub shape_at-requires-clause-place : goal.shape_at-requires-clause-place
shape_at-requires-clause-place c =
    let at = c.in-Some.ensures in
    subst (λ (a : Spokes). c.in-Some.p < length a.items) (sym c.spokes.ensures.value) (slice_get_within c.args.set.now.spokes.items c.in-Some.p at.0 at.1)

pub shape_at-requires-clause-whole : goal.shape_at-requires-clause-whole
shape_at-requires-clause-whole c =
    subst (λ (a : Spokes). IsWholeHub a (object_of c.args.h.now)) (sym c.spokes.ensures.value) c.requires.whole

pub returns-in_ok-form-in-Some : goal.returns-in_ok-form-in-Some
returns-in_ok-form-in-Some c =
    let d = c.args.set.now in
    let h : ObjectView = object_of c.args.h.now in
    let x : ObjectView = shaped c.in_ok-form-in-Some.form h in
    let at = c.in-Some.ensures in
    let s = at.0 in
    let all = c.spokes.result.now in
    let place : slice_get all.items c.in-Some.p ≡ Some s = subst (λ (a : Spokes). slice_get a.items c.in-Some.p ≡ Some s) (sym c.spokes.ensures.value) at.1 in
    let pair : IsPairOf d.spokes s x h = subst (λ (a : Spokes). IsPairOf a s x h) c.spokes.ensures.value (c.in_ok-form-in-Some.ensures.pair s place) in
    subst (λ (z : Seat). PairsAt d.spokes z h x) (sym at.2) ((c.in_ok-form-in-Some.ensures.settled s place).object, pair)
