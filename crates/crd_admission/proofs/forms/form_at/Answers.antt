use Rattle.std.proofs.Common.{◌≡◌, ◌∙◌, ◌≤◌, Some, ap, refl, sym, subst}
use Rattle.std.specs.Prelude.{slice_get}
use Rattle.std.proofs.lemmas.Option.{slice_get_within}
use Rattle.kj_value.specs.Json.{object, members_of, depth}
use Rattle.kube_meta.specs.declared.object.Object.{Object}
use Rattle.kube_meta.specs.View.{object_of}
use Rattle.keep_laws.specs.Spokes.{Spokes}
use Rattle.keep_laws.specs.Pair.{IsPairOf}
use Rattle.keep_laws.specs.WholeHub.{IsWholeHub, IsSettledAt}
use Rattle.crd_meaning.specs.Definition.{Seat}
use Rattle.crd_meaning.specs.Objects.{PairsAt, IsFormAt}
use Rattle.crd_admission.proofs.Crossed.{made_form, hub_levels, spoke_levels}
use Rattle.crd_admission.proofs.Results.{if_ok, if_both}
use Rattle.crd_admission.proofs.forms.form_at.Goals as goal

pub into_spoke-requires-clause-place : goal.into_spoke-requires-clause-place
into_spoke-requires-clause-place c =
    let at = c.in-Some.ensures in
    slice_get_within c.spokes.result.now.items c.in-Some.p at.0 (ap (λ (a : Spokes). slice_get a.items c.in-Some.p) c.spokes.ensures.value ∙ at.1)

pub into_spoke-requires-clause-whole : goal.into_spoke-requires-clause-whole
into_spoke-requires-clause-whole c =
    subst (λ (a : Spokes). IsWholeHub a (object_of c.args.hub)) (sym c.spokes.ensures.value) c.requires.whole

pub returns-in-Some-clause-form : goal.returns-in-Some-clause-form
returns-in-Some-clause-form c =
    let d = c.args.set.now in
    let at = c.in-Some.ensures in
    let all = c.spokes.result.now in
    let place : slice_get all.items c.in-Some.p ≡ Some at.0 = ap (λ (a : Spokes). slice_get a.items c.in-Some.p) c.spokes.ensures.value ∙ at.1 in
    if_both (λ (y : Object). IsPairOf all at.0 (object_of y) (object_of c.args.hub)) (λ (y : Object). IsSettledAt all at.0 (object_of y)) (λ (y : Object). IsFormAt d c.args.v (object_of c.args.hub) (object_of y)) c.into_spoke.result
    (λ y p t. made_form d c.hub.ensures.loaded all c.args.v (object_of c.args.hub) (object_of y) at.0 c.spokes.ensures.value at.2 p t) (c.into_spoke.ensures.pair at.0 place) (c.into_spoke.ensures.settled at.0 place)

pub returns-in-Some-clause-levels : goal.returns-in-Some-clause-levels
returns-in-Some-clause-levels c =
    let at = c.in-Some.ensures in
    let all = c.spokes.result.now in
    let place : slice_get all.items c.in-Some.p ≡ Some at.0 = ap (λ (a : Spokes). slice_get a.items c.in-Some.p) c.spokes.ensures.value ∙ at.1 in
    if_ok (λ (y : Object). IsSettledAt all at.0 (object_of y)) (λ (y : Object). depth (object (members_of y.body)) ≤ 64) c.into_spoke.result (λ y t. spoke_levels c.args.set.now c.hub.ensures.loaded all at.0 (object_of y) t) (c.into_spoke.ensures.settled at.0 place)

pub returns-in-None-clause-form : goal.returns-in-None-clause-form
returns-in-None-clause-form c =
    subst (λ (z : Seat). PairsAt c.args.set.now.spokes z (object_of c.args.hub) (object_of c.args.hub)) (sym c.in-None.ensures) refl

pub returns-in-None-clause-levels : goal.returns-in-None-clause-levels
returns-in-None-clause-levels c = hub_levels c.args.set.now c.hub.ensures.loaded (object_of c.args.hub) c.requires.whole
