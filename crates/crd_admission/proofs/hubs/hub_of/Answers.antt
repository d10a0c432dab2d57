use Rattle.std.proofs.Common.{◌≡◌, Some, None, sym, subst}
use Rattle.std.specs.Prelude.{slice_get, IfErr}
use Rattle.kube_meta.specs.declared.object.Object.{Object}
use Rattle.kube_meta.specs.View.{ObjectView, object_of}
use Rattle.crd_reading.specs.View.{DefinitionView}
use Rattle.crd_reading.specs.Whole.{IsWholeDefinition}
use Rattle.keep_laws.specs.Spokes.{Spokes}
use Rattle.keep_laws.specs.Place.{StandsAt, Settles}
use Rattle.keep_laws.specs.Settling.{SettlesAtHub}
use Rattle.keep_laws.specs.Over.{GoesOver}
use Rattle.keep_laws.specs.WholeHub.{IsWholeHub}
use Rattle.spoke_keep.specs.Fault.{IsFaultOf}
use Rattle.crd_meaning.specs.Definition.{Seat, seat}
use Rattle.crd_meaning.specs.Objects.{IsWholeValue}
use Rattle.crd_meaning.specs.Admission.{own_name}
use Rattle.crd_admission.specs.inner.Documents.{HasHub}
use Rattle.crd_admission.proofs.Crossed.{settled_hub, gone_over}
use Rattle.crd_admission.proofs.PassedObjects.{settled_value, over_whole}
use Rattle.crd_admission.proofs.Results.{if_ok, if_both}
use Rattle.crd_admission.proofs.StandingDocuments.{stands_at_hub, stands_at_spoke}
use Rattle.crd_admission.proofs.hubs.hub_of.Goals as goal

pub place-requires : goal.place-requires
place-requires c = c.requires.known

pub settle-requires : goal.settle-requires
settle-requires c =
    subst (λ (a : Spokes). StandsAt a None (object_of c.args.x)) (sym c.spokes.ensures.value) (stands_at_hub c.args.set.now c.hub.ensures.loaded c.args.v (object_of c.args.x) c.requires c.in-None.ensures)

pub returns-in-None-clause-hub : goal.returns-in-None-clause-hub
returns-in-None-clause-hub c =
    let d = c.args.set.now in
    let x : ObjectView = object_of c.args.x in
    let loaded = c.hub.ensures.loaded in
    let stand = stands_at_hub d loaded c.args.v x c.requires c.in-None.ensures in
    if_ok (λ (y : Object). Settles c.spokes.result.now None x (object_of y)) (λ (y : Object). HasHub d c.args.v x (object_of y)) c.settle.result (
    λ y t.
    let l : SettlesAtHub d.spokes x (object_of y) = subst (λ (a : Spokes). SettlesAtHub a x (object_of y)) c.spokes.ensures.value t in
    settled_hub d loaded c.args.v x c.requires (object_of y) c.in-None.ensures (c.settling.ensures.whole d.spokes loaded.definition x (object_of y) stand.0 c.len.ensures.sound stand.1 l) l
    ) c.settle.ensures.settles

pub returns-in-None-clause-value : goal.returns-in-None-clause-value
returns-in-None-clause-value c = λ passed.
    let d = c.args.set.now in
    let x : ObjectView = object_of c.args.x in
    let loaded = c.hub.ensures.loaded in
    let stand = stands_at_hub d loaded c.args.v x c.requires c.in-None.ensures in
    if_ok (λ (y : Object). Settles c.spokes.result.now None x (object_of y)) (λ (y : Object). IsWholeValue d (object_of y)) c.settle.result (
    λ y t.
    let l : SettlesAtHub d.spokes x (object_of y) = subst (λ (a : Spokes). SettlesAtHub a x (object_of y)) c.spokes.ensures.value t in
    settled_value d c.args.v x (object_of y) passed (c.settling.ensures.whole d.spokes loaded.definition x (object_of y) stand.0 c.len.ensures.sound stand.1 l) l
    ) c.settle.ensures.settles

pub returns-in-None-clause-bad : goal.returns-in-None-clause-bad
returns-in-None-clause-bad c =
    let d = c.args.set.now in
    let notes = (object_of c.args.x).meta.annotations in
    subst (λ (a : Spokes). IfErr c.settle.result (IsFaultOf a (own_name (seat d c.args.v)) notes)) c.spokes.ensures.value (subst (λ (z : Seat). IfErr c.settle.result (IsFaultOf c.spokes.result.now (own_name z) notes)) (sym c.in-None.ensures) c.settle.ensures.err)

pub to_hub-requires : goal.to_hub-requires
to_hub-requires c =
    let at = c.in-Some.ensures in
    subst (λ (a : Spokes). StandsAt a (Some c.in-Some.p) (object_of c.args.x)) (sym c.spokes-in-Some.ensures.value) (stands_at_spoke c.args.set.now c.hub.ensures.loaded c.args.v (object_of c.args.x) c.requires at.0 c.in-Some.p at.2 at.1)

pub returns-in-Some-clause-hub : goal.returns-in-Some-clause-hub
returns-in-Some-clause-hub c =
    let d = c.args.set.now in
    let x : ObjectView = object_of c.args.x in
    let loaded = c.hub.ensures.loaded in
    let at = c.in-Some.ensures in
    let s = at.0 in
    let all = c.spokes-in-Some.result.now in
    let same : all ≡ d.spokes = c.spokes-in-Some.ensures.value in
    let place : slice_get all.items c.in-Some.p ≡ Some s = subst (λ (a : Spokes). slice_get a.items c.in-Some.p ≡ Some s) (sym same) at.1 in
    if_both (λ (h : Object). GoesOver all s x (object_of h)) (λ (h : Object). IsWholeHub all (object_of h)) (λ (h : Object). HasHub d c.args.v x (object_of h)) c.to_hub.result (
    λ h g w.
    let over : GoesOver d.spokes s x (object_of h) = subst (λ (a : Spokes). GoesOver a s x (object_of h)) same g in
    let whole : IsWholeHub d.spokes (object_of h) = subst (λ (a : Spokes). IsWholeHub a (object_of h)) same w in
    gone_over d loaded c.args.v x c.requires c.given.ensures s c.in-Some.p at.2 at.1 (object_of h) c.len.ensures.sound over whole
    ) (c.to_hub.ensures.over s place) c.to_hub.ensures.whole

pub returns-in-Some-clause-value : goal.returns-in-Some-clause-value
returns-in-Some-clause-value c = λ passed.
    let d = c.args.set.now in
    let x : ObjectView = object_of c.args.x in
    let at = c.in-Some.ensures in
    let s = at.0 in
    let all = c.spokes-in-Some.result.now in
    let same : all ≡ d.spokes = c.spokes-in-Some.ensures.value in
    let place : slice_get all.items c.in-Some.p ≡ Some s = subst (λ (a : Spokes). slice_get a.items c.in-Some.p ≡ Some s) (sym same) at.1 in
    let whole : IsWholeDefinition d.view = subst (λ (w : DefinitionView). IsWholeDefinition w) c.definition.ensures.value c.versions.ensures.whole in
    if_both (λ (h : Object). GoesOver all s x (object_of h)) (λ (h : Object). IsWholeHub all (object_of h)) (λ (h : Object). IsWholeValue d (object_of h)) c.to_hub.result (
    λ h g w.
    over_whole d c.hub.ensures.loaded c.args.v s c.requires.known at.2 x (object_of h) whole passed (subst (λ (a : Spokes). IsWholeHub a (object_of h)) same w) (subst (λ (a : Spokes). GoesOver a s x (object_of h)) same g)
    ) (c.to_hub.ensures.over s place) c.to_hub.ensures.whole

pub returns-in-Some-clause-bad : goal.returns-in-Some-clause-bad
returns-in-Some-clause-bad c =
    let d = c.args.set.now in
    let notes = (object_of c.args.x).meta.annotations in
    let at = c.in-Some.ensures in
    let all = c.spokes-in-Some.result.now in
    let place : slice_get all.items c.in-Some.p ≡ Some at.0 = subst (λ (a : Spokes). slice_get a.items c.in-Some.p ≡ Some at.0) (sym c.spokes-in-Some.ensures.value) at.1 in
    subst (λ (a : Spokes). IfErr c.to_hub.result (IsFaultOf a (own_name (seat d c.args.v)) notes)) c.spokes-in-Some.ensures.value (subst (λ (z : Seat). IfErr c.to_hub.result (IsFaultOf all (own_name z) notes)) (sym at.2) (c.to_hub.ensures.err at.0 place))
