use Rattle.kube_meta.specs.View.{ObjectView, object_of}
use Rattle.kube_meta.specs.Shapes.{shaped}
use Rattle.kube_meta.specs.declared.object.Shape.{Shape}
use Rattle.keep_laws.specs.Spokes.{api_version}
use Rattle.keep_laws.specs.Pair.{IsPairOf}
use Rattle.keep_laws.specs.WholeHub.{IsSettledAt}
use Rattle.keep_laws.proofs.Made.{form_writable}
use Rattle.spoke_keep.specs.inner.Shaping.{IsMadeOf}
use Rattle.spoke_keep.proofs.Shaping.{shapes_form}
use Rattle.spoke_keep.proofs.Steps.{if_ok}
use Rattle.spoke_keep.proofs.form.shape_for.Goals as goal

pub notes_for-notes-requires-clause-order : goal.notes_for-notes-requires-clause-order
notes_for-notes-requires-clause-order c =
    (form_writable c.given.ensures c.args.all.now c.requires.place.0 c.args.s.now c.items.ensures.definition c.requires.place.1 (object_of c.args.h.now) c.in-Ok.made.fields c.in-Ok.made.kept c.in-Ok.ensures.0 c.requires.whole c.in-Ok.ensures.2).order

pub notes_for-notes-requires-clause-levels : goal.notes_for-notes-requires-clause-levels
notes_for-notes-requires-clause-levels c =
    (form_writable c.given.ensures c.args.all.now c.requires.place.0 c.args.s.now c.items.ensures.definition c.requires.place.1 (object_of c.args.h.now) c.in-Ok.made.fields c.in-Ok.made.kept c.in-Ok.ensures.0 c.requires.whole c.in-Ok.ensures.2).levels

pub returns-in-Ok-notes-clause-pair : goal.returns-in-Ok-notes-clause-pair
returns-in-Ok-notes-clause-pair c =
    let h : ObjectView = object_of c.args.h.now in
    if_ok (λ (p : Shape). IsMadeOf (api_version c.group.result.now.bytes c.name.result.now.bytes) c.in-Ok-notes.notes c.in-Ok.made.fields p) (λ (p : Shape). IsPairOf c.args.all.now c.args.s.now (shaped p h) h) c.shape_named.result (
    λ p m. (shapes_form c.given.ensures c.args.all.now c.requires.place.0 c.args.s.now c.items.ensures.definition c.requires.place.1 h c.requires.whole c.in-Ok.made.fields c.in-Ok.made.kept c.in-Ok-notes.notes c.key.result.now c.group.result.now.bytes c.name.result.now.bytes c.key.ensures c.group.ensures c.name.ensures c.in-Ok.ensures c.in-Ok-notes.ensures p m).0
    ) c.shape_named.ensures

pub returns-in-Ok-notes-clause-settled : goal.returns-in-Ok-notes-clause-settled
returns-in-Ok-notes-clause-settled c =
    let h : ObjectView = object_of c.args.h.now in
    if_ok (λ (p : Shape). IsMadeOf (api_version c.group.result.now.bytes c.name.result.now.bytes) c.in-Ok-notes.notes c.in-Ok.made.fields p) (λ (p : Shape). IsSettledAt c.args.all.now c.args.s.now (shaped p h)) c.shape_named.result (
    λ p m. (shapes_form c.given.ensures c.args.all.now c.requires.place.0 c.args.s.now c.items.ensures.definition c.requires.place.1 h c.requires.whole c.in-Ok.made.fields c.in-Ok.made.kept c.in-Ok-notes.notes c.key.result.now c.group.result.now.bytes c.name.result.now.bytes c.key.ensures c.group.ensures c.name.ensures c.in-Ok.ensures c.in-Ok-notes.ensures p m).1
    ) c.shape_named.ensures
