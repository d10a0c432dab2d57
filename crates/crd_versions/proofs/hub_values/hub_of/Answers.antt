use Rattle.kube_meta.specs.View.{object_of}
use Rattle.api_calls.specs.laws.SpelledLaws.{stored-text}
use Rattle.crd_meaning.specs.Meant.{meant}
use Rattle.crd_versions.proofs.StoredForms.{form_back, hub_back, is_stored, stored_of, whole_levels, stored_levels}
use Rattle.crd_versions.proofs.hub_values.hub_of.Goals as goal

pub read_form-requires : goal.read_form-requires
read_form-requires c =
    let s = c.requires.1 in
    (s.form, stored-text (meant c.args.set.now) c.args.v c.requires.0 c.args.stored.now (c.standing.ensures c.args.set.now c.hub.ensures.loaded) s)

pub place-requires : goal.place-requires
place-requires c = c.requires.1.known

pub taken_back-requires : goal.taken_back-requires
taken_back-requires c =
    let at = c.in-Some.ensures in
    (c.requires.0, form_back c.args.set.now c.spokes.result.now c.args.v c.in-Some.p c.requires.0 (object_of c.in_ok-x.x) c.args.stored.now at.0 (c.standing.ensures c.args.set.now c.hub.ensures.loaded) c.in_ok-x.ensures c.requires.1 c.spokes.ensures.value at.1 at.2)

pub returns-in-Some-clause-hub : goal.returns-in-Some-clause-hub
returns-in-Some-clause-hub c =
    let at = c.in-Some.ensures in
    let back = form_back c.args.set.now c.spokes.result.now c.args.v c.in-Some.p c.requires.0 (object_of c.in_ok-x.x) c.args.stored.now at.0 (c.standing.ensures c.args.set.now c.hub.ensures.loaded) c.in_ok-x.ensures c.requires.1 c.spokes.ensures.value at.1 at.2 in
    stored_of c.args.set.now c.args.v c.requires.0 c.args.stored.now c.taken_back.result c.requires.1 (c.taken_back.ensures c.requires.0 back)

pub returns-in-Some-clause-levels : goal.returns-in-Some-clause-levels
returns-in-Some-clause-levels c =
    let at = c.in-Some.ensures in
    let stand = c.standing.ensures c.args.set.now c.hub.ensures.loaded in
    let back = form_back c.args.set.now c.spokes.result.now c.args.v c.in-Some.p c.requires.0 (object_of c.in_ok-x.x) c.args.stored.now at.0 stand c.in_ok-x.ensures c.requires.1 c.spokes.ensures.value at.1 at.2 in
    stored_levels c.args.set.now c.requires.0 c.taken_back.result stand c.requires.1.whole (c.taken_back.ensures c.requires.0 back)

pub returns-in-None-clause-hub : goal.returns-in-None-clause-hub
returns-in-None-clause-hub c =
    is_stored c.args.set.now c.args.v c.requires.0 (object_of c.in_ok-x.x) c.args.stored.now (
    hub_back c.args.set.now c.args.v c.requires.0 (object_of c.in_ok-x.x) c.args.stored.now (c.standing.ensures c.args.set.now c.hub.ensures.loaded) c.in_ok-x.ensures c.requires.1 c.in-None.ensures
    ) c.requires.1

pub returns-in-None-clause-levels : goal.returns-in-None-clause-levels
returns-in-None-clause-levels c =
    let stand = c.standing.ensures c.args.set.now c.hub.ensures.loaded in
    whole_levels c.args.set.now c.requires.0 (object_of c.in_ok-x.x) stand c.requires.1.whole (hub_back c.args.set.now c.args.v c.requires.0 (object_of c.in_ok-x.x) c.args.stored.now stand c.in_ok-x.ensures c.requires.1 c.in-None.ensures)
