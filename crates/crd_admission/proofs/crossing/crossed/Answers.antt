use Rattle.std.proofs.Common.{◌≡◌, ◌∙◌}
use Rattle.kube_meta.specs.View.{ObjectView, object_of}
use Rattle.hub_cells.specs.Level.{Name}
use Rattle.crd_meaning.specs.Definition.{seat}
use Rattle.crd_admission.specs.NoHub.{IsUnreadAt, IsTold}
use Rattle.crd_admission.proofs.Crossed.{one_with, told_unread}
use Rattle.crd_meaning.proofs.Left.{read_at}
use Rattle.crd_admission.proofs.Refusing.{refused_more}
use Rattle.crd_admission.proofs.crossing.crossed.Goals as goal

pub returns-in-Err-clause-refused : goal.returns-in-Err-clause-refused
returns-in-Err-clause-refused c =
    let d = c.args.set.now in
    let x : ObjectView = object_of c.args.x in
    let name : Name = c.in_ok-name.name.bytes in
    let same : name ≡ x.meta.name = c.in_ok-name.ensures ∙ c.as_str.ensures in
    refused_more (IsTold name c.in-Err.fault) (IsUnreadAt d c.args.v x) c.in_ok-badly_kept-in-Err.field-0 (told_unread d c.args.v x name c.in-Err.fault same c.in-Err.ensures.bad) c.in_ok-badly_kept-in-Err.ensures

pub form_at-requires-clause-whole : goal.form_at-requires-clause-whole
form_at-requires-clause-whole c = c.in-Ok.ensures.hub.whole

pub returns-clause-one : goal.returns-clause-one
returns-clause-one c =
    one_with c.args.set.now c.args.v c.args.to (object_of c.args.x) (object_of c.in-Ok.hub) (object_of c.in_ok-form_at.field-0) c.in-Ok.ensures.hub c.in_ok-form_at.ensures.form

pub returns-clause-read : goal.returns-clause-read
returns-clause-read c =
    let d = c.args.set.now in
    let hub = c.in-Ok.ensures.hub in
    λ k. read_at d.spokes (seat d c.args.v) (object_of c.args.x) hub.left hub.settles k
