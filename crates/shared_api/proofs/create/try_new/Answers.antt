use Rattle.std.proofs.Common.{◌≡◌, ◌<◌, ℕ, Err, ap, sym, subst, ◌∙◌}
use Rattle.kube_meta.specs.Key.{KeyView}
use Rattle.kube_meta.specs.View.{object_of}
use Rattle.api_calls.specs.Ends.{WriteEnd}
use Rattle.api_calls.specs.Refusal.{refusal_of}
use Rattle.api_calls.specs.Replies.{code_created}
use Rattle.api_calls.specs.declared.versions.ConvFault.{ConvFault}
use Rattle.api_core.specs.Ends.{create_end}
use Rattle.api_core.specs.Prepared.{PreparesValue}
use Rattle.shared_api.specs.Base.{server_of}
use Rattle.write_texts.specs.Readying.{Tells}
use Rattle.shared_api.specs.inner.WriteTurns.{Commits, Created, creates}
use Rattle.shared_api.specs.declared.cell.CoreBase.{CoreBase}
use Rattle.shared_api.proofs.Committing.{created-number}
use Rattle.shared_api.proofs.Results.{created-tries, failed-results}
use Rattle.shared_api.proofs.create.try_new.Goals as goal

pub enter_new-end-requires-clause-value : goal.enter_new-end-requires-clause-value
enter_new-end-requires-clause-value g c =
    let base = c.requires.base in (
      base.0,
      base.1,
      subst (λ (x : g.row.V.Denot). PreparesValue (g.V.Versions.meaning x) c.in-Ok.prepared (object_of c.args.new.now.hub)) base.2 c.in-Ok.ensures.ready.prepares,
    )

pub told_new-requires-clause-born : goal.told_new-requires-clause-born
told_new-requires-clause-born g c rv is =
    let base = c.requires.base in
    let s = server_of g.V.Versions.meaning base.0 in
    let v = c.args.pass.now.seat.me.0 in
    let z = c.enter_new-end.new.pass.seat.me.0 in
    let h = object_of c.args.new.now.hub in
    created-number s v z c.args.new.now.v c.in-Ok.prepared h rv
    (subst (λ (e : WriteEnd). Commits s v z (creates s c.args.new.now.v c.in-Ok.prepared h) e) is (c.enter_new-end.ensures.commits base.0 base.1))

pub returns-in-Ok-clause-tries : goal.returns-in-Ok-clause-tries
returns-in-Ok-clause-tries g c b is =
    let base = c.requires.base in
    let new = c.args.new.now in
    let h = object_of new.hub in
    let ready = c.in-Ok.ensures.ready in
    let value = c.requires.value in
    let same : base.0 ≡ b = (let first = base.1 in cc (first, is)) in
    let versions = base.2 ∙ ap (λ (x : CoreBase g.row.V.Denot). x.versions) same in
    let boots = base.3 ∙ ap (λ (x : CoreBase g.row.V.Denot). x.boot) same in
    let tells = c.told_new.ensures new.v h ready.seals in
    let there = subst (λ (x : g.row.V.Denot). Tells (g.V.Versions.meaning x) c.args.lent.now.boot code_created new.v c.in-Ok.name.bytes h (create_end c.enter_new-end.result) c.told_new.result) versions tells in
    created-tries (server_of g.V.Versions.meaning b) (g.V.Tool.Tool.faults c.args.tool.now < g.V.Tool.Tool.faults c.ready_new.new.tool)
    c.args.pass.now.seat.me.0 c.enter_new-end.new.pass.seat.me.0 new.v c.in-Ok.prepared h new.weight c.in-Ok.name.bytes (create_end c.enter_new-end.result) c.told_new.result
    (c.enter_new-end.ensures.commits b is) (ready.key ∙ sym value.key) ready.weight (c.in-Ok.ensures.name ∙ sym (ap (λ (k : KeyView). k.name) value.key))
    (subst (λ (n : ℕ). Tells (g.V.Versions.meaning b.versions) n code_created new.v c.in-Ok.name.bytes h (create_end c.enter_new-end.result) c.told_new.result) boots there)
    (c.enter_new-end.ensures.storage b is)

pub returns-in-Err-clause-tries : goal.returns-in-Err-clause-tries
returns-in-Err-clause-tries g c b is =
    let new = c.args.new.now in
    failed-results (server_of g.V.Versions.meaning b) (g.V.Tool.Tool.faults c.args.tool.now < g.V.Tool.Tool.faults c.ready_new.new.tool) c.args.pass.now.seat.me.0
    (Created (server_of g.V.Versions.meaning b) new.v (object_of new.hub) new.weight) c.in-Err.fault (refusal_of c.from.result.refusal)
    (λ tool. c.ready_new.ensures.tool (c.in-Err.is ∙ ap (λ (f : ConvFault). Err f) tool)) c.from.ensures
