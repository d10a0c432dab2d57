use Rattle.std.proofs.Common.{◌≡◌, ◌<◌, ℕ, Err, inl, ap, subst, ◌∙◌}
use Rattle.kube_meta.specs.View.{object_of}
use Rattle.api_calls.specs.Ends.{WriteEnd}
use Rattle.api_calls.specs.Item.{items}
use Rattle.api_calls.specs.Refusal.{refusal_of}
use Rattle.api_calls.specs.Replies.{code_ok}
use Rattle.api_calls.specs.declared.versions.ConvFault.{ConvFault}
use Rattle.api_core.specs.Ends.{replace_end}
use Rattle.api_core.specs.Prepared.{PreparesValue, Replacing}
use Rattle.shared_api.specs.Base.{server_of}
use Rattle.write_texts.specs.Readying.{Tells}
use Rattle.shared_api.specs.inner.WriteTurns.{Commits, SeenAt, replaces}
use Rattle.write_texts.specs.Replacing.{RepliesToReplace}
use Rattle.shared_api.specs.declared.cell.CoreBase.{CoreBase}
use Rattle.shared_api.proofs.Replaces.{over-attempts, over-born, over-seen}
use Rattle.shared_api.proofs.Results.{failed-results}
use Rattle.shared_api.proofs.replace.put.Goals as goal

pub ready_over-requires-clause-known : goal.ready_over-requires-clause-known
ready_over-requires-clause-known g c = c.requires.goes.1.made.known

pub ready_over-requires-clause-storage : goal.ready_over-requires-clause-storage
ready_over-requires-clause-storage g c = c.requires.goes.1.stands.known

pub ready_over-requires-clause-whole : goal.ready_over-requires-clause-whole
ready_over-requires-clause-whole g c = c.requires.goes.1.made.whole

pub ready_over-requires-clause-key : goal.ready_over-requires-clause-key
ready_over-requires-clause-key g c = c.requires.goes.1.made.key

pub ready_over-requires-clause-weighs : goal.ready_over-requires-clause-weighs
ready_over-requires-clause-weighs g c = c.requires.goes.1.made.weighs

pub ready_over-requires-clause-counts : goal.ready_over-requires-clause-counts
ready_over-requires-clause-counts g c = c.requires.goes.1.made.counts

pub ready_over-requires-clause-some : goal.ready_over-requires-clause-some
ready_over-requires-clause-some g c = c.requires.goes.1.made.some

pub enter_over-end-requires-clause-value : goal.enter_over-end-requires-clause-value
enter_over-end-requires-clause-value g c =
    let base = c.requires.base in
    let goes = c.requires.goes in
    let ready = c.in-Ok.ensures.ready in
    let change = c.args.change.now in
    let h = object_of change.hub in
    let log = items c.args.pass.now.seat.me.0.seen in (
      base.0,
      base.1,
      subst (λ (x : g.row.V.Denot). PreparesValue (g.V.Versions.meaning x) c.in-Ok.prepared h) base.2 ready.prepares,
      subst (λ (x : g.row.V.Denot). SeenAt (g.V.Versions.meaning x) log c.in-Ok.prepared.key change.over (Replacing c.in-Ok.prepared h)) base.2
          (over-seen (g.V.Versions.meaning c.args.lent.now.versions.now) goes.0 c.args.key.now log change c.args.storage c.in-Ok.prepared goes.1 c.requires.stays c.requires.changes ready.key ready.at),
    )

pub told_over-requires-clause-born : goal.told_over-requires-clause-born
told_over-requires-clause-born g c rv born is =
    let base = c.requires.base in
    let s = server_of g.V.Versions.meaning base.0 in
    let v = c.args.pass.now.seat.me.0 in
    let z = c.enter_over-end.new.pass.seat.me.0 in
    let change = c.args.change.now in
    let h = object_of change.hub in
    over-born s v z change.v change.over c.in-Ok.prepared h rv born
    (subst (λ (e : WriteEnd). Commits s v z (replaces s change.v change.over c.in-Ok.prepared h) e) is (c.enter_over-end.ensures.commits base.0 base.1))

pub returns-in-Ok-clause-tries : goal.returns-in-Ok-clause-tries
returns-in-Ok-clause-tries g c b q is goes =
    let base = c.requires.base in
    let change = c.args.change.now in
    let h = object_of change.hub in
    let ready = c.in-Ok.ensures.ready in
    let same : base.0 ≡ b = (let first = base.1 in cc (first, is)) in
    let versions = base.2 ∙ ap (λ (x : CoreBase g.row.V.Denot). x.versions) same in
    let boots = base.3 ∙ ap (λ (x : CoreBase g.row.V.Denot). x.boot) same in
    let tells = c.told_over.ensures change.v h ready.seals in
    let there = subst (λ (x : g.row.V.Denot). Tells (g.V.Versions.meaning x) c.args.lent.now.boot code_ok change.v c.in-Ok.name.bytes h (replace_end c.enter_over-end.result) c.told_over.result) versions tells in
    over-attempts (server_of g.V.Versions.meaning b) (g.V.Tool.Tool.faults c.args.tool.now < g.V.Tool.Tool.faults c.ready_over.new.tool)
    c.args.pass.now.seat.me.0 c.enter_over-end.new.pass.seat.me.0 q c.args.key.now change c.args.storage c.in-Ok.prepared c.in-Ok.name.bytes (replace_end c.enter_over-end.result) c.told_over.result
    goes c.requires.stays c.requires.changes (c.enter_over-end.ensures.commits b is) ready.key ready.at ready.weight c.in-Ok.ensures.name
    (subst (λ (n : ℕ). Tells (g.V.Versions.meaning b.versions) n code_ok change.v c.in-Ok.name.bytes h (replace_end c.enter_over-end.result) c.told_over.result) boots there)
    (c.enter_over-end.ensures.storage b is)

pub returns-in-Err-clause-tries : goal.returns-in-Err-clause-tries
returns-in-Err-clause-tries g c b q is goes =
    inl (failed-results (server_of g.V.Versions.meaning b) (g.V.Tool.Tool.faults c.args.tool.now < g.V.Tool.Tool.faults c.ready_over.new.tool) c.args.pass.now.seat.me.0
    (RepliesToReplace (server_of g.V.Versions.meaning b) q c.args.key.now) c.in-Err.fault (refusal_of c.from.result.refusal)
    (λ tool. c.ready_over.ensures.tool (c.in-Err.is ∙ ap (λ (f : ConvFault). Err f) tool)) c.from.ensures)
