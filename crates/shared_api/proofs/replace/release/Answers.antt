use Rattle.std.proofs.Common.{◌≡◌, ◌<◌, ℕ, Err, ap, subst, ◌∙◌}
use Rattle.kube_meta.specs.View.{object_of}
use Rattle.api_calls.specs.Ends.{WriteEnd}
use Rattle.api_calls.specs.Item.{items}
use Rattle.api_calls.specs.Refusal.{refusal_of}
use Rattle.api_calls.specs.Replies.{Wrote, code_ok}
use Rattle.api_calls.specs.declared.versions.ConvFault.{ConvFault}
use Rattle.api_core.specs.Ends.{release_end}
use Rattle.api_core.specs.Prepared.{IsEnding}
use Rattle.call_texts.specs.Told.{decided}
use Rattle.shared_api.specs.Base.{server_of}
use Rattle.shared_api.specs.inner.WriteTurns.{Commits, SeenAt, releases}
use Rattle.write_texts.specs.Replacing.{RepliesToReplace}
use Rattle.shared_api.specs.declared.cell.CoreBase.{CoreBase}
use Rattle.shared_api.proofs.Replaces.{ending-seen, release-born, release-results}
use Rattle.shared_api.proofs.Results.{failed-results}
use Rattle.shared_api.proofs.replace.release.Goals as goal

pub ready_release-requires-clause-known : goal.ready_release-requires-clause-known
ready_release-requires-clause-known g c = c.requires.goes.2.made.known

pub ready_release-requires-clause-whole : goal.ready_release-requires-clause-whole
ready_release-requires-clause-whole g c = c.requires.goes.2.made.whole

pub enter_release-end-requires-clause-value : goal.enter_release-end-requires-clause-value
enter_release-end-requires-clause-value g c =
    let base = c.requires.base in
    let goes = c.requires.goes in
    let change = c.args.change.now in
    let log = items c.args.pass.now.seat.me.0.seen in (
      base.0,
      base.1,
      subst (λ (x : g.row.V.Denot). SeenAt (g.V.Versions.meaning x) log c.args.key.now change.over IsEnding) base.2
          (ending-seen (g.V.Versions.meaning c.args.lent.now.versions.now) goes.0 c.args.key.now log change goes.1 goes.2 c.requires.ends),
    )

pub told_release-requires-clause-born : goal.told_release-requires-clause-born
told_release-requires-clause-born g c rv born is =
    let base = c.requires.base in
    let s = server_of g.V.Versions.meaning base.0 in
    let v = c.args.pass.now.seat.me.0 in
    let z = c.enter_release-end.new.pass.seat.me.0 in
    let change = c.args.change.now in
    release-born s v z change.v change.over c.args.key.now rv born
    (subst (λ (e : WriteEnd). Commits s v z (releases s change.v c.args.key.now change.over) e) is (c.enter_release-end.ensures.commits base.0 base.1))

pub returns-in-Ok-clause-came : goal.returns-in-Ok-clause-came
returns-in-Ok-clause-came g c b q storage is goes =
    let base = c.requires.base in
    let change = c.args.change.now in
    let h = object_of change.hub in
    let same : base.0 ≡ b = (let first = base.1 in cc (first, is)) in
    let versions = base.2 ∙ ap (λ (x : CoreBase g.row.V.Denot). x.versions) same in
    let boots = base.3 ∙ ap (λ (x : CoreBase g.row.V.Denot). x.boot) same in
    let wrote = c.told_release.ensures change.v h c.in-Ok.ensures.seals in
    let there = subst (λ (x : g.row.V.Denot). Wrote (g.V.Versions.meaning x) c.args.lent.now.boot code_ok change.v c.in-Ok.name.bytes h (release_end c.enter_release-end.result) (decided c.told_release.result)) versions wrote in
    release-results (server_of g.V.Versions.meaning b) (g.V.Tool.Tool.faults c.args.tool.now < g.V.Tool.Tool.faults c.ready_release.new.tool)
    c.args.pass.now.seat.me.0 c.enter_release-end.new.pass.seat.me.0 q c.args.key.now change storage c.in-Ok.name.bytes (release_end c.enter_release-end.result) (decided c.told_release.result)
    goes c.requires.ends (c.enter_release-end.ensures.commits b is) c.in-Ok.ensures.name
    (subst (λ (n : ℕ). Wrote (g.V.Versions.meaning b.versions) n code_ok change.v c.in-Ok.name.bytes h (release_end c.enter_release-end.result) (decided c.told_release.result)) boots there)

pub returns-in-Err-clause-came : goal.returns-in-Err-clause-came
returns-in-Err-clause-came g c b q storage is goes =
    failed-results (server_of g.V.Versions.meaning b) (g.V.Tool.Tool.faults c.args.tool.now < g.V.Tool.Tool.faults c.ready_release.new.tool) c.args.pass.now.seat.me.0
    (RepliesToReplace (server_of g.V.Versions.meaning b) q c.args.key.now) c.in-Err.fault (refusal_of c.from.result.refusal)
    (λ tool. c.ready_release.ensures.tool (c.in-Err.is ∙ ap (λ (f : ConvFault). Err f) tool)) c.from.ensures
