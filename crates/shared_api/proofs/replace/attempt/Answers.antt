use Rattle.std.proofs.Common.{◌≡◌, ◌<◌, ℕ, None, ap, subst, ◌∙◌}
use Rattle.kube_meta.specs.View.{object_of}
use Rattle.api_calls.specs.Replies.{ShowsObject, code_ok}
use Rattle.call_texts.specs.Told.{Came, decided}
use Rattle.shared_api.specs.Base.{server_of}
use Rattle.shared_api.specs.declared.cell.CoreBase.{CoreBase}
use Rattle.shared_api.proofs.Replaces.{same-settled}
use Rattle.shared_api.proofs.replace.attempt.Goals as goal

pub unchanged-requires-clause-known : goal.unchanged-requires-clause-known
unchanged-requires-clause-known g c = c.requires.goes.1.made.known

pub unchanged-requires-clause-whole : goal.unchanged-requires-clause-whole
unchanged-requires-clause-whole g c = c.requires.goes.1.made.whole

pub unchanged-requires-clause-born : goal.unchanged-requires-clause-born
unchanged-requires-clause-born g c = c.requires.goes.1.made.born

pub returns-then-is_there-clause-tries : goal.returns-then-is_there-clause-tries
returns-then-is_there-clause-tries g c b q is goes =
    let base = c.requires.base in
    let change = c.args.change.now in
    let same : base.0 ≡ b = (let first = base.1 in cc (first, is)) in
    let versions = base.2 ∙ ap (λ (x : CoreBase g.row.V.Denot). x.versions) same in
    let boots = base.3 ∙ ap (λ (x : CoreBase g.row.V.Denot). x.boot) same in
    let rose = g.V.Tool.Tool.faults c.args.tool.now < g.V.Tool.Tool.faults c.unchanged.new.tool in
    let both = c.is_there.ensures.0 c.if-is_there.true in
    let came = subst
    (λ (x : g.row.V.Denot). Came rose (λ a i. ShowsObject (g.V.Versions.meaning x) c.args.lent.now.boot code_ok change.v (object_of change.hub) change.over change.born a) (decided c.unchanged.result) None)
    versions c.unchanged.ensures.came in
    same-settled (server_of g.V.Versions.meaning b) rose c.args.pass.now.seat.me.0 q c.args.key.now change c.args.storage (decided c.unchanged.result) goes c.requires.stays both.0 both.1
    (subst (λ (n : ℕ). Came rose (λ a i. ShowsObject (g.V.Versions.meaning b.versions) n code_ok change.v (object_of change.hub) change.over change.born a) (decided c.unchanged.result) None)
    boots came)

pub put-requires-clause-changes : goal.put-requires-clause-changes
put-requires-clause-changes g c = λ equal at.
    let there = c.is_there.ensures.1 (equal, at) in
    let never = c.if-is_there.false in absurd (cc (there, never))
