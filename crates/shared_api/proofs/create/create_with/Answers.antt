use Rattle.std.proofs.Common.{◌≡◌, ◌⊎◌, ◌<◌, ℕ, Option, pos, Some, None, Err, Result, false, true, inl, refl, ap, sym, subst, ◌∙◌, arith}
use Rattle.std.specs.Prelude.{IfSome, IsTrue}
use Rattle.std.proofs.lemmas.Result.{err_from_is_err_and}
use Rattle.kube_meta.specs.Shapes.{shaped}
use Rattle.kube_meta.specs.declared.object.Shape.{Shape}
use Rattle.kube_meta.specs.View.{ObjectView, object_of}
use Rattle.api_calls.specs.Calls.{answered, create}
use Rattle.api_calls.specs.Item.{items}
use Rattle.api_calls.specs.Meaning.{Weighs}
use Rattle.api_calls.specs.Refusal.{RefusalView, no_memory, refusal_of}
use Rattle.api_calls.specs.State.{served, state}
use Rattle.api_calls.specs.Values.{created_value}
use Rattle.api_calls.specs.Versions.{AreFlags, Refused, request_of}
use Rattle.api_calls.specs.declared.reply.Reply.{Reply}
use Rattle.api_calls.specs.declared.refusal.Refusal.{Refusal}
use Rattle.turn_cell.specs.declared.view.View.{View}
use Rattle.call_texts.specs.Told.{decided}
use Rattle.shared_api.specs.Answered.{CallsOn}
use Rattle.shared_api.specs.Base.{server_of}
use Rattle.call_texts.specs.Faults.{admission}
use Rattle.shared_api.specs.inner.WriteTurns.{Created, Results}
use Rattle.shared_api.specs.declared.cell.CoreBase.{CoreBase}
use Rattle.call_texts.specs.declared.refused.Refused as made
use Rattle.shared_api.proofs.Results.{admitted_calls, create_calls, reads-writes, refused_came, results-join, unserved_calls}
use Rattle.shared_api.proofs.Shaping.{shape-stamped}
use Rattle.shared_api.proofs.create.create_with.Goals as goal

pub returns-then-not-is_served-clause-answer : goal.returns-then-not-is_served-clause-answer
returns-then-not-is_served-clause-answer g c b is =
    let settled = c.settle.ensures.settles b is in
    let never : served (state (g.V.Versions.meaning b.versions) (items settled.log)).flags c.args.input.now.version ≡ false =
    ap (λ f. served f c.args.input.now.version) (sym settled.flags) ∙ sym c.is_served.ensures.served ∙ c.if-not-is_served.true in
    unserved_calls (server_of g.V.Versions.meaning b) (g.V.Tool.Tool.faults c.args.tool.now < g.V.Tool.Tool.faults c.args.tool.now) c.args.stamp.text
    c.args.pass.now.seat.me.0 c.settle.new.pass.seat.me.0 settled.log (request_of c.args.input.now) settled.reads never

pub admit-requires-clause-known : goal.admit-requires-clause-known
admit-requires-clause-known g c =
    let base = c.requires.base in
    let settled = c.settle.ensures.settles base.0 base.1 in
    let flags = subst (λ (x : g.row.V.Denot). AreFlags (g.V.Versions.meaning x).count c.settle.result.0) (sym base.2) settled.are_flags in
    record { known = c.is_served.ensures.known (g.V.Versions.meaning c.args.lent.now.versions.now).count flags c.if-not-is_served.false; ns = c.requires.ns }

pub fresh_of-requires-clause-request : goal.fresh_of-requires-clause-request
fresh_of-requires-clause-request g c =
    let base = c.requires.base in
    let settled = c.settle.ensures.settles base.0 base.1 in
    let flags = subst (λ (x : g.row.V.Denot). AreFlags (g.V.Versions.meaning x).count c.settle.result.0) (sym base.2) settled.are_flags in
    record { known = c.is_served.ensures.known (g.V.Versions.meaning c.args.lent.now.versions.now).count flags c.if-not-is_served.false; ns = c.requires.ns }

pub enter-requires-clause-known : goal.enter-requires-clause-known
enter-requires-clause-known g c =
    let base = c.requires.base in
    let settled = c.settle.ensures.settles base.0 base.1 in
    let flags = subst (λ (x : g.row.V.Denot). AreFlags (g.V.Versions.meaning x).count c.settle.result.0) (sym base.2) settled.are_flags in
    subst (λ (n : ℕ). n < (g.V.Versions.meaning c.args.lent.now.versions.now).count) (sym c.in_ok-new.ensures.v)
    (c.is_served.ensures.known (g.V.Versions.meaning c.args.lent.now.versions.now).count flags c.if-not-is_served.false)

pub enter-requires-clause-storage : goal.enter-requires-clause-storage
enter-requires-clause-storage g c =
    let base = c.requires.base in
    let settled = c.settle.ensures.settles base.0 base.1 in
    (subst (λ (x : g.row.V.Denot). AreFlags (g.V.Versions.meaning x).count c.settle.result.0) (sym base.2) settled.are_flags).storage

pub enter-requires-clause-shape : goal.enter-requires-clause-shape
enter-requires-clause-shape g c =
    let it = c.args.lent.now.versions.now in
    let m = g.V.Versions.meaning it in
    let v = c.settle.result.0.storage in
    let h : ObjectView = object_of c.in-Ok.admitted.hub in
    let shape = c.take-shape.result in
    let its = subst (λ (o : Option Shape). IfSome o (λ p. m.pair v h (shaped p h))) (sym c.take-shape.ensures.value) c.in-Ok.ensures.shape in
    subst (λ (o : ObjectView). IfSome shape (λ p. m.pair v o (shaped p o))) (sym c.in_ok-new.ensures.hub)
    (shape-stamped m (g.met.V.Versions.unstamped it) v h (Some c.args.stamp.text) None (pos 1) shape its)

pub enter-requires-clause-base : goal.enter-requires-clause-base
enter-requires-clause-base g c =
    let base = c.requires.base in
    let settled = c.settle.ensures.settles base.0 base.1 in
    (base.0, ap (λ (q : View (CoreBase g.row.V.Denot)). q.base) settled.reads.turned.3 ∙ base.1, base.2, base.3)

pub returns-in-Err-clause-answer : goal.returns-in-Err-clause-answer
returns-in-Err-clause-answer g c b is =
    let base = c.requires.base in
    let same : base.0 ≡ b = (let first = base.1 in cc (first, is)) in
    let versions = base.2 ∙ ap (λ (x : CoreBase g.row.V.Denot). x.versions) same in
    let settled = c.settle.ensures.settles b is in
    let s = server_of g.V.Versions.meaning b in
    let rose = g.V.Tool.Tool.faults c.args.tool.now < g.V.Tool.Tool.faults c.admit.new.tool in
    let r = request_of c.args.input.now in
    let may : served (state (g.V.Versions.meaning b.versions) (items settled.log)).flags c.args.input.now.version ≡ true =
    ap (λ f. served f c.args.input.now.version) (sym settled.flags) ∙ sym c.is_served.ensures.served ∙ c.if-not-is_served.false in
    create_calls s rose c.args.stamp.text c.args.pass.now.seat.me.0 c.settle.new.pass.seat.me.0 settled.log r (Err (refusal_of c.not_admitted.result.refusal)) None
    (reads-writes s c.args.pass.now.seat.me.0 c.settle.new.pass.seat.me.0 settled.log settled.reads)
    (refused_came s rose c.args.stamp.text r (items settled.log) may c.in-Err.fault (refusal_of c.not_admitted.result.refusal)
    (subst (λ (x : g.row.V.Denot). Refused ((g.V.Versions.meaning x).refuses r) rose c.in-Err.fault) versions c.in-Err.ensures.refused)
    (subst (λ (x : g.row.V.Denot). (refusal_of c.not_admitted.result.refusal ≡ no_memory) ⊎ (refusal_of c.not_admitted.result.refusal ≡ admission (g.V.Versions.meaning x) c.in-Err.fault)) versions c.not_admitted.ensures))

pub returns-in_err-new-clause-answer : goal.returns-in_err-new-clause-answer
returns-in_err-new-clause-answer g c b is =
    let settled = c.settle.ensures.settles b is in
    let s = server_of g.V.Versions.meaning b in
    let rose = g.V.Tool.Tool.faults c.args.tool.now < g.V.Tool.Tool.faults c.admit.new.tool in
    let r = request_of c.args.input.now in
    let p = err_from_is_err_and c.from_residual.result c.from_residual.ensures.1 in
    let v = c.args.pass.now.seat.me.0 in
    let z = c.settle.new.pass.seat.me.0 in
    let calls = create_calls s rose c.args.stamp.text v z settled.log r (Err no_memory) None (reads-writes s v z settled.log settled.reads) refl in
    subst (λ (d : Result Reply made.Refused). CallsOn s rose c.args.stamp.text v z (create r) (answered (decided d))) (sym p.1)
    (subst (λ (e : RefusalView). CallsOn s rose c.args.stamp.text v z (create r) (answered (Err e))) (sym (ap (λ (e : Refusal). refusal_of e) p.2)) calls)

pub returns-clause-answer : goal.returns-clause-answer
returns-clause-answer g c b is =
    let base = c.requires.base in
    let same : base.0 ≡ b = (let first = base.1 in cc (first, is)) in
    let versions = base.2 ∙ ap (λ (x : CoreBase g.row.V.Denot). x.versions) same in
    let settled = c.settle.ensures.settles b is in
    let s = server_of g.V.Versions.meaning b in
    let later = g.V.Tool.Tool.faults c.admit.new.tool < g.V.Tool.Tool.faults c.enter.new.tool in
    let rose = g.V.Tool.Tool.faults c.args.tool.now < g.V.Tool.Tool.faults c.enter.new.tool in
    let r = request_of c.args.input.now in
    let v = c.args.pass.now.seat.me.0 in
    let w = c.settle.new.pass.seat.me.0 in
    let z = c.enter.new.pass.seat.me.0 in
    let a = decided c.enter.result in
    let new = c.in_ok-new.new in
    let old = object_of c.in-Ok.admitted.hub in
    let there : w.base ≡ Some b = ap (λ (q : View (CoreBase g.row.V.Denot)). q.base) settled.reads.turned.3 ∙ is in
    let rises = c.admit.ensures.rises in
    let came = c.enter.ensures.came b there in
    let by_version = subst (λ (n : ℕ). Results s later w z (Created s n (object_of new.hub) new.weight) a) c.in_ok-new.ensures.v came in
    let by_value = subst (λ (o : ObjectView). Results s later w z (Created s r.version o new.weight) a) c.in_ok-new.ensures.hub by_version in
    let by_weight = subst (λ (n : ℕ). Results s later w z (Created s r.version (created_value c.args.stamp.text old) n) a) c.in_ok-new.ensures.weight by_value in
    admitted_calls s rose c.args.stamp.text v w z settled.log r old c.in-Ok.admitted.expected c.in-Ok.admitted.weight a
    (subst (λ (x : g.row.V.Denot). (g.V.Versions.meaning x).admits r old c.in-Ok.admitted.expected) versions c.in-Ok.ensures.ok)
    (subst (λ (x : g.row.V.Denot). IsTrue (g.V.Versions.meaning x).honest → Weighs (g.V.Versions.meaning x) old c.in-Ok.admitted.weight) versions c.in-Ok.ensures.weighs)
    settled.reads
    (results-join s rose later w w z (Created s r.version (created_value c.args.stamp.text old) c.in-Ok.admitted.weight) a (λ more. omega (arith, rises, more)) (inl refl) by_weight)
