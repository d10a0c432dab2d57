use Rattle.std.proofs.Common.{Bool, Ok, Err, sym, subst}
use Rattle.shared_api.specs.Base.{server_of}
use Rattle.shared_api.specs.declared.cell.CoreBase.{CoreBase}
use Rattle.migrate_workers.specs.Works.{At, IsTurn, Ran}
use Rattle.migrate_workers.specs.declared.working.WorkEnd.{WorkEnd}
use Rattle.migrate_workers.proofs.Going.{going-on, ran-failed, ran-stopped}
use Rattle.migrate_workers.proofs.working.take_turns.Goals as goal

pub returns-then-not-yes-clause-ran : goal.returns-then-not-yes-clause-ran
returns-then-not-yes-clause-ran g c =
    let p : At (CoreBase g.row.V.Denot) = record { view = c.args.pass.now.view; claim = c.args.w.now.claim; faults = g.V.Tool.Tool.faults c.args.pass.now.tool } in
    let q : At (CoreBase g.row.V.Denot) = record { view = c.loop-i.pass.view; claim = c.loop-i.w.claim; faults = g.V.Tool.Tool.faults c.loop-i.pass.tool } in
    ran-stopped (server_of g.V.Versions.meaning c.args.api.now.base) c.loop-i._i p q c.loop-i.last g.G.Gate.answers c.args.gate.now c.loop-i.gate c.go_on-yes.new.self
    c.loop-i.invariant.going c.args.turns c.loop-i-test.true
    (subst (λ (b : Bool). g.G.Gate.answers c.loop-i.gate c.loop-i.last b c.go_on-yes.new.self) c.if-not-yes.true c.go_on-yes.ensures)

pub returns-in-Err-clause-ran : goal.returns-in-Err-clause-ran
returns-in-Err-clause-ran g c =
    let p : At (CoreBase g.row.V.Denot) = record { view = c.args.pass.now.view; claim = c.args.w.now.claim; faults = g.V.Tool.Tool.faults c.args.pass.now.tool } in
    let q : At (CoreBase g.row.V.Denot) = record { view = c.loop-i.pass.view; claim = c.loop-i.w.claim; faults = g.V.Tool.Tool.faults c.loop-i.pass.tool } in
    let r : At (CoreBase g.row.V.Denot) = record { view = c.worker_turn.new.pass.view; claim = c.worker_turn.new.w.claim; faults = g.V.Tool.Tool.faults c.worker_turn.new.pass.tool } in
    let answer = c.in-Err.ensures.answer in
    let turn : IsTurn (server_of g.V.Versions.meaning c.args.api.now.base) q r (Err c.in-Err.fault) = record { told = answer.0; is = answer.1; calls = answer.2 } in
    subst
    (λ (e : WorkEnd). Ran (server_of g.V.Versions.meaning c.args.api.now.base) c.args.turns p r e g.G.Gate.answers c.args.gate.now c.go_on-yes.new.self)
    (sym c.end_of.ensures)
    (ran-failed (server_of g.V.Versions.meaning c.args.api.now.base) c.loop-i._i p q c.loop-i.last g.G.Gate.answers c.args.gate.now c.loop-i.gate c.go_on-yes.new.self
    c.loop-i.invariant.going c.args.turns r c.in-Err.fault c.loop-i-test.true
    (subst (λ (b : Bool). g.G.Gate.answers c.loop-i.gate c.loop-i.last b c.go_on-yes.new.self) c.if-not-yes.false c.go_on-yes.ensures) turn)

pub loop-i-preserved : goal.loop-i-preserved
loop-i-preserved g c =
    let p : At (CoreBase g.row.V.Denot) = record { view = c.args.pass.now.view; claim = c.args.w.now.claim; faults = g.V.Tool.Tool.faults c.args.pass.now.tool } in
    let q : At (CoreBase g.row.V.Denot) = record { view = c.loop-i.pass.view; claim = c.loop-i.w.claim; faults = g.V.Tool.Tool.faults c.loop-i.pass.tool } in
    let r : At (CoreBase g.row.V.Denot) = record { view = c.worker_turn.new.pass.view; claim = c.worker_turn.new.w.claim; faults = g.V.Tool.Tool.faults c.worker_turn.new.pass.tool } in
    let answer = c.in-Ok.ensures.answer in
    let turn : IsTurn (server_of g.V.Versions.meaning c.args.api.now.base) q r (Ok c.in-Ok.step) = record { told = answer.0; is = answer.1; calls = answer.2 } in
    record {
      of = c.worker_turn.ensures.of;
      going = going-on (server_of g.V.Versions.meaning c.args.api.now.base) c.loop-i._i p q c.loop-i.last g.G.Gate.answers c.args.gate.now c.loop-i.gate c.go_on-yes.new.self
          c.loop-i.invariant.going r c.in-Ok.step
          (subst (λ (b : Bool). g.G.Gate.answers c.loop-i.gate c.loop-i.last b c.go_on-yes.new.self) c.if-not-yes.false c.go_on-yes.ensures) turn;
    }
