use Rattle.shared_api.specs.Base.{server_of}
use Rattle.shared_api.specs.Passes.{IsOf}
use Rattle.migrate_workers.proofs.Going.{Going}
use Rattle.migrate_workers.proofs.working.take_turns.Given as goal

abbrev pub invariant-loop-i : goal.invariant-loop-i
invariant-loop-i g l = record {
  of : IsOf g.V.Versions.meaning l.api l.pass;
  going : Going (server_of g.V.Versions.meaning l.api.base) l._i
      (record { view = l.initial.pass.view; claim = l.initial.w.claim; faults = g.V.Tool.Tool.faults l.initial.pass.tool })
      (record { view = l.pass.view; claim = l.w.claim; faults = g.V.Tool.Tool.faults l.pass.tool })
      l.last g.G.Gate.answers l.initial.gate l.gate;
}
