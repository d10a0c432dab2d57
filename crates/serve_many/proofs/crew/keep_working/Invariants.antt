use Rattle.std.proofs.Common.{◌≡◌}
use Rattle.shared_api.specs.Passes.{IsOf}
use Rattle.serve_many.specs.Jobs.{Worked}
use Rattle.serve_many.proofs.crew.keep_working.Given as goal

abbrev pub invariant-loop : goal.invariant-loop
invariant-loop g l = record {
  of : IsOf g.V.Versions.meaning l.api l.pass;
  worked : Worked l.fn.pass.view l.pass.view;
  flag : g.G.PatientGate.flag l.gate ≡ g.G.PatientGate.flag l.fn.gate;
}
