use Rattle.shared_api.specs.Passes.{IsOf}
use Rattle.test_calls.proofs.script.run.Given as goal

abbrev pub invariant-loop-line : goal.invariant-loop-line
invariant-loop-line g l = record {
  first : IsOf g.V.Versions.meaning l.api l.first;
  second : IsOf g.V.Versions.meaning l.api l.second;
}
