use Rattle.std.proofs.Common.{◌∙◌}
use Rattle.api_calls.proofs.StartBodies.{one_name, never_both}
use Rattle.drill_steps.specs.Drilling.{drilled}
use Rattle.run_laws.proofs.drills.OneDrill.{tells_one}
use Rattle.run_laws.proofs.drills.one_drill.Goals as goal

pub returns : goal.returns
returns g c = λ it start count a b honest spoke hub x y.
    tells_one (drilled (g.V.Versions.meaning it))
    (record {
      honest = g.met.V.Versions.told it ∙ honest;
      admitted = g.met.V.Versions.admitted it;
      decides = g.met.V.Versions.decides it honest;
      one = g.met.V.Versions.one_to_one it honest;
      unstamped = g.met.V.Versions.unstamped it;
      stands = g.met.V.Versions.stand it;
      flags = g.met.V.Versions.decides_flags it;
      names = g.met.V.Versions.names it;
      starts = λ body n k. one_name c.one_reading.ensures (g.V.Versions.meaning it) body n k;
      never_both = λ body name f. never_both c.one_reading.ensures (g.V.Versions.meaning it) body name f;
    })
    c.one_reading.ensures c.stamp-stamp.ensures.stamp spoke hub start count a b x y
