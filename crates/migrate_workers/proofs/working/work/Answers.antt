use Rattle.std.proofs.Common.{ap, sym}
use Rattle.migrate_workers.proofs.working.work.Goals as goal

pub returns-clause-works : goal.returns-clause-works
returns-clause-works g c = record {
  last = record {
    view = c.take_turns-end.new.pass.view;
    claim = c.take_turns-end.new.w.claim;
    faults = g.V.Tool.Tool.faults c.take_turns-end.new.pass.tool;
  };
  ran = c.take_turns-end.ensures.ran;
  held = c.give_back.ensures.answer.0;
  gave = c.give_back.ensures.answer.1;
  faults = ap (λ (t : g.row.V-Tool.Denot). g.V.Tool.Tool.faults t) (sym c.give_back.ensures.tool);
}
