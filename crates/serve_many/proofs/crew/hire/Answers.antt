use Rattle.std.proofs.Common.{rules}
use Rattle.serve_many.proofs.Rounds.{goes_on}
use Rattle.serve_many.proofs.crew.hire.Goals as goal

pub loop-i-preserved : goal.loop-i-preserved
loop-i-preserved g c = record {
  of = c.hire_one-idle.ensures.of;
  room = search rules;
  idle = search rules;
  capacity = search rules;
  crew = c.hire_one-idle.ensures.crew;
  goes = goes_on c.args.pass.now.view c.loop-i.pass.view c.hire_one-idle.new.pass.view c.loop-i.invariant.goes c.hire_one-idle.ensures.goes;
  going = λ told n v0 h0 g0 jobs count handed given start. c.hire_one-idle.ensures.going told n c.loop-i._i c.loop-i.idle v0 h0 g0 jobs count handed given (c.loop-i.invariant.going told n v0 h0 g0 jobs count handed given start);
}
