use Rattle.std.proofs.Common.{arith}
use Rattle.serve_spans.proofs.Going.{going_worked}
use Rattle.serve_many.specs.Helping.{none_yet, one_more}
use Rattle.serve_many.specs.Answered.{IsAnswered, front_of, sides}
use Rattle.serve_many.proofs.Answering.{answered_grows}
use Rattle.serve_many.proofs.Rounds.{goes_self, goes_on, goes_worked}
use Rattle.serve_many.proofs.accepting.help_out.Goals as goal

pub loop-i-init : goal.loop-i-init
loop-i-init g c = record { of = c.requires.of; goes = goes_self c.args.pass.now.view; helps = none_yet; going = λ told n asked v0 h0 g0 crew jobs count handed given start. start }

pub loop-i-preserved : goal.loop-i-preserved
loop-i-preserved g c = record {
  of = c.work_between.ensures.of;
  goes = goes_on c.args.pass.now.view c.loop-i.pass.view c.work_between.new.pass.view c.loop-i.invariant.goes (goes_worked c.loop-i.pass.view c.work_between.new.pass.view c.work_between.ensures.worked);
  helps = one_more c.loop-i._i (g.V.Tool.Tool.faults c.loop-i.pass.tool) (g.V.Tool.Tool.faults c.work_between.new.pass.tool) c.loop-i.pass.view c.work_between.new.pass.view c.loop-i.invariant.helps c.work_between.ensures.helps;
  going = λ told n asked v0 h0 g0 crew jobs count handed given start.
      let f = front_of g.V.Versions.meaning c.args.api.now.base told in
      going_worked (IsAnswered g.V.Tool.Tool.faults (sides g.A.In.Source.left g.A.In.Source.most g.A.Out.Sink.written g.A.Out.Sink.flushed) f) (answered_grows g.V.Tool.Tool.faults (sides g.A.In.Source.left g.A.In.Source.most g.A.Out.Sink.written g.A.Out.Sink.flushed) f) n asked c.args.idle v0 h0 g0 crew jobs c.loop-i.pass.view c.work_between.new.pass.view count handed given
      (c.loop-i.invariant.going told n asked v0 h0 g0 crew jobs count handed given start) (omega arith) c.work_between.ensures.worked;
}
