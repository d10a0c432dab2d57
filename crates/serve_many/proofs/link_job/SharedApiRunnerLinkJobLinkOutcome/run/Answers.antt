use Rattle.std.proofs.Common.{◌≡◌, ℕ, Option, sym, subst}
use Rattle.edge_io.specs.Connections.{Origin, Ending, NumbersAgree}
use Rattle.shared_api.specs.Passes.{ApiOf, IsOf}
use Rattle.shared_api.specs.declared.cell.CoreBase.{CoreBase}
use Rattle.serve_spans.specs.Spans.{Linked}
use Rattle.serve_many.specs.Answered.{IsAnswered, front_of, sides}
use Rattle.serve_many.specs.Jobs.{Serves}
use Rattle.serve_many.proofs.Answering.{closes, handed, numbers_agree, same_server}
use Rattle.serve_many.proofs.link_job.SharedApiRunnerLinkJobLinkOutcome.run.Goals as goal

pub shut-requires-clause-numbers : goal.shut-requires-clause-numbers
shut-requires-clause-numbers g c =
    let o = g.A.In.Source.origin c.args.job.input in
    let n = g.A.Out.Sink.number c.args.job.output in
    subst (λ (k : Option Origin × Option ℕ). NumbersAgree k.0 k.1) (λ i. (sym c.serve_link.ensures.origin i, sym c.serve_link.ensures.number i)) (numbers_agree o n c.requires.ready.1.of)

pub shut-requires-clause-handed_on : goal.shut-requires-clause-handed_on
shut-requires-clause-handed_on g c =
    handed c.serve_link.result _ (g.A.Out.Sink.faults c.args.job.output) (g.A.Out.Sink.faults c.serve_link.new.output) _ _ c.requires.ready.1.unwritten c.requires.ready.1.handed_on c.serve_link.ensures.blames c.serve_link.ensures.flushed

pub returns : goal.returns
returns g c = record {
  done = λ a of.
      let meaning = g.V.Versions.meaning in
      let told = g.C.Clock.told c.args.job.clock.now in
      let u = c.requires.ready.1 in
      let p = c.args.job.pass in
      let r = c.serve_link.new.pass in
      let o = g.A.In.Source.origin c.args.job.input in
      let f = front_of meaning c.args.self.now.base told in
      let same : c.args.self.now ≡ a = same_server meaning c.args.self.now a p c.requires.ready.0 of in
      let served : Serves g.V.Tool.Tool.faults (sides g.A.In.Source.left g.A.In.Source.most g.A.Out.Sink.written g.A.Out.Sink.flushed) meaning c.args.self.now.base told p.view o r.view (g.A.Ears.ending c.shut.result) = λ n named.
      subst (λ (e : Ending). Linked (IsAnswered g.V.Tool.Tool.faults (sides g.A.In.Source.left g.A.In.Source.most g.A.Out.Sink.written g.A.Out.Sink.flushed) f) n p.view o r.view e) (sym c.shut.ensures)
      (closes g.V.Tool.Tool.faults (sides g.A.In.Source.left g.A.In.Source.most g.A.Out.Sink.written g.A.Out.Sink.flushed) f n c.serve_link.result p.view r.view p.tool r.tool c.args.job.input c.serve_link.new.input c.args.job.output c.serve_link.new.output
      o (g.A.In.Source.origin c.serve_link.new.input) (g.A.In.Source.faults c.args.job.input) (g.A.In.Source.faults c.serve_link.new.input) (g.A.Out.Sink.faults c.args.job.output) (g.A.Out.Sink.faults c.serve_link.new.output)
      u.whole u.empty u.handed_on u.unread u.unwritten c.serve_link.ensures.origin
      (c.serve_link.ensures.links n named) (c.serve_link.ensures.paced n named) c.serve_link.ensures.same (c.serve_link.ensures.quiet n named) c.serve_link.ensures.flushed c.serve_link.ensures.blames) in
      subst (λ (b : ApiOf (CoreBase g.row.V.Denot)). IsOf meaning b r × Serves g.V.Tool.Tool.faults (sides g.A.In.Source.left g.A.In.Source.most g.A.Out.Sink.written g.A.Out.Sink.flushed) meaning b.base told p.view o r.view (g.A.Ears.ending c.shut.result)) same (c.serve_link.ensures.of, served);
}
