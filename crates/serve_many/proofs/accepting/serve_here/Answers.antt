use Rattle.std.proofs.Common.{◌≡◌, ℕ, Option, sym, subst}
use Rattle.edge_io.specs.Connections.{Origin, Ending, NumbersAgree}
use Rattle.serve_spans.specs.Spans.{Linked}
use Rattle.serve_many.specs.Answered.{IsAnswered, front_of, sides}
use Rattle.serve_many.proofs.Answering.{closes, handed, numbers_agree}
use Rattle.serve_many.proofs.accepting.serve_here.Goals as goal

pub shut-requires-clause-numbers : goal.shut-requires-clause-numbers
shut-requires-clause-numbers g c =
    let o = g.A.In.Source.origin c.args.input in
    let n = g.A.Out.Sink.number c.args.output in
    subst (λ (k : Option Origin × Option ℕ). NumbersAgree k.0 k.1) (λ i. (sym c.serve_link.ensures.origin i, sym c.serve_link.ensures.number i)) (numbers_agree o n c.requires.untouched.of)

pub shut-requires-clause-handed_on : goal.shut-requires-clause-handed_on
shut-requires-clause-handed_on g c =
    handed c.serve_link.result _ (g.A.Out.Sink.faults c.args.output) (g.A.Out.Sink.faults c.serve_link.new.output) _ _ c.requires.untouched.unwritten c.requires.untouched.handed_on c.serve_link.ensures.blames c.serve_link.ensures.flushed

pub returns-clause-served : goal.returns-clause-served
returns-clause-served g c = (
  g.A.Ears.ending c.shut.result,
  (λ n named.
      let u = c.requires.untouched in
      let f = front_of g.V.Versions.meaning c.args.api.now.base (g.C.Clock.told c.args.clock.now) in
      let v = c.args.pass.now.view in
      let z = c.serve_link.new.pass.view in
      let o = g.A.In.Source.origin c.args.input in
      subst (λ (e : Ending). Linked (IsAnswered g.V.Tool.Tool.faults (sides g.A.In.Source.left g.A.In.Source.most g.A.Out.Sink.written g.A.Out.Sink.flushed) f) n v o z e) (sym c.shut.ensures)
      (closes g.V.Tool.Tool.faults (sides g.A.In.Source.left g.A.In.Source.most g.A.Out.Sink.written g.A.Out.Sink.flushed) f n c.serve_link.result v z c.args.pass.now.tool c.serve_link.new.pass.tool c.args.input c.serve_link.new.input c.args.output c.serve_link.new.output
      o (g.A.In.Source.origin c.serve_link.new.input) (g.A.In.Source.faults c.args.input) (g.A.In.Source.faults c.serve_link.new.input) (g.A.Out.Sink.faults c.args.output) (g.A.Out.Sink.faults c.serve_link.new.output)
      u.whole u.empty u.handed_on u.unread u.unwritten c.serve_link.ensures.origin
      (c.serve_link.ensures.links n named) (c.serve_link.ensures.paced n named) c.serve_link.ensures.same (c.serve_link.ensures.quiet n named) c.serve_link.ensures.flushed c.serve_link.ensures.blames)),
  c.back.ensures.returned,
)
