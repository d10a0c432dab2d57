use Rattle.serve_spans.proofs.Spans.{all_on}
use Rattle.serve_many.specs.Answered.{IsAnswered, front_of, sides}
use Rattle.serve_many.proofs.laws.stays_served.Goals as goal

pub returns : goal.returns
returns g c told q z es ss on h = all_on (IsAnswered g.V.Tool.Tool.faults (sides g.A.In.Source.left g.A.In.Source.most g.A.Out.Sink.written g.A.Out.Sink.flushed) (front_of g.V.Versions.meaning c.args.api.now.base told)) q z es ss on h
