use Rattle.std.specs.Prelude.{codes}
use Rattle.std.proofs.lemmas.Result.{err_from_is_err_and}
use Rattle.edge_io.specs.laws.Sending.{adds_fewer, sends_more}
use Rattle.output_lines.specs.Lines.{ended_line}
use Rattle.output_lines.proofs.listening.tell_place.Goals as goal

pub returns-in_err-send-clause-sent : goal.returns-in_err-send-clause-sent
returns-in_err-send-clause-sent g c =
    let p = err_from_is_err_and c.from_residual.result c.from_residual.ensures.1 in
    rw p.1 (adds_fewer (g.K.Sink.written c.args.output.now) (g.K.Sink.written c.send.new.out) (codes "listening on ") (ended_line c.args.place.now) c.in_err-send.ensures.sent)

pub returns-clause-sent : goal.returns-clause-sent
returns-clause-sent g c =
    sends_more (g.K.Sink.written c.args.output.now) (g.K.Sink.written c.send.new.out) (g.K.Sink.written c.write_line.new.output) (codes "listening on ") (ended_line c.args.place.now)
    c.write_line.result c.in_ok-send.ensures.sent c.write_line.ensures.sent
