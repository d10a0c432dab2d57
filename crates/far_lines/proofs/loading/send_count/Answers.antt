use Rattle.std.proofs.Common.{◌++◌}
use Rattle.std.specs.Prelude.{codes}
use Rattle.std.proofs.lemmas.Result.{err_from_is_err_and}
use Rattle.edge_io.specs.laws.Sending.{adds_more, adds_fewer, sends_more}
use Rattle.far_lines.proofs.loading.send_count.Goals as goal

pub returns-in_err-send-clause-sent : goal.returns-in_err-send-clause-sent
returns-in_err-send-clause-sent g c =
    let p = err_from_is_err_and c.from_residual.result c.from_residual.ensures.1 in
    rw p.1 (adds_fewer (g.K.Sink.written c.args.output.now) (g.K.Sink.written c.send.new.out) c.args.word.now (c.args.number.now ++ codes "\n") c.in_err-send.ensures.sent)

pub returns-in_err-send-2-clause-sent : goal.returns-in_err-send-2-clause-sent
returns-in_err-send-2-clause-sent g c =
    let p = err_from_is_err_and c.from_residual-in_err-send-2.result c.from_residual-in_err-send-2.ensures.1 in
    rw p.1 (adds_more (g.K.Sink.written c.args.output.now) (g.K.Sink.written c.send.new.out) (g.K.Sink.written c.send-2.new.out) c.args.word.now (c.args.number.now ++ codes "\n") c.in_ok-send.ensures.sent
    (adds_fewer (g.K.Sink.written c.send.new.out) (g.K.Sink.written c.send-2.new.out) c.args.number.now (codes "\n") c.in_err-send-2.ensures.sent))

pub returns-clause-sent : goal.returns-clause-sent
returns-clause-sent g c =
    sends_more (g.K.Sink.written c.args.output.now) (g.K.Sink.written c.send.new.out) (g.K.Sink.written c.send-3.new.out) c.args.word.now (c.args.number.now ++ codes "\n") c.send-3.result c.in_ok-send.ensures.sent
    (sends_more (g.K.Sink.written c.send.new.out) (g.K.Sink.written c.send-2.new.out) (g.K.Sink.written c.send-3.new.out) c.args.number.now (codes "\n") c.send-3.result c.in_ok-send-2.ensures.sent c.send-3.ensures.sent)
