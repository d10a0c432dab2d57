use Rattle.std.specs.Prelude.{codes}
use Rattle.std.proofs.lemmas.Result.{err_from_is_err_and}
use Rattle.edge_io.specs.laws.Sending.{adds_fewer, sends_more}
use Rattle.far_lines.specs.Loaded.{count_line, count_lines}
use Rattle.far_lines.proofs.loading.write_counts.Goals as goal

pub returns-in_err-write_count-clause-sent : goal.returns-in_err-write_count-clause-sent
unfolding count_lines
returns-in_err-write_count-clause-sent g c =
    let p = err_from_is_err_and c.from_residual.result c.from_residual.ensures.1 in
    rw p.1 (adds_fewer (g.K.Sink.written c.args.output.now) (g.K.Sink.written c.write_count.new.output) (count_line (codes "created ") c.args.created) (count_line (codes "present ") c.args.present) c.in_err-write_count.ensures.sent)

pub returns-clause-sent : goal.returns-clause-sent
unfolding count_lines
returns-clause-sent g c =
    sends_more (g.K.Sink.written c.args.output.now) (g.K.Sink.written c.write_count.new.output) (g.K.Sink.written c.write_count-2.new.output) (count_line (codes "created ") c.args.created) (count_line (codes "present ") c.args.present) c.write_count-2.result
    c.in_ok-write_count.ensures.sent c.write_count-2.ensures.sent
