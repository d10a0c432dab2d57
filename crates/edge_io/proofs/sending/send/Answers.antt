use Rattle.std.proofs.Common.{arith, ◌∙◌}
use Rattle.std.proofs.lemmas.Result.{err_from_is_err_and}
use Rattle.edge_io.specs.laws.Sending.{added_further, adds_front}
use Rattle.edge_io.proofs.sending.send.Goals as goal

pub returns-in_err-count-clause-sent : goal.returns-in_err-count-clause-sent
returns-in_err-count-clause-sent g c =
    let p = err_from_is_err_and c.from_residual.result c.from_residual.ensures.1 in
    rw (p.1, c.in_err-count.ensures.bytes) (adds_front _ _ _ _ c.loop-sent.invariant.wrote)

pub loop-sent-preserved : goal.loop-sent-preserved
loop-sent-preserved g c = record {
  within = omega (arith, c.in_ok-count.ensures.bound);
  wrote = added_further _ _ _ _ _ _ _ c.loop-sent.invariant.wrote c.in_ok-count.ensures.bytes (omega (arith, c.in_ok-count.ensures.bound));
  later = omega (arith, c.in_ok-count.ensures.cause.later);
  number = c.in_ok-count.ensures.number ∙ c.loop-sent.invariant.number;
}
