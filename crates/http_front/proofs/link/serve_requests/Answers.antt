use Rattle.std.proofs.Common.{◌∙◌, None, refl, sym, arith}
use Rattle.http_front.specs.Steps.{point_of}
use Rattle.http_front.specs.Paced.{none_yet}
use Rattle.http_front.proofs.Calling.{quiet_on, same_number, same_on}
use Rattle.http_front.proofs.Ending.{blames_by, finishes_by, flushed_by, handed_by, links_by, so_far_by, turn_by}
use Rattle.http_front.proofs.Pacing.{took, finished}
use Rattle.http_front.proofs.Talking.{so_far_from, ended_spent}
use Rattle.http_front.proofs.link.serve_requests.Goals as goal

pub loop-count-init : goal.loop-count-init
loop-count-init g c = record {
  of = c.requires.of;
  so_far = λ n named. so_far_from _ _ _ _ _ c.requires.empty;
  paced = λ n named. none_yet;
  most = refl;
  same = refl;
  quiet = λ n named m other known. refl;
  flushed = λ first. first;
  few = omega arith;
  read_later = omega arith;
  write_later = omega arith;
  origin = refl;
  number = refl;
}

pub loop-count-preserved : goal.loop-count-preserved
loop-count-preserved g c = record {
  of = c.serve_one-one.ensures.of;
  so_far = λ n named. so_far_by _ _ _ _ _ _ _ _ _ _ _ (c.loop-count.invariant.so_far n named) c.serve_one-one.result (sym c.in_default.ensures)
      (c.serve_one-one.ensures.did n (same_number c.args.pass.now.view c.loop-count.pass.view n c.loop-count.invariant.same named));
  paced = λ n named. turn_by _ _ _ _ _ _ _ _ _ (c.loop-count.invariant.paced n named) c.serve_one-one.result (sym c.in_default.ensures)
      (took g.S.Source.left g.K.Sink.written g.K.Sink.flushed g.S.Source.most
      (c.serve_one-one.ensures.did n (same_number c.args.pass.now.view c.loop-count.pass.view n c.loop-count.invariant.same named))
      c.serve_one-one.ensures.ready c.serve_one-one.ensures.prompt c.serve_one-one.ensures.flushed c.loop-count.invariant.most);
  most = c.serve_one-one.ensures.most ∙ c.loop-count.invariant.most;
  same = same_on c.args.pass.now.view c.loop-count.pass.view c.serve_one-one.new.pass.view c.loop-count.invariant.same c.serve_one-one.ensures.same;
  quiet = λ n named. quiet_on n c.args.pass.now.view c.loop-count.pass.view c.serve_one-one.new.pass.view c.loop-count.invariant.same (c.loop-count.invariant.quiet n named)
      (c.serve_one-one.ensures.quiet n (same_number c.args.pass.now.view c.loop-count.pass.view n c.loop-count.invariant.same named));
  flushed = λ first. handed_by c.serve_one-one.result _ _ (sym c.in_default.ensures) c.serve_one-one.ensures.flushed;
  few = omega arith;
  read_later = omega (arith, c.serve_one-one.ensures.read_later, c.loop-count.invariant.read_later);
  write_later = omega (arith, c.serve_one-one.ensures.write_later, c.loop-count.invariant.write_later);
  origin = c.serve_one-one.ensures.origin ∙ c.loop-count.invariant.origin;
  number = c.serve_one-one.ensures.number ∙ c.loop-count.invariant.number;
}

pub returns-in-Some-clause-links : goal.returns-in-Some-clause-links
returns-in-Some-clause-links g c = λ n named.
    links_by _ _ _ _ _ _ _ _ _ _ _ _ (c.loop-count.invariant.so_far n named) c.loop-count-test.true c.serve_one-one.result c.in-Some.end (sym c.in-Some.ensures)
    (c.serve_one-one.ensures.did n (same_number c.args.pass.now.view c.loop-count.pass.view n c.loop-count.invariant.same named))

pub returns-in-Some-clause-paced : goal.returns-in-Some-clause-paced
returns-in-Some-clause-paced g c = λ n named.
    finished _ _ (c.loop-count.invariant.paced n named)
    (finishes_by _ _ _ _ _ _ _ c.serve_one-one.result c.in-Some.end (sym c.in-Some.ensures)
    (took g.S.Source.left g.K.Sink.written g.K.Sink.flushed g.S.Source.most
    (c.serve_one-one.ensures.did n (same_number c.args.pass.now.view c.loop-count.pass.view n c.loop-count.invariant.same named))
    c.serve_one-one.ensures.ready c.serve_one-one.ensures.prompt c.serve_one-one.ensures.flushed c.loop-count.invariant.most))

pub returns-in-Some-clause-same : goal.returns-in-Some-clause-same
returns-in-Some-clause-same g c = same_on c.args.pass.now.view c.loop-count.pass.view c.serve_one-one.new.pass.view c.loop-count.invariant.same c.serve_one-one.ensures.same

pub returns-in-Some-clause-quiet : goal.returns-in-Some-clause-quiet
returns-in-Some-clause-quiet g c = λ n named.
    quiet_on n c.args.pass.now.view c.loop-count.pass.view c.serve_one-one.new.pass.view c.loop-count.invariant.same (c.loop-count.invariant.quiet n named)
    (c.serve_one-one.ensures.quiet n (same_number c.args.pass.now.view c.loop-count.pass.view n c.loop-count.invariant.same named))

pub returns-in-Some-clause-flushed : goal.returns-in-Some-clause-flushed
returns-in-Some-clause-flushed g c =
    flushed_by g.K.Sink.flushed g.K.Sink.written _ c.loop-count.output c.serve_one-one.new.output c.loop-count.invariant.flushed c.serve_one-one.result c.in-Some.end (sym c.in-Some.ensures) c.serve_one-one.ensures.flushed

pub returns-in-Some-clause-blames : goal.returns-in-Some-clause-blames
returns-in-Some-clause-blames g c =
    blames_by _ _ _ _ (λ rose. omega (arith, rose, c.loop-count.invariant.read_later)) (λ rose. omega (arith, rose, c.loop-count.invariant.write_later)) c.serve_one-one.result c.in-Some.end (sym c.in-Some.ensures) c.serve_one-one.ensures.blames

pub returns-clause-links : goal.returns-clause-links
returns-clause-links g c = λ n named.
    ended_spent _ _ _ _ (point_of g.V.Tool.Tool.faults c.loop-count.pass) _ _ _ None _ _ (g.K.Sink.written c.loop-count.output) (c.loop-count.invariant.so_far n named) (omega (arith, c.loop-count.invariant.few))

pub returns-clause-flushed : goal.returns-clause-flushed
returns-clause-flushed g c = c.loop-count.invariant.flushed

pub returns-clause-paced : goal.returns-clause-paced
returns-clause-paced g c = λ n named. finished _ _ (c.loop-count.invariant.paced n named) (refl, refl)
