use Rattle.std.proofs.Common.{refl, arith}
use Rattle.record_region.proofs.Walks.{walk_more}
use Rattle.record_region.proofs.Stores.{part_is, written_more, others_more, content-written}
use Rattle.record_region.proofs.chains.fill.Goals as goal

pub loop-step-preserved : goal.loop-step-preserved
loop-step-preserved c =
    record {
      next = walk_more c.args.links.now c.loop-step.chunk c.loop-step.step c.args.first c.loop-step.invariant.next;
      written = written_more c.loop-step.store c.write.new.store c.args.links.now c.args.bytes.now _ c.args.first c.loop-step.step c.loop-step.chunk c.loop-step.invariant.next (part_is c.args.bytes.now c.loop-step.step _ c.min-end.result refl c.min-end.ensures) c.loop-step.invariant.written (λ j p. c.requires.apart j c.loop-step.step p (omega arith)) c.write.ensures.written c.write.ensures.others;
      others = others_more c.loop-step.store c.write.new.store c.args.store.now c.args.links.now c.args.first c.loop-step.step c.loop-step.chunk c.loop-step.invariant.next c.loop-step.invariant.others c.write.ensures.others;
    }

pub returns-clause-filled : goal.returns-clause-filled
returns-clause-filled c = content-written c.loop-step.store c.args.links.now c.args.bytes.now c.args.first _ refl (λ j p. c.loop-step.invariant.written j (omega arith))
