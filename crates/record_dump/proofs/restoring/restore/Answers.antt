use Rattle.std.proofs.Common.{refl, ◌∙◌, arith}
use Rattle.record_dump.specs.Restores.{none_yet}
use Rattle.record_dump.specs.inner.Posted.{counts_of}
use Rattle.record_dump.proofs.Lining.{prepend_nil}
use Rattle.record_dump.proofs.Stepping.{goes_start, goes_more, goes_end, blames_later}
use Rattle.record_dump.proofs.restoring.restore.Goals as goal

pub loop-end-init : goal.loop-end-init
loop-end-init g c = record {
  made = goes_start _ (record { exchanges = g.R.Link.exchanges c.args.far.now; log = g.R.Far.log c.args.far.now }) (record { group = c.args.place.now.group.bytes; version = c.args.place.now.version.bytes; plural = c.args.place.now.plural.bytes }) none_yet none_yet (g.S.Source.left c.args.input.now) c.new-lines.result (prepend_nil (g.S.Source.left c.args.input.now)) c.new-lines.ensures refl;
  few = omega arith;
  base = refl;
  later = omega arith;
  source_later = omega arith;
}

pub returns-in-Ended-clause-made : goal.returns-in-Ended-clause-made
returns-in-Ended-clause-made g c =
    goes_end _ (record { exchanges = g.R.Link.exchanges c.args.far.now; log = g.R.Far.log c.args.far.now }) (record { exchanges = g.R.Link.exchanges c.loop-end.far; log = g.R.Far.log c.loop-end.far }) (record { exchanges = g.R.Link.exchanges c.turn.new.far; log = g.R.Far.log c.turn.new.far }) (record { group = c.args.place.now.group.bytes; version = c.args.place.now.version.bytes; plural = c.args.place.now.plural.bytes }) none_yet (counts_of c.loop-end.counts) (counts_of c.turn.new.counts) (g.S.Source.left c.args.input.now) (g.S.Source.left c.loop-end.input) (g.S.Source.left c.turn.new.input) c.loop-end.lines c.turn.new.lines c.in-Ended.end c.loop-end.invariant.made
    (rw c.loop-end.invariant.base at c.in-Ended.ensures.made)

pub returns-in-Ended-clause-cause : goal.returns-in-Ended-clause-cause
returns-in-Ended-clause-cause g c =
    blames_later _ _ _ _ c.in-Ended.end (λ rose. omega (arith, rose, c.loop-end.invariant.later)) (λ rose. omega (arith, rose, c.loop-end.invariant.source_later)) c.in-Ended.ensures.cause

pub loop-end-preserved : goal.loop-end-preserved
loop-end-preserved g c = record {
  made =
      goes_more _ (record { exchanges = g.R.Link.exchanges c.args.far.now; log = g.R.Far.log c.args.far.now }) (record { exchanges = g.R.Link.exchanges c.loop-end.far; log = g.R.Far.log c.loop-end.far }) (record { exchanges = g.R.Link.exchanges c.turn.new.far; log = g.R.Far.log c.turn.new.far }) (record { group = c.args.place.now.group.bytes; version = c.args.place.now.version.bytes; plural = c.args.place.now.plural.bytes }) none_yet (counts_of c.loop-end.counts) (counts_of c.turn.new.counts) (g.S.Source.left c.args.input.now) (g.S.Source.left c.loop-end.input) (g.S.Source.left c.turn.new.input) c.loop-end.lines c.turn.new.lines c.loop-end.invariant.made
      (rw c.loop-end.invariant.base at c.in-More.ensures.made);
  few = c.turn.ensures.few;
  base = c.turn.ensures.base ∙ c.loop-end.invariant.base;
  later = omega (arith, c.turn.ensures.later.0, c.loop-end.invariant.later);
  source_later = omega (arith, c.turn.ensures.later.1, c.loop-end.invariant.source_later);
}
