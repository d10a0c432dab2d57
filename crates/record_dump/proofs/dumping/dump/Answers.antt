use Rattle.std.proofs.Common.{refl, ◌∙◌, inl, arith}
use Rattle.record_dump.specs.Dumps.{at_first}
use Rattle.record_dump.specs.inner.Seen.{walk_of}
use Rattle.record_dump.proofs.Taking.{blames_later, broken_maps, handed_more}
use Rattle.record_dump.proofs.Leading.{goes_start, goes_more, goes_end}
use Rattle.record_dump.proofs.dumping.dump.Goals as goal

pub loop-end-init : goal.loop-end-init
loop-end-init g c = record {
  made = goes_start _ (record { exchanges = g.R.Link.exchanges c.args.far.now; log = g.R.Far.log c.args.far.now }) (record { group = c.args.place.now.group.bytes; version = c.args.place.now.version.bytes; plural = c.args.place.now.plural.bytes }) at_first (walk_of c.new-walk.result) (g.K.Sink.written c.args.out.now) c.new-walk.ensures.start;
  walking = c.new-walk.ensures.walking;
  base = refl;
  later = omega arith;
  handed_on = inl refl;
  sink_later = omega arith;
}

pub returns-in-Ended-clause-made : goal.returns-in-Ended-clause-made
returns-in-Ended-clause-made g c =
    goes_end _ (record { exchanges = g.R.Link.exchanges c.args.far.now; log = g.R.Far.log c.args.far.now }) (record { exchanges = g.R.Link.exchanges c.loop-end.far; log = g.R.Far.log c.loop-end.far }) (record { exchanges = g.R.Link.exchanges c.turn.new.far; log = g.R.Far.log c.turn.new.far }) (record { group = c.args.place.now.group.bytes; version = c.args.place.now.version.bytes; plural = c.args.place.now.plural.bytes }) at_first c.loop-end.walk c.turn.new.walk (g.K.Sink.written c.args.out.now) (g.K.Sink.written c.loop-end.out) (g.K.Sink.written c.turn.new.out) c.in-Ended.end c.loop-end.invariant.made
    (rw c.loop-end.invariant.base at c.in-Ended.ensures.made)

pub returns-in-Ended-clause-cause : goal.returns-in-Ended-clause-cause
returns-in-Ended-clause-cause g c =
    blames_later _ _ _ _ c.in-Ended.end (λ rose. omega (arith, rose, c.loop-end.invariant.later)) (λ rose. omega (arith, rose, c.loop-end.invariant.sink_later)) c.in-Ended.ensures.cause

pub returns-in-Ended-clause-handed_on : goal.returns-in-Ended-clause-handed_on
returns-in-Ended-clause-handed_on g c =
    broken_maps _ _ c.in-Ended.end (λ step. handed_more g.K.Sink.written g.K.Sink.flushed c.args.out.now c.loop-end.out c.turn.new.out c.loop-end.invariant.handed_on step) c.in-Ended.ensures.handed_on

pub loop-end-preserved : goal.loop-end-preserved
loop-end-preserved g c = record {
  made =
      goes_more _ (record { exchanges = g.R.Link.exchanges c.args.far.now; log = g.R.Far.log c.args.far.now }) (record { exchanges = g.R.Link.exchanges c.loop-end.far; log = g.R.Far.log c.loop-end.far }) (record { exchanges = g.R.Link.exchanges c.turn.new.far; log = g.R.Far.log c.turn.new.far }) (record { group = c.args.place.now.group.bytes; version = c.args.place.now.version.bytes; plural = c.args.place.now.plural.bytes }) at_first c.loop-end.walk c.turn.new.walk (g.K.Sink.written c.args.out.now) (g.K.Sink.written c.loop-end.out) (g.K.Sink.written c.turn.new.out) c.loop-end.invariant.made
      (rw c.loop-end.invariant.base at c.in-More.ensures.made);
  walking = c.in-More.ensures.walking;
  base = c.turn.ensures.base ∙ c.loop-end.invariant.base;
  later = omega (arith, c.turn.ensures.later.0, c.loop-end.invariant.later);
  handed_on = handed_more g.K.Sink.written g.K.Sink.flushed c.args.out.now c.loop-end.out c.turn.new.out c.loop-end.invariant.handed_on c.in-More.ensures.handed_on;
  sink_later = omega (arith, c.turn.ensures.later.1, c.loop-end.invariant.sink_later);
}
