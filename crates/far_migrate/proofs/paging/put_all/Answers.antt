use Rattle.std.proofs.Common.{◌+◌, ◌-◌, [], map, length, refl, ◌∙◌, arith}
use Rattle.kj_value.specs.Seen.{json}
use Rattle.wire_client.specs.laws.FarLaws.{made_nothing}
use Rattle.wire_client.specs.declared.buffer.TheConstants.{ANSWER_LEVELS}
use Rattle.far_migrate.specs.Counts.{counts_of, fault_of}
use Rattle.far_migrate.specs.inner.Ends.{kind_of}
use Rattle.far_migrate.proofs.Going.{goes_start, page_fails, page_goes, page_ends, listed_kept}
use Rattle.far_migrate.proofs.Objects.{depth_at, keyed_at}
use Rattle.far_migrate.proofs.paging.put_all.Goals as goal

pub loop-i-init : goal.loop-i-init
loop-i-init g c = record {
  made = ([], made_nothing _ (record { exchanges = g.R.Link.exchanges c.args.far.now; log = g.R.Far.log c.args.far.now }), goes_start (record { group = c.args.place.now.group.bytes; version = c.args.place.now.version.bytes; plural = c.args.place.now.plural.bytes }) (map json c.args.objects.now) (counts_of c.args.counts.now));
  owes = (omega (arith, c.requires.owes.0), c.requires.owes.1);
  same = refl;
  base = refl;
  later = omega arith;
}

pub put_object-requires-clause-levels : goal.put_object-requires-clause-levels
put_object-requires-clause-levels g c = depth_at c.args.objects.now c.loop-i.i c.index-objects-i.result ANSWER_LEVELS c.loop-i-test.true c.index-objects-i.is c.requires.levels

pub put_object-requires-clause-keyed : goal.put_object-requires-clause-keyed
put_object-requires-clause-keyed g c = keyed_at c.args.objects.now c.loop-i.i c.index-objects-i.result c.loop-i-test.true c.index-objects-i.is c.requires.keyed

pub count-requires : goal.count-requires
count-requires g c = (length c.args.objects.now - (c.loop-i.i + 1), (omega (arith, c.loop-i-test.true, c.loop-i.invariant.owes.0), c.loop-i.invariant.owes.1))

pub returns-in-Err-clause-made : goal.returns-in-Err-clause-made
returns-in-Err-clause-made g c =
    page_fails _ (record { exchanges = g.R.Link.exchanges c.args.far.now; log = g.R.Far.log c.args.far.now }) (record { exchanges = g.R.Link.exchanges c.loop-i.far; log = g.R.Far.log c.loop-i.far }) (record { exchanges = g.R.Link.exchanges c.put_object.new.far; log = g.R.Far.log c.put_object.new.far }) (record { group = c.args.place.now.group.bytes; version = c.args.place.now.version.bytes; plural = c.args.place.now.plural.bytes }) c.args.objects.now (counts_of c.args.counts.now) (counts_of c.loop-i.counts) c.loop-i.i c.index-objects-i.result (fault_of c.in-Err.fault)
    c.loop-i-test.true c.index-objects-i.is c.loop-i.invariant.made (rw c.loop-i.invariant.base at c.in-Err.ensures.made)

pub loop-i-preserved : goal.loop-i-preserved
loop-i-preserved g c = record {
  made =
      page_goes _ (record { exchanges = g.R.Link.exchanges c.args.far.now; log = g.R.Far.log c.args.far.now }) (record { exchanges = g.R.Link.exchanges c.loop-i.far; log = g.R.Far.log c.loop-i.far }) (record { exchanges = g.R.Link.exchanges c.put_object.new.far; log = g.R.Far.log c.put_object.new.far }) (record { group = c.args.place.now.group.bytes; version = c.args.place.now.version.bytes; plural = c.args.place.now.plural.bytes }) c.args.objects.now (counts_of c.args.counts.now) (counts_of c.loop-i.counts) (counts_of c.count.new.counts) c.loop-i.i c.index-objects-i.result (kind_of c.in-Ok.kind)
      c.loop-i-test.true c.index-objects-i.is c.count.ensures.counted c.loop-i.invariant.made (rw c.loop-i.invariant.base at c.in-Ok.ensures.made);
  owes = c.count.ensures.owes (length c.args.objects.now - (c.loop-i.i + 1)) (omega (arith, c.loop-i-test.true, c.loop-i.invariant.owes.0), c.loop-i.invariant.owes.1);
  same = listed_kept (kind_of c.in-Ok.kind) (counts_of c.loop-i.counts) (counts_of c.count.new.counts) c.count.ensures.counted ∙ c.loop-i.invariant.same;
  base = c.put_object.ensures.base ∙ c.loop-i.invariant.base;
  later = omega (arith, c.put_object.ensures.later, c.loop-i.invariant.later);
}

pub returns-clause-made : goal.returns-clause-made
returns-clause-made g c =
    page_ends _ (record { exchanges = g.R.Link.exchanges c.args.far.now; log = g.R.Far.log c.args.far.now }) (record { exchanges = g.R.Link.exchanges c.loop-i.far; log = g.R.Far.log c.loop-i.far }) (record { group = c.args.place.now.group.bytes; version = c.args.place.now.version.bytes; plural = c.args.place.now.plural.bytes }) c.args.objects.now (counts_of c.args.counts.now) (counts_of c.loop-i.counts) c.loop-i.i (omega (arith, c.loop-i-test.false)) c.loop-i.invariant.made
