use Rattle.std.proofs.Common.{[], refl, sym, ◌∙◌, subst, arith}
use Rattle.wire_client.specs.laws.FarLaws.{made_nothing}
use Rattle.far_migrate.specs.Counts.{counts_of, fault_of}
use Rattle.far_migrate.specs.Puts.{all, failed}
use Rattle.far_migrate.specs.Pages.{Run, at_first, first_limit}
use Rattle.far_migrate.proofs.Going.{RunsOn, runs_start, run_goes, run_ends}
use Rattle.far_migrate.proofs.migrating.migrate.Goals as goal

pub loop-run-init : goal.loop-run-init
loop-run-init g c = record {
  made = ([], made_nothing _ (record { exchanges = g.R.Link.exchanges c.args.far.now; log = g.R.Far.log c.args.far.now }), subst (λ (r : Run). RunsOn (record { group = c.args.place.now.group.bytes; version = c.args.place.now.version.bytes; plural = c.args.place.now.plural.bytes }) (at_first first_limit 0) r []) (sym c.new-run.ensures.start) (runs_start (record { group = c.args.place.now.group.bytes; version = c.args.place.now.version.bytes; plural = c.args.place.now.plural.bytes }) (at_first first_limit 0)));
  running = c.new-run.ensures.running;
  base = refl;
  later = omega arith;
}

pub returns-in-Ok-Done-clause-made : goal.returns-in-Ok-Done-clause-made
returns-in-Ok-Done-clause-made g c =
    run_ends _ (record { exchanges = g.R.Link.exchanges c.args.far.now; log = g.R.Far.log c.args.far.now }) (record { exchanges = g.R.Link.exchanges c.loop-run.far; log = g.R.Far.log c.loop-run.far }) (record { exchanges = g.R.Link.exchanges c.turn.new.far; log = g.R.Far.log c.turn.new.far }) (record { group = c.args.place.now.group.bytes; version = c.args.place.now.version.bytes; plural = c.args.place.now.plural.bytes }) (at_first first_limit 0) c.loop-run.run (all (counts_of c.turn.new.run.counts)) c.loop-run.invariant.made
    (rw (c.in-Ok-Done.field-0-is, c.loop-run.invariant.base) at c.in-Ok-Done.ensures.made)

pub returns-in-Err-clause-made : goal.returns-in-Err-clause-made
returns-in-Err-clause-made g c =
    run_ends _ (record { exchanges = g.R.Link.exchanges c.args.far.now; log = g.R.Far.log c.args.far.now }) (record { exchanges = g.R.Link.exchanges c.loop-run.far; log = g.R.Far.log c.loop-run.far }) (record { exchanges = g.R.Link.exchanges c.turn.new.far; log = g.R.Far.log c.turn.new.far }) (record { group = c.args.place.now.group.bytes; version = c.args.place.now.version.bytes; plural = c.args.place.now.plural.bytes }) (at_first first_limit 0) c.loop-run.run (failed (fault_of c.in-Err.fault)) c.loop-run.invariant.made
    (rw c.loop-run.invariant.base at c.in-Err.ensures.made)

pub loop-run-preserved : goal.loop-run-preserved
loop-run-preserved g c = record {
  made =
      run_goes _ (record { exchanges = g.R.Link.exchanges c.args.far.now; log = g.R.Far.log c.args.far.now }) (record { exchanges = g.R.Link.exchanges c.loop-run.far; log = g.R.Far.log c.loop-run.far }) (record { exchanges = g.R.Link.exchanges c.turn.new.far; log = g.R.Far.log c.turn.new.far }) (record { group = c.args.place.now.group.bytes; version = c.args.place.now.version.bytes; plural = c.args.place.now.plural.bytes }) (at_first first_limit 0) c.loop-run.run c.turn.new.run c.loop-run.invariant.made
      (rw (c.in-Ok-More.field-0-is, c.loop-run.invariant.base) at c.in-Ok-More.ensures.made);
  running = c.in-Ok-More.ensures.running;
  base = c.turn.ensures.base ∙ c.loop-run.invariant.base;
  later = omega (arith, c.turn.ensures.later, c.loop-run.invariant.later);
}
