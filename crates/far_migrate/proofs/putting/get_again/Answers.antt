use Rattle.far_migrate.specs.declared.ending.Ungot.TheVariants as ungot
use Rattle.far_migrate.proofs.OnePut.{get_ended}
use Rattle.far_migrate.proofs.putting.get_again.Goals as goal

pub returns-in-Fault-clause-made : goal.returns-in-Fault-clause-made
returns-in-Fault-clause-made g c = get_ended _ (record { exchanges = g.R.Link.exchanges c.args.far.now; log = g.R.Far.log c.args.far.now }) (record { exchanges = g.R.Link.exchanges c.get_one.new.far; log = g.R.Far.log c.get_one.new.far }) (record { group = c.args.place.now.group.bytes; version = c.args.place.now.version.bytes; plural = c.args.place.now.plural.bytes }) c.args.key.now c.in-Err.end (ungot.Fault c.in-Fault.fault) c.in-Err.ensures.end c.in-Fault.ensures
