use Rattle.std.proofs.Common.{◌≡◌, true}
use Rattle.kj_value.specs.Seen.{json}
use Rattle.far_migrate.specs.declared.ending.Refused.TheVariants as refused
use Rattle.far_migrate.proofs.OnePut.{put_same, put_other, put_ended}
use Rattle.far_migrate.proofs.putting.put_once.Goals as goal

pub returns-then-is_same-clause-made : goal.returns-then-is_same-clause-made
returns-then-is_same-clause-made g c = put_same _ (record { exchanges = g.R.Link.exchanges c.args.far.now; log = g.R.Far.log c.args.far.now }) (record { exchanges = g.R.Link.exchanges c.put_one.new.far; log = g.R.Far.log c.put_one.new.far }) (record { group = c.args.place.now.group.bytes; version = c.args.place.now.version.bytes; plural = c.args.place.now.plural.bytes }) c.args.key.now (json c.args.body.now) (json c.in-Ok.now) c.in-Ok.ensures.given (c.is_same.ensures.0 c.if-is_same.true)

pub returns-else-is_same-clause-made : goal.returns-else-is_same-clause-made
returns-else-is_same-clause-made g c = put_other _ (record { exchanges = g.R.Link.exchanges c.args.far.now; log = g.R.Far.log c.args.far.now }) (record { exchanges = g.R.Link.exchanges c.put_one.new.far; log = g.R.Far.log c.put_one.new.far }) (record { group = c.args.place.now.group.bytes; version = c.args.place.now.version.bytes; plural = c.args.place.now.plural.bytes }) c.args.key.now (json c.args.body.now) (json c.in-Ok.now) c.in-Ok.ensures.given
    (λ e. let same : c.is_same.result ≡ true = c.is_same.ensures.1 e in cc (same, c.if-is_same.false))

pub returns-in-Gone-clause-made : goal.returns-in-Gone-clause-made
returns-in-Gone-clause-made g c = put_ended _ (record { exchanges = g.R.Link.exchanges c.args.far.now; log = g.R.Far.log c.args.far.now }) (record { exchanges = g.R.Link.exchanges c.put_one.new.far; log = g.R.Far.log c.put_one.new.far }) (record { group = c.args.place.now.group.bytes; version = c.args.place.now.version.bytes; plural = c.args.place.now.plural.bytes }) c.args.key.now (json c.args.body.now) c.in-Err.end refused.Gone c.in-Err.ensures.end c.in-Gone.ensures

pub returns-in-Fault-clause-made : goal.returns-in-Fault-clause-made
returns-in-Fault-clause-made g c = put_ended _ (record { exchanges = g.R.Link.exchanges c.args.far.now; log = g.R.Far.log c.args.far.now }) (record { exchanges = g.R.Link.exchanges c.put_one.new.far; log = g.R.Far.log c.put_one.new.far }) (record { group = c.args.place.now.group.bytes; version = c.args.place.now.version.bytes; plural = c.args.place.now.plural.bytes }) c.args.key.now (json c.args.body.now) c.in-Err.end (refused.Fault c.in-Fault.fault) c.in-Err.ensures.end c.in-Fault.ensures
