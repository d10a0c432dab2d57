use Rattle.std.proofs.Common.{[]}
use Rattle.kj_value.specs.Seen.{json}
use Rattle.wire_client.specs.laws.FarLaws.{made_nothing}
use Rattle.far_migrate.specs.Puts as puts
use Rattle.far_migrate.proofs.paging.put_object.Goals as goal

pub returns-in-Err-clause-made : goal.returns-in-Err-clause-made
returns-in-Err-clause-made g c = ([], made_nothing _ (record { exchanges = g.R.Link.exchanges c.args.far.now; log = g.R.Far.log c.args.far.now }), puts.unput puts.most_puts (json c.args.object.now))
