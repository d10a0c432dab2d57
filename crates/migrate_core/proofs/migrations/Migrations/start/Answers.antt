use Rattle.migrate_core.proofs.NameFits.{name_fits}
use Rattle.migrate_core.proofs.migrations.Migrations.start.Goals as goal

pub add-requires-clause-fits : goal.add-requires-clause-fits
add-requires-clause-fits c = name_fits c.args.name.bytes c.requires

pub returns-clause-plan : goal.returns-clause-plan
returns-clause-plan c = c.add.ensures
