use Rattle.far_migrate.proofs.KeyFits.{namespace_fits, name_fits}
use Rattle.far_migrate.proofs.ordering.copied.Goals as goal

pub of-requires-clause-ns_fits : goal.of-requires-clause-ns_fits
of-requires-clause-ns_fits c = namespace_fits c.args.key.ns.now c.requires.ns

pub of-requires-clause-name_fits : goal.of-requires-clause-name_fits
of-requires-clause-name_fits c = name_fits c.args.key.name.now c.requires.name
