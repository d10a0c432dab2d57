use Rattle.crd_meaning.specs.Definition.{no_version}
use Rattle.crd_admission.proofs.Schemas.{low_schema, own_schema}
use Rattle.crd_admission.proofs.opening.defaults_in.Goals as goal

pub returns-clause-own : goal.returns-clause-own
returns-clause-own c = own_schema c.args.definition.now.versions no_version c.args.v (tt, tt, tt, tt) c.versions.ensures.whole.defaults

pub returns-clause-low : goal.returns-clause-low
returns-clause-low c = low_schema c.args.definition.now no_version c.args.v (tt, tt, tt, tt) c.versions.ensures.whole
