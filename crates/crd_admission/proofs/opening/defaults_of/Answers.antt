use Rattle.std.proofs.Common.{subst}
use Rattle.std.specs.Prelude.{slice_index_or}
use Rattle.crd_reading.specs.View.{DefinitionView}
use Rattle.crd_meaning.specs.Definition.{no_version}
use Rattle.crd_admission.specs.Low.{HasLowDefaults}
use Rattle.crd_admission.proofs.Schemas.{low_schema}
use Rattle.crd_admission.proofs.opening.defaults_of.Goals as goal

pub returns-clause-low : goal.returns-clause-low
returns-clause-low c =
    subst (λ (d : DefinitionView). HasLowDefaults 0 (slice_index_or d.versions c.args.v no_version).schema) c.definition.ensures.value
    (low_schema c.definition.result.now no_version c.args.v (tt, tt, tt, tt) c.versions.ensures.whole)
