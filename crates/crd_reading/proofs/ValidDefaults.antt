-- The defaults of a whole definition's versions are valid, since their schemas were accepted.
use Rattle.std.proofs.Common.{true, ap, subst}
use Rattle.kj_value.specs.Json.{Json, Items, no_items, item}
use Rattle.schema_reading.specs.Accepted.{IsSchema}
use Rattle.schema_reading.specs.ShapeRead.{shape_read}
use Rattle.schema_reading.specs.ValidDefaults.{HasValidDefaults}
use Rattle.crd_reading.specs.View.{DefinitionView}
use Rattle.crd_reading.specs.Spelled.{schema_in, versions_read, version_items}
use Rattle.crd_reading.specs.Accepted.{HaveSchemas}
use Rattle.crd_reading.specs.Whole.{IsWholeDefinition}
use Rattle.crd_reading.specs.ValidDefaults.{HaveValidDefaults}

module _ (read : (j : Json) → IsSchema j → HasValidDefaults (shape_read true j)) where
  each_valid : (js : Items) → HaveSchemas js → HaveValidDefaults (versions_read js)
  each_valid no_items h = tt
  each_valid (item j js) h = (read (schema_in j) h.0, each_valid js h.1)

  pub valid_defaults : (d : DefinitionView) → IsWholeDefinition d → HaveValidDefaults d.versions
  valid_defaults d w =
      let j = w.spelled.0 in
      subst HaveValidDefaults (ap (λ (e : DefinitionView). e.versions) w.spelled.2) (each_valid (version_items j) w.spelled.1.schemas)
