use Rattle.std.proofs.Common.{List, map, ap, ◌∙◌}
use Rattle.struct_schema.specs.ShapeOf.{named_shape}
use Rattle.struct_schema.specs.Defaults.{have_default}
use Rattle.struct_schema.specs.declared.schema.SchemaField.{SchemaField}
use Rattle.struct_schema.proofs.schema.SchemaMap.from_vec.Goals as goal

pub invariant_of-result : goal.invariant_of-result
invariant_of-result c =
    (c.requires, c.have_default-defaults.ensures ∙ ap (λ (fs : List SchemaField). have_default (map named_shape fs)) c.as_slice.ensures.value)
