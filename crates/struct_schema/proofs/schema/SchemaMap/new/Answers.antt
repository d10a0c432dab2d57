use Rattle.std.proofs.Common.{refl}
use Rattle.struct_schema.proofs.schema.SchemaMap.new.Goals as goal

pub invariant_of-result : goal.invariant_of-result
invariant_of-result c = rw c.new.ensures.items (tt, refl)
