-- The `spec` of a document is no deeper than the document.
use Rattle.std.proofs.Common.{◌≤◌, ℕ, List, Bool, true, false, cond, Some, arith}
use Rattle.std.specs.Prelude.{codes}
use Rattle.kj_value.specs.Json.{Json, null, boolean, whole, text, list, object, Members, no_members, member, depth, members_depth}
use Rattle.struct_schema.specs.Names.{is_name, value_at}
use Rattle.crd_reading.specs.Words.{spelled}
use Rattle.crd_reading.specs.Spelled.{or_null, definition_read}

value_depth : (n : List ℕ) (ms : Members) → depth (or_null (value_at n ms)) ≤ members_depth ms
value_depth n no_members = omega arith
value_depth n (member k j ms) = by (is_name n k) (value_depth n ms)
  where
    by : (b : Bool) → depth (or_null (value_at n ms)) ≤ members_depth ms → depth (or_null (cond b (Some j) (value_at n ms))) ≤ members_depth (member k j ms)
    by true more = omega arith
    by false more = omega (arith, more)

pub spec_depth : (j : Json) → depth (definition_read j).spec ≤ depth j
unfolding spelled
spec_depth null = omega arith
spec_depth (boolean b) = omega arith
spec_depth (whole z) = omega arith
spec_depth (text t) = omega arith
spec_depth (list js) = omega arith
spec_depth (object ms) = omega (arith, value_depth (codes "spec") ms)
