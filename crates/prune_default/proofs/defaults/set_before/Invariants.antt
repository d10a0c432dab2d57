use Rattle.std.proofs.Common.{◌≡◌, ◌≤◌, ◌+◌, ℕ, List, map, drop}
use Rattle.kj_value.specs.Json.{members_of}
use Rattle.struct_schema.specs.Shape.{shapes_of}
use Rattle.struct_schema.specs.ShapeOf.{named_shape}
use Rattle.struct_schema.specs.Names.{value_at}
use Rattle.prune_default.specs.inner.Missing.{first_default, or_value}
use Rattle.prune_default.specs.Size.{members_size}
use Rattle.prune_default.proofs.defaults.set_before.Given as goal

abbrev pub invariant-loop-i : goal.invariant-loop-i
invariant-loop-i l =
    ((n : List ℕ) → or_value (value_at n (members_of l.filled)) (first_default n (shapes_of (map named_shape (drop l.i l.properties)))) ≡ or_value (value_at n (members_of l.fn.filled)) (first_default n (shapes_of (map named_shape l.properties))))
    × (members_size (members_of l.filled) + l.room ≤ members_size (members_of l.fn.filled) + l.fn.room)
