use Rattle.std.proofs.Common.{◌≡◌, ◌≤◌, ◌+◌, ◌++◌, ℕ, List, map}
use Rattle.std.specs.Vec.Iter.{into_iter_items}
use Rattle.kj_value.specs.Json.{members_of}
use Rattle.kj_value.specs.Pair.{pair_of}
use Rattle.kj_value.specs.Fields.{Pairs}
use Rattle.struct_schema.specs.Shape.{shapes_of}
use Rattle.struct_schema.specs.ShapeOf.{named_shape}
use Rattle.struct_schema.specs.Names.{value_at}
use Rattle.prune_default.specs.inner.Missing.{first_default, or_value}
use Rattle.prune_default.specs.Size.{members_size}
use Rattle.prune_default.proofs.defaults.merge.Given as goal

abbrev pub invariant-loop-f : goal.invariant-loop-f
invariant-loop-f l =
    (done : Pairs) × (l.fn.fields ≡ done ++ map pair_of (into_iter_items l.f-iterator))
    × ((n : List ℕ) → or_value (value_at n (members_of (map pair_of (into_iter_items l.f-iterator)))) (or_value (value_at n (members_of l.filled)) (first_default n (shapes_of (map named_shape l.rest)))) ≡ or_value (value_at n (members_of l.fn.fields)) (first_default n (shapes_of (map named_shape l.properties))))
    × (members_size (members_of l.filled) + members_size (members_of (map pair_of (into_iter_items l.f-iterator))) + l.room ≤ members_size (members_of l.fn.fields) + l.fn.room)
