use Rattle.std.proofs.Common.{◌≡◌, ◌++◌, map, length}
use Rattle.std.specs.Cow.{cow_slice_items}
use Rattle.http_routes.specs.Paths.{segments}
use Rattle.http_routes.proofs.parts.segments.Given as goal

-- the segments so far, and those of the rest
abbrev pub invariant-loop-rest : goal.invariant-loop-rest
invariant-loop-rest l = segments l.path ≡ map cow_slice_items l.parts.items ++ segments l.rest

abbrev pub decreases-loop-rest : goal.decreases-loop-rest
decreases-loop-rest l = length l.rest
