use Rattle.std.proofs.Common.{ℕ, List, ◌≡◌, ◌||◌, ◌&&◌, map, drop}
use Rattle.hub_rules.specs.Rule.{rules_of, names_on}
use Rattle.hub_rules.specs.Seen.{rule}
use Rattle.hub_cells.specs.Side.{spoke}
use Rattle.struct_schema.specs.ShapeOf.{shape_of, named_shape}
use Rattle.struct_schema.specs.Shape.{Shape, shapes_of}
use Rattle.hub_cells.specs.Fit.{has_name}
use Rattle.hub_rules.specs.Refusal.{first_failing, node_at, alike_below, alike_required}
use Rattle.hub_rules.proofs.names.differing_among.Given as goal

abbrev pub invariant-loop-f : goal.invariant-loop-f
invariant-loop-f l =
    first_failing (λ (k : List ℕ) (t : Shape). has_name k (names_on spoke (rules_of (map rule l.lines))) || (alike_below t (node_at k (shape_of l.h)) && alike_required k k (shape_of l.s) (shape_of l.h))) (shapes_of (map named_shape l.fields)) ≡ first_failing (λ (k : List ℕ) (t : Shape). has_name k (names_on spoke (rules_of (map rule l.lines))) || (alike_below t (node_at k (shape_of l.h)) && alike_required k k (shape_of l.s) (shape_of l.h))) (shapes_of (map named_shape (drop l.f-index l.fields)))
