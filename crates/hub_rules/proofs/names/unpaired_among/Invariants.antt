use Rattle.std.proofs.Common.{ℕ, List, ◌≡◌, ◌||◌, map, drop}
use Rattle.hub_rules.specs.Rule.{rules_of, names_on}
use Rattle.hub_rules.specs.Seen.{rule}
use Rattle.hub_cells.specs.Seen.{side}
use Rattle.hub_cells.specs.Side.{other}
use Rattle.struct_schema.specs.ShapeOf.{shape_of, named_shape}
use Rattle.struct_schema.specs.Shape.{Shape, shapes_of}
use Rattle.hub_cells.specs.Fit.{has_name}
use Rattle.hub_rules.specs.Refusal.{first_failing, is_free}
use Rattle.hub_rules.proofs.names.unpaired_among.Given as goal

abbrev pub invariant-loop-f : goal.invariant-loop-f
invariant-loop-f l =
    first_failing (λ (k : List ℕ) (t : Shape). has_name k (names_on (side l.on) (rules_of (map rule l.lines))) || is_free (other (side l.on)) (shape_of l.o) (rules_of (map rule l.lines)) k) (shapes_of (map named_shape l.fields)) ≡ first_failing (λ (k : List ℕ) (t : Shape). has_name k (names_on (side l.on) (rules_of (map rule l.lines))) || is_free (other (side l.on)) (shape_of l.o) (rules_of (map rule l.lines)) k) (shapes_of (map named_shape (drop l.f-index l.fields)))
