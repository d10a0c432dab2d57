use Rattle.std.proofs.Common.{List, ℕ, Option, ap, sym, ◌∙◌}
use Rattle.struct_schema.specs.Shape.{Shape, maybe_of, map_of}
use Rattle.struct_schema.specs.Names.{property}
use Rattle.struct_schema.specs.laws.LookupLaws.{shape_named-field}
use Rattle.hub_rules.proofs.nodes.node.Goals as goal

pub returns-in-Some : goal.returns-in-Some
returns-in-Some c =
    ap maybe_of c.get.ensures ∙ shape_named-field c.args.name.now c.in-Some.named ∙ ap (λ (p : Option (List (List ℕ × Shape))). property c.args.name.now (map_of p)) (sym c.in-Some.is)
