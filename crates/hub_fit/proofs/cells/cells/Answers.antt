use Rattle.std.proofs.Common.{List, ℕ, Option, [], ◌++◌, map, ap, sym, ◌∙◌}
use Rattle.struct_schema.specs.Shape.{Shape, shapes_of, map_of}
use Rattle.struct_schema.specs.ShapeOf.{shape_of, named_shape}
use Rattle.hub_cells.specs.Side.{spoke}
use Rattle.hub_cells.specs.Level.{Cell}
use Rattle.hub_rules.specs.Rule.{rules_of, names_on}
use Rattle.hub_rules.specs.Seen.{rule}
use Rattle.hub_fit.specs.Chosen.{cells_before, free_cells, free_in}
use Rattle.hub_fit.proofs.Fronts.{cells_front}
use Rattle.hub_fit.proofs.cells.cells.Goals as goal

pub returns-in_ok-push_free-in-Some : goal.returns-in_ok-push_free-in-Some
returns-in_ok-push_free-in-Some c =
    let n = c.args.depth in
    let s = shape_of c.args.s.now in
    let h = shape_of c.args.h.now in
    let rs = rules_of (map rule c.args.lines.now) in
    let ns = names_on spoke rs in
    c.in_ok-push_free-in-Some.ensures
    ∙ ap (λ (cs : List Cell). cs ++ free_cells n s h ns (shapes_of (map named_shape c.as_slice.result.now))) c.in_ok-cells.ensures
    ∙ ap (λ (es : List (List ℕ × Shape)). cells_before n s h rs [] ++ free_cells n s h ns (shapes_of es)) c.as_slice.ensures.value
    ∙ ap (λ (o : Option (List (List ℕ × Shape))). cells_before n s h rs [] ++ free_in n s h ns (map_of o)) (sym c.in-Some.is)
    ∙ sym (cells_front n s h rs (free_in n s h ns (map_of c.args.s.now.properties)))
