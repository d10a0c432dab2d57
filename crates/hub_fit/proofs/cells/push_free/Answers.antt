use Rattle.std.proofs.Common.{◌≡◌, ℕ, suc, ◌+◌, List, ◌∷◌, ◌++◌, map, drop, drop-cons, append_assoc, ap, ap₂, sym, ◌∙◌, arith}
use Rattle.std.proofs.lemmas.List.{append-nil, drop_all}
use Rattle.struct_schema.specs.Shape.{shapes_of, shape_at, no_shapes}
use Rattle.struct_schema.specs.ShapeOf.{shape_of, named_shape}
use Rattle.struct_schema.specs.declared.schema.SchemaField.{SchemaField}
use Rattle.hub_cells.specs.Side.{spoke}
use Rattle.hub_cells.specs.Seen.{cell}
use Rattle.hub_cells.specs.Level.{Cell}
use Rattle.hub_rules.specs.Rule.{rules_of, names_on}
use Rattle.hub_rules.specs.Seen.{rule}
use Rattle.hub_fit.specs.Chosen.{free_cells}
use Rattle.hub_fit.proofs.Fronts.{free_front}
use Rattle.hub_fit.proofs.cells.push_free.Goals as goal

pub loop-f-preserved : goal.loop-f-preserved
loop-f-preserved c =
    let i = c.loop-f.f-index in
    let n = c.args.depth in
    let s = shape_of c.args.s.now in
    let h = shape_of c.args.h.now in
    let ns = names_on spoke (rules_of (map rule c.args.lines.now)) in
    let item = c.f-item.result in
    let rest = drop (i + 1) c.args.fields.now in
    let next : suc i ≡ i + 1 = omega arith in
    let step : drop i c.args.fields.now ≡ item ∷ rest =
    drop-cons c.args.fields.now i item c.loop-f-test.true ∙ ap₂ (λ (y : SchemaField) (m : ℕ). y ∷ drop m c.args.fields.now) (sym c.f-item.is) next in
    let later = free_cells n s h ns (shapes_of (map named_shape rest)) in
    let own = free_cells n s h ns (shape_at item.name.bytes (shape_of item.schema) no_shapes) in
    ap (λ (cs : List Cell). cs ++ later) c.in_ok-push_free_cell.ensures ∙ append_assoc (map cell c.loop-f.cells.items) own later
    ∙ ap (λ (cs : List Cell). map cell c.loop-f.cells.items ++ cs) (sym (free_front n s h ns item.name.bytes (shape_of item.schema) (shapes_of (map named_shape rest))) ∙ ap (λ (fs : List SchemaField). free_cells n s h ns (shapes_of (map named_shape fs))) (sym step)) ∙ c.loop-f.invariant

pub returns : goal.returns
returns c =
    let s = shape_of c.args.s.now in
    let h = shape_of c.args.h.now in
    let ns = names_on spoke (rules_of (map rule c.args.lines.now)) in
    let made = map cell c.loop-f.cells.items in
    sym (append-nil made)
    ∙ ap (λ (fs : List SchemaField). made ++ free_cells c.args.depth s h ns (shapes_of (map named_shape fs))) (sym (drop_all c.loop-f.f-index c.args.fields.now c.loop-f-test.false)) ∙ c.loop-f.invariant
