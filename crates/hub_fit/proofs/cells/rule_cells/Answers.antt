use Rattle.std.proofs.Common.{◌≡◌, ℕ, suc, ◌+◌, List, [], ◌∷◌, ◌++◌, map, drop, drop-cons, append_assoc, ap, ap₂, sym, ◌∙◌, arith}
use Rattle.std.proofs.lemmas.List.{append-nil, drop_all}
use Rattle.struct_schema.specs.ShapeOf.{shape_of}
use Rattle.hub_cells.specs.Seen.{cell}
use Rattle.hub_cells.specs.Level.{Cell}
use Rattle.hub_rules.specs.Rule.{rules_of}
use Rattle.hub_rules.specs.Seen.{rule}
use Rattle.hub_rules.specs.declared.rules.Line.{Line}
use Rattle.hub_fit.specs.Chosen.{with_cell, cells_before}
use Rattle.hub_fit.proofs.Fronts.{with_cell_front}
use Rattle.hub_fit.proofs.cells.rule_cells.Goals as goal

pub loop-line-preserved : goal.loop-line-preserved
loop-line-preserved c =
    let i = c.loop-line.line-index in
    let n = c.args.depth in
    let s = shape_of c.args.s.now in
    let h = shape_of c.args.h.now in
    let item = c.line-item.result in
    let rest = drop (i + 1) c.args.lines.now in
    let next : suc i ≡ i + 1 = omega arith in
    let step : drop i c.args.lines.now ≡ item ∷ rest =
    drop-cons c.args.lines.now i item c.loop-line-test.true ∙ ap₂ (λ (y : Line) (m : ℕ). y ∷ drop m c.args.lines.now) (sym c.line-item.is) next in
    let later = cells_before n s h (rules_of (map rule rest)) [] in
    ap (λ (cs : List Cell). cs ++ later) c.in_ok-push_cell.ensures ∙ append_assoc (map cell c.loop-line.cells.items) (with_cell n s h (rule item) []) later
    ∙ ap (λ (cs : List Cell). map cell c.loop-line.cells.items ++ cs) (sym (with_cell_front n s h (rule item) later) ∙ ap (λ (ls : List Line). cells_before n s h (rules_of (map rule ls)) []) (sym step)) ∙ c.loop-line.invariant

pub returns : goal.returns
returns c =
    let s = shape_of c.args.s.now in
    let h = shape_of c.args.h.now in
    let made = map cell c.loop-line.cells.items in
    sym (append-nil made)
    ∙ ap (λ (ls : List Line). made ++ cells_before c.args.depth s h (rules_of (map rule ls)) []) (sym (drop_all c.loop-line.line-index c.args.lines.now c.loop-line-test.false)) ∙ c.loop-line.invariant
