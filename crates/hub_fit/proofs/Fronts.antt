-- Cells of rules before others, one step at a time.
use Rattle.std.proofs.Common.{◌≡◌, ℕ, List, [], ◌∷◌, ◌++◌, Bool, true, false, cond, refl, ap, sym, ◌∙◌, append_assoc}
use Rattle.struct_schema.specs.Shape.{Shape, Shapes, no_shapes, shape_at}
use Rattle.hub_cells.specs.Cell as cells
use Rattle.hub_cells.specs.Level.{Name, Cell}
use Rattle.hub_cells.specs.Fit.{has_name}
use Rattle.hub_rules.specs.Rule.{Rule, same, within, spoke_only, hub_only, split, table, scale, Rules, no_rules, rule}
use Rattle.hub_fit.specs.Chosen.{cell_at, with_cell, cells_before, free_cells}

pub with_cell_front : (n : ℕ) (s h : Shape) (r : Rule) (cs : List Cell) → with_cell n s h r cs ≡ with_cell n s h r [] ++ cs
with_cell_front n s h (same a b) cs = refl
with_cell_front n s h (within a b ts) cs = refl
with_cell_front n s h (spoke_only a) cs = refl
with_cell_front n s h (hub_only b) cs = refl
with_cell_front n s h (split a b c) cs = refl
with_cell_front n s h (table a b ps x y) cs = refl
with_cell_front n s h (scale a b k) cs = refl

pub cells_front : (n : ℕ) (s h : Shape) (rs : Rules) (cs : List Cell) → cells_before n s h rs cs ≡ cells_before n s h rs [] ++ cs
cells_front n s h no_rules cs = refl
cells_front n s h (rule r rs) cs =
    ap (with_cell n s h r) (cells_front n s h rs cs) ∙ with_cell_front n s h r (cells_before n s h rs [] ++ cs) ∙ sym (append_assoc (with_cell n s h r []) (cells_before n s h rs []) cs)
    ∙ ap (λ (ds : List Cell). ds ++ cs) (sym (with_cell_front n s h r (cells_before n s h rs [])))

pub free_front : (n : ℕ) (s h : Shape) (ns : List Name) (k : Name) (t : Shape) (ss : Shapes) → free_cells n s h ns (shape_at k t ss) ≡ free_cells n s h ns (shape_at k t no_shapes) ++ free_cells n s h ns ss
free_front n s h ns k t ss = by_test (has_name k ns)
  where
    by_test : (b : Bool) → cond b (free_cells n s h ns ss) (cell_at n s h (k ∷ []) (k ∷ []) cells.same ∷ free_cells n s h ns ss) ≡ cond b [] (cell_at n s h (k ∷ []) (k ∷ []) cells.same ∷ []) ++ free_cells n s h ns ss
    by_test true = refl
    by_test false = refl
