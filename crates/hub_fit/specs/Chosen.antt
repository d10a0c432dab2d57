-- The levels that rules mean for two schemas: the cells in the order of the rules and then of the names that no rule
-- names, and the objects of `within`.
use Rattle.std.specs.Prelude.{ℕ, suc, List, [], ◌∷◌, cond}
use Rattle.struct_schema.specs.Shape.{Shape, properties, Shapes, no_shapes, shape_at, MaybeShapes, no_map, some_map}
use Rattle.hub_cells.specs.Side.{spoke}
use Rattle.hub_cells.specs.Cell as cells
use Rattle.hub_cells.specs.Level.{Name, Place, Cell, Level, level, Inners, no_inner, inner}
use Rattle.hub_cells.specs.Fit.{Fit, has_name, is_required}
use Rattle.hub_rules.specs.Rule.{Rule, same, within, spoke_only, hub_only, split, table, scale, Rules, no_rules, rule, names_on}
use Rattle.hub_rules.specs.Refusal.{node_at}

abbrev pub place_at : Shape → Name → Place
place_at s k = record { name = k; shape = node_at k s; required = is_required k s }

abbrev pub places_at : Shape → List Name → List Place
places_at s [] = []
places_at s (a ∷ ks) = place_at s a ∷ places_at s ks

abbrev pub cell_at : ℕ → Shape → Shape → List Name → List Name → cells.Kind → Cell
cell_at n s h ks ls k = record { spoke = places_at s ks; hub = places_at h ls; kind = k; depth = n }

-- the cell of a rule, where it has one, before others
abbrev pub with_cell : ℕ → Shape → Shape → Rule → List Cell → List Cell
with_cell n s h (same a b) cs = cell_at n s h (a ∷ []) (b ∷ []) cells.same ∷ cs
with_cell n s h (within a b ts) cs = cs
with_cell n s h (spoke_only a) cs = cell_at n s h (a ∷ []) [] cells.spoke_only ∷ cs
with_cell n s h (hub_only b) cs = cell_at n s h [] (b ∷ []) cells.hub_only ∷ cs
with_cell n s h (split a b c) cs = cell_at n s h (a ∷ []) (b ∷ c ∷ []) cells.split ∷ cs
with_cell n s h (table a b ps x y) cs = cell_at n s h (a ∷ []) (b ∷ []) (cells.table ps x y) ∷ cs
with_cell n s h (scale a b k) cs = cell_at n s h (a ∷ []) (b ∷ []) (cells.scale k) ∷ cs

-- a name that no rule names is the equal name of the other side
abbrev pub free_cells : ℕ → Shape → Shape → List Name → Shapes → List Cell
free_cells n s h ns no_shapes = []
free_cells n s h ns (shape_at k t ss) =
    cond (has_name k ns) (free_cells n s h ns ss) (cell_at n s h (k ∷ []) (k ∷ []) cells.same ∷ free_cells n s h ns ss)

abbrev pub free_in : ℕ → Shape → Shape → List Name → MaybeShapes → List Cell
free_in n s h ns no_map = []
free_in n s h ns (some_map ss) = free_cells n s h ns ss

abbrev pub cells_before : ℕ → Shape → Shape → Rules → List Cell → List Cell
cells_before n s h no_rules cs = cs
cells_before n s h (rule r rs) cs = with_cell n s h r (cells_before n s h rs cs)

abbrev pub cells_of : ℕ → Shape → Shape → Rules → List Cell
cells_of n s h rs = cells_before n s h rs (free_in n s h (names_on spoke rs) (properties s))

abbrev mutual
  pub with_inner : ℕ → Shape → Shape → Rule → Inners → Inners
  with_inner n s h (same a b) is = is
  with_inner n s h (within a b ts) is =
      inner a b (is_required a s) (level (cells_of (suc n) (node_at a s) (node_at b h) ts) (inners_of (suc n) (node_at a s) (node_at b h) ts)) is
  with_inner n s h (spoke_only a) is = is
  with_inner n s h (hub_only b) is = is
  with_inner n s h (split a b c) is = is
  with_inner n s h (table a b ps x y) is = is
  with_inner n s h (scale a b k) is = is

  pub inners_of : ℕ → Shape → Shape → Rules → Inners
  inners_of n s h no_rules = no_inner
  inners_of n s h (rule r rs) = with_inner n s h r (inners_of n s h rs)

abbrev pub level_of : ℕ → Shape → Shape → Rules → Level
level_of n s h rs = level (cells_of n s h rs) (inners_of n s h rs)

abbrev pub fit_of : ℕ → Shape → Shape → Rules → Fit
fit_of n s h rs = record { spoke = s; hub = h; depth = n; level = level_of n s h rs }
