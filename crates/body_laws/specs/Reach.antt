-- `same` of two objects whose names their schemas know reaches inside: a level that pairs each name which both have. So a name that
-- one version doesn't know is kept, wherever it stands.
use Rattle.std.specs.Prelude.{List, [], ◌∷◌, Bool, false, ◌&&◌, not, cond}
use Rattle.struct_schema.specs.Shape.{Shape, shape, properties, Shapes, no_shapes, shape_at, MaybeShapes, no_map, some_map, MaybeShape, no_shape, some_shape}
use Rattle.struct_schema.specs.Names.{property}
use Rattle.hub_cells.specs.Cell.{same}
use Rattle.hub_cells.specs.Level.{Name, AreDistinct}
use Rattle.body_laws.specs.Cell.{Cell}
use Rattle.body_laws.specs.Kinds.{rule_cell}
use Rattle.body_laws.specs.Frame.{Level, level, Inners, no_inner, inner}

-- it has `properties`, and keeps no other names
abbrev pub is_object : Shape → Bool
is_object (shape o no_map a i) = false
is_object (shape o (some_map ss) a i) = not o.preserve

-- one name that both have, whole
abbrev pub same_cell : Name → Cell
same_cell k = rule_cell (λ d. k ∷ []) same

-- a name that the other side has too is a cell, unless both are objects
abbrev pub with_cell : Name → Bool → MaybeShape → List Cell → List Cell
with_cell k b no_shape cs = cs
with_cell k b (some_shape t) cs = cond (b && is_object t) cs (same_cell k ∷ cs)

abbrev pub cells_reached : Shapes → MaybeShapes → List Cell
cells_reached no_shapes m = []
cells_reached (shape_at k s ss) m = with_cell k (is_object s) (property k m) (cells_reached ss m)

abbrev pub with_inner : Name → Bool → (Shape → Level) → MaybeShape → Inners → Inners
with_inner k b f no_shape is = is
with_inner k b f (some_shape t) is = cond (b && is_object t) (inner k k (f t) is) is

abbrev mutual
  pub same_level : Shape → Shape → Level
  same_level (shape o ps a i) t = reached ps (properties t)

  pub reached : MaybeShapes → MaybeShapes → Level
  reached no_map m = level [] no_inner
  reached (some_map ss) m = level (cells_reached ss m) (inners_reached ss m)

  pub inners_reached : Shapes → MaybeShapes → Inners
  inners_reached no_shapes m = no_inner
  inners_reached (shape_at k s ss) m = with_inner k (is_object s) (same_level s) (property k m) (inners_reached ss m)

-- ---- no name stands twice under `properties`, at any depth

abbrev pub shapes_names : Shapes → List Name
shapes_names no_shapes = []
shapes_names (shape_at k s ss) = k ∷ shapes_names ss

abbrev mutual
  pub NamesDiffer : Shape → Type 0
  NamesDiffer (shape o ps a i) = MapDiffers ps

  pub MapDiffers : MaybeShapes → Type 0
  MapDiffers no_map = Unit {0}
  MapDiffers (some_map ss) = AreDistinct (shapes_names ss) × ShapesDiffer ss

  pub ShapesDiffer : Shapes → Type 0
  ShapesDiffer no_shapes = Unit {0}
  ShapesDiffer (shape_at k s ss) = NamesDiffer s × ShapesDiffer ss
