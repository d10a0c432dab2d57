-- The level of a `same` that reaches inside is a frame.
use Rattle.std.proofs.Common.{◌≡◌, List, [], ◌∷◌, ◌++◌, Bool, true, false, ◌&&◌, cond, refl, sym}
use Rattle.struct_schema.specs.Shape.{Shape, shape, properties, Shapes, no_shapes, shape_at, MaybeShapes, no_map, some_map, MaybeShape, no_shape, some_shape}
use Rattle.struct_schema.specs.Names.{property}
use Rattle.hub_cells.specs.Side.{Side, spoke, hub}
use Rattle.hub_cells.specs.Cell.{same}
use Rattle.hub_cells.specs.Level.{Name, IsFresh, AreDistinct}
use Rattle.body_laws.specs.Cell.{Cell, IsCell}
use Rattle.body_laws.specs.Frame.{Level, Inners, inner, cells_names, inner_names, AreCells, IsFrame, AreFrames}
use Rattle.body_laws.specs.Reach.{is_object, same_cell, with_cell, cells_reached, with_inner, same_level, reached, inners_reached, shapes_names, NamesDiffer, MapDiffers, ShapesDiffer}
use Rattle.body_laws.proofs.Cells.{rule_is_cell}

same_is_cell : (k : Name) → IsCell (same_cell k)
same_is_cell k = rule_is_cell (λ d. k ∷ []) same tt (record { spoke = refl; hub = refl })

-- ---- a name put between two lists

fresh_between : (k j : Name) (ns ms : List Name) → (k ≡ j → ⊥) → IsFresh k (ns ++ ms) → IsFresh k (ns ++ j ∷ ms)
fresh_between k j [] ms h f = (h, f)
fresh_between k j (n ∷ ns) ms h f = (f.0, fresh_between k j ns ms h f.1)

distinct_between : (j : Name) (ns ms : List Name) → IsFresh j (ns ++ ms) → AreDistinct (ns ++ ms) → AreDistinct (ns ++ j ∷ ms)
distinct_between j [] ms f d = (f, d)
distinct_between j (n ∷ ns) ms f d = (fresh_between n j ns ms (λ e. f.0 (sym e)) d.0, distinct_between j ns ms f.1 d.1)

-- ---- one name more

module _ (d : Side) (cs : List Cell) (is : Inners) where
  more_fresh : (k j : Name) (b : Bool) (f : Shape → Level) (m : MaybeShape) → (k ≡ j → ⊥) → IsFresh k (cells_names d cs ++ inner_names d is) → IsFresh k (cells_names d (with_cell j b m cs) ++ inner_names d (with_inner j b f m is))
  more_fresh k j b f no_shape h g = g
  more_fresh k j b f (some_shape t) h g = by_test (b && is_object t)
    where
      named_j : (e : Side) → IsFresh k (cells_names e cs ++ inner_names e is) → IsFresh k (cells_names e cs ++ inner_names e (inner j j (f t) is))
      named_j spoke g = fresh_between k j (cells_names spoke cs) (inner_names spoke is) h g
      named_j hub g = fresh_between k j (cells_names hub cs) (inner_names hub is) h g

      by_test : (c : Bool) → IsFresh k (cells_names d (cond c cs (same_cell j ∷ cs)) ++ inner_names d (cond c (inner j j (f t) is) is))
      by_test true = named_j d g
      by_test false = (h, g)

  more_distinct : (j : Name) (b : Bool) (f : Shape → Level) (m : MaybeShape) → IsFresh j (cells_names d cs ++ inner_names d is) → AreDistinct (cells_names d cs ++ inner_names d is) → AreDistinct (cells_names d (with_cell j b m cs) ++ inner_names d (with_inner j b f m is))
  more_distinct j b f no_shape h g = g
  more_distinct j b f (some_shape t) h g = by_test (b && is_object t)
    where
      named_j : (e : Side) → IsFresh j (cells_names e cs ++ inner_names e is) → AreDistinct (cells_names e cs ++ inner_names e is) → AreDistinct (cells_names e cs ++ inner_names e (inner j j (f t) is))
      named_j spoke h g = distinct_between j (cells_names spoke cs) (inner_names spoke is) h g
      named_j hub h g = distinct_between j (cells_names hub cs) (inner_names hub is) h g

      by_test : (c : Bool) → AreDistinct (cells_names d (cond c cs (same_cell j ∷ cs)) ++ inner_names d (cond c (inner j j (f t) is) is))
      by_test true = named_j d h g
      by_test false = (h, g)

fresh_reached : (d : Side) (k : Name) (ss : Shapes) (m : MaybeShapes) → IsFresh k (shapes_names ss) → IsFresh k (cells_names d (cells_reached ss m) ++ inner_names d (inners_reached ss m))
fresh_reached d k no_shapes m f = tt
fresh_reached d k (shape_at j s ss) m f =
    more_fresh d (cells_reached ss m) (inners_reached ss m) k j (is_object s) (same_level s) (property j m) f.0 (fresh_reached d k ss m f.1)

distinct_reached : (d : Side) (ss : Shapes) (m : MaybeShapes) → AreDistinct (shapes_names ss) → AreDistinct (cells_names d (cells_reached ss m) ++ inner_names d (inners_reached ss m))
distinct_reached d no_shapes m f = tt
distinct_reached d (shape_at j s ss) m f =
    more_distinct d (cells_reached ss m) (inners_reached ss m) j (is_object s) (same_level s) (property j m) (fresh_reached d j ss m f.0) (distinct_reached d ss m f.1)

-- ---- cells are cells, and levels inside are frames

one_more_cell : (k : Name) (b : Bool) (m : MaybeShape) (cs : List Cell) → AreCells cs → AreCells (with_cell k b m cs)
one_more_cell k b no_shape cs i = i
one_more_cell k b (some_shape t) cs i = by_test (b && is_object t)
  where
    by_test : (c : Bool) → AreCells (cond c cs (same_cell k ∷ cs))
    by_test true = i
    by_test false = (same_is_cell k, i)

are_cells : (ss : Shapes) (m : MaybeShapes) → AreCells (cells_reached ss m)
are_cells no_shapes m = tt
are_cells (shape_at k s ss) m = one_more_cell k (is_object s) (property k m) (cells_reached ss m) (are_cells ss m)

one_more_frame : (k : Name) (b : Bool) (f : Shape → Level) (m : MaybeShape) (is : Inners) → ((t : Shape) → IsFrame (f t)) → AreFrames is → AreFrames (with_inner k b f m is)
one_more_frame k b f no_shape is h i = i
one_more_frame k b f (some_shape t) is h i = by_test (b && is_object t)
  where
    by_test : (c : Bool) → AreFrames (cond c (inner k k (f t) is) is)
    by_test true = (h t, i)
    by_test false = i

mutual
  pub same_frame : (s t : Shape) → NamesDiffer s → IsFrame (same_level s t)
  same_frame (shape o ps a i) t h = reached_frame ps (properties t) h

  reached_frame : (ps m : MaybeShapes) → MapDiffers ps → IsFrame (reached ps m)
  reached_frame no_map m h = (tt, λ d. tt, tt)
  reached_frame (some_map ss) m h = (are_cells ss m, λ d. distinct_reached d ss m h.0, inner_frames ss m h.1)

  inner_frames : (ss : Shapes) (m : MaybeShapes) → ShapesDiffer ss → AreFrames (inners_reached ss m)
  inner_frames no_shapes m h = tt
  inner_frames (shape_at k s ss) m h =
      one_more_frame k (is_object s) (same_level s) (property k m) (inners_reached ss m) (λ t. same_frame s t h.0) (inner_frames ss m h.1)
