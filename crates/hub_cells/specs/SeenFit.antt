-- The levels of the program, from the inside out: an inner object's own is already seen as a fit.
use Rattle.std.specs.Prelude.{List, [], ◌∷◌, map}
use Rattle.struct_schema.specs.ShapeOf.{shape_of}
use Rattle.hub_cells.specs.Level.{Inners, no_inner, inner, level}
use Rattle.hub_cells.specs.Fit.{Fit}
use Rattle.hub_cells.specs.Seen.{cell}
use Rattle.hub_cells.specs.declared.fitted.Inner.{Inner}
use Rattle.hub_cells.specs.declared.fitted.Fitted.TheInside.{Inside}

abbrev pub inners_of : List Inner → Inners
inners_of [] = no_inner
inners_of (i ∷ is) = inner i.spoke.bytes i.hub.bytes i.required i.fitted.level (inners_of is)

abbrev pub fit_of : Inside → Fit
fit_of a = record {
  spoke = shape_of a.spoke;
  hub = shape_of a.hub;
  depth = a.depth;
  level = level (map cell a.cells.items) (inners_of a.inner.items);
}
