use Rattle.std.proofs.Common.{◌≡◌, ◌+◌, ◌*◌, ◌++◌, map, drop}
use Rattle.hub_cells.specs.LevelDepth.{level_depth, inners_depth}
use Rattle.hub_cells.specs.Seen.{side}
use Rattle.hub_cells.specs.SeenFit.{inners_of}
use Rattle.keep_laws.specs.Body.{read_inners}
use Rattle.keep_laws.specs.Settle.{InnersAllowed}
use Rattle.keep_bodies.specs.inner.Left.{entries_left}
use Rattle.keep_bodies.specs.inner.Turned.{turned}
use Rattle.keep_bodies.specs.inner.Over.{inner_fields, inner_kept}
use Rattle.keep_bodies.proofs.level.+over.Given as goal

abbrev pub decreases-level_over : goal.decreases-level_over
decreases-level_over l = 4 * level_depth l.f.now.level

abbrev pub decreases-inners_over : goal.decreases-inners_over
decreases-inners_over l = 4 * inners_depth (inners_of l.inners.now) + 3

abbrev pub decreases-inner_over : goal.decreases-inner_over
decreases-inner_over l = 4 * level_depth l.o.now.fitted.level + 2

abbrev pub decreases-object_over : goal.decreases-object_over
decreases-object_over l = 4 * level_depth l.f.now.level + 1

abbrev pub invariant-inners_over-loop-o : goal.invariant-inners_over-loop-o
invariant-inners_over-loop-o l = record {
  allowed : InnersAllowed (side l.from) (inners_of (drop l.o-index l.inners)) (read_inners (side l.from) (inners_of (drop l.o-index l.inners)) l.x (entries_left l.kept));
  fields : inner_fields (side l.from) (inners_of (drop l.o-index l.inners)) l.x (entries_left l.kept) l.fields ≡ inner_fields (side l.from) (inners_of l.inners) l.x (entries_left l.kept) l.initial.fields;
  entries : map turned l.entries.items ++ inner_kept (side l.from) (inners_of (drop l.o-index l.inners)) l.x (entries_left l.kept) ≡ map turned l.initial.entries.items ++ inner_kept (side l.from) (inners_of l.inners) l.x (entries_left l.kept);
}
