use Rattle.std.proofs.Common.{◌≡◌, ◌++◌, map, drop}
use Rattle.hub_cells.specs.Level.{CellsFit}
use Rattle.hub_cells.specs.Seen.{side, cell}
use Rattle.keep_laws.specs.Body.{read_cells}
use Rattle.keep_laws.specs.Settle.{CellsAllowed}
use Rattle.keep_bodies.specs.inner.Left.{entries_left}
use Rattle.keep_bodies.specs.inner.Turned.{turned}
use Rattle.keep_bodies.specs.inner.Over.{cell_fields, cell_kept}
use Rattle.keep_bodies.proofs.crossing.cross_cells.Given as goal

abbrev pub invariant-loop-c : goal.invariant-loop-c
invariant-loop-c l = record {
  fits : CellsFit (map cell (drop l.c-index l.cells));
  allowed : CellsAllowed (side l.from) (map cell (drop l.c-index l.cells)) (read_cells (side l.from) (map cell (drop l.c-index l.cells)) l.x (entries_left l.kept));
  fields : cell_fields (side l.from) (map cell (drop l.c-index l.cells)) l.x (entries_left l.kept) l.fields ≡ cell_fields (side l.from) (map cell l.cells) l.x (entries_left l.kept) l.initial.fields;
  entries : map turned l.entries.items ++ cell_kept (side l.from) (map cell (drop l.c-index l.cells)) l.x (entries_left l.kept) ≡ map turned l.initial.entries.items ++ cell_kept (side l.from) (map cell l.cells) l.x (entries_left l.kept);
}
