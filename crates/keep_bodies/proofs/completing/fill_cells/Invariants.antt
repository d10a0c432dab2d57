use Rattle.std.proofs.Common.{◌≡◌, map, drop}
use Rattle.std.specs.Prelude.{option_map}
use Rattle.kj_value.specs.Seen.{json}
use Rattle.hub_cells.specs.Seen.{cell}
use Rattle.keep_bodies.specs.inner.Filling.{fill_cells}
use Rattle.keep_bodies.proofs.completing.fill_cells.Given as goal

abbrev pub invariant-loop-i : goal.invariant-loop-i
invariant-loop-i l =
    fill_cells (map cell (drop l.i l.cells)) (map (option_map json) (drop l.i l.values)) l.x ≡ fill_cells (map cell l.cells) (map (option_map json) l.values) l.initial.x
