-- For private clauses: a cell's names on one side.
use Rattle.std.specs.Prelude.{List, map}
use Rattle.hub_cells.specs.Level.{Name, Place}
use Rattle.hub_cells.specs.Seen.{place_list}
use Rattle.hub_cells.specs.declared.cell.Names.{Names}

abbrev pub name_list : Names → List Name
name_list ns = map (λ (p : Place). p.name) (place_list ns)
