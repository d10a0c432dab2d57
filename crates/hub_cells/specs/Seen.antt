-- What a side, a kind, a tuple and a cell of the program are.
use Rattle.std.specs.Prelude.{List, [], ◌∷◌, option_map}
use Rattle.kj_value.specs.Seen.{json}
use Rattle.struct_schema.specs.ShapeOf.{shape_of}
use Rattle.hub_cells.specs.Side as sides
use Rattle.hub_cells.specs.Cell as cells
use Rattle.hub_cells.specs.Level as levels
use Rattle.hub_cells.specs.declared.cell.Side.{Side}
use Rattle.hub_cells.specs.declared.cell.Side.TheVariants.{Spoke, Hub}
use Rattle.hub_cells.specs.declared.cell.CellKind.{CellKind}
use Rattle.hub_cells.specs.declared.cell.CellKind.TheVariants.{Same, SpokeOnly, HubOnly, Split, Table, Scale}
use Rattle.hub_cells.specs.declared.cell.Name.{Name}
use Rattle.hub_cells.specs.declared.cell.Names.{Names}
use Rattle.hub_cells.specs.declared.cell.Names.TheVariants.{Empty as NoName, One as OneName, Two as TwoNames}
use Rattle.hub_cells.specs.declared.cell.Cell.{Cell}
use Rattle.hub_cells.specs.declared.cell.Tuple.{Tuple}
use Rattle.hub_cells.specs.declared.cell.Tuple.TheVariants.{Empty, One, Two}

abbrev pub side : Side → sides.Side
side Spoke = sides.spoke
side Hub = sides.hub

abbrev pub kind : CellKind → cells.Kind
kind Same = cells.same
kind SpokeOnly = cells.spoke_only
kind HubOnly = cells.hub_only
kind Split = cells.split
kind (Table ps x y) = cells.table ps (json x) (json y)
kind (Scale by) = cells.scale by

abbrev pub tuple : Tuple → cells.Tuple
tuple Empty = []
tuple (One o) = option_map json o ∷ []
tuple (Two o p) = option_map json o ∷ option_map json p ∷ []

abbrev pub place : Name → levels.Place
place n = record { name = n.text.bytes; shape = shape_of n.schema; required = n.required }

abbrev pub place_list : Names → List levels.Place
place_list NoName = []
place_list (OneName n) = place n ∷ []
place_list (TwoNames m n) = place m ∷ place n ∷ []

abbrev pub cell : Cell → levels.Cell
cell c =
    record { spoke = place_list c.spoke; hub = place_list c.hub; kind = kind c.kind; depth = c.depth }
