-- A pair of a table as its two values.
use Rattle.kj_value.specs.Json.{Json}
use Rattle.kj_value.specs.Seen.{json}
use Rattle.hub_cells.specs.declared.pairs.Pair.{Pair}

abbrev pub values_of : Pair → Json × Json
values_of p = (json p.spoke, json p.hub)
