-- The places of a table's values, by side.
use Rattle.std.specs.Prelude.{List, map, Option, IfSome}
use Rattle.kj_value.specs.Json.{Json}
use Rattle.struct_schema.specs.Places.{ArePlaces}
use Rattle.struct_schema.specs.declared.places.Places.{Places}
use Rattle.hub_cells.specs.Side.{Side, spoke, hub}
use Rattle.hub_cells.specs.Cell.{value_on}

-- the values of the side
abbrev pub column : Side → List (Json × Json) → List Json
column d ps = map (λ p. value_on d p) ps

abbrev pub HavePlaces : Side → Option Places → List (Json × Json) → Type 0
HavePlaces d o ps = IfSome o (λ p. ArePlaces p 0 (column d ps))

abbrev pub HaveBoth : Option Places → Option Places → List (Json × Json) → Type 0
HaveBoth o q ps = HavePlaces spoke o ps × HavePlaces hub q ps
