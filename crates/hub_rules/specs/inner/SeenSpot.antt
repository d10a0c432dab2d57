-- What a refused name of the program is.
use Rattle.hub_cells.specs.Seen.{side}
use Rattle.hub_rules.specs.Refusal as refusal
use Rattle.hub_rules.specs.inner.Spots.{why}
use Rattle.hub_rules.specs.declared.spot.Spot.{Spot}

abbrev pub spot : Spot → refusal.Spot
spot p = record { side = side p.side; name = p.name.now.bytes; why = why p.why }
