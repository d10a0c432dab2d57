use Rattle.std.proofs.Common.{List, map, subst, sym}
use Rattle.kj_value.specs.Json.{Json}
use Rattle.kj_value.specs.Seen.{json}
use Rattle.struct_schema.specs.Places.{Tells, first_from}
use Rattle.hub_cells.specs.Side.{spoke, hub}
use Rattle.hub_cells.specs.Pairs.{values_of}
use Rattle.hub_cells.specs.Seen.{side}
use Rattle.hub_cells.specs.Sought.{column}
use Rattle.hub_cells.specs.declared.cell.Side.{Side}
use Rattle.hub_cells.proofs.pairs.PairItems.place.Goals as goal

pub returns-in-Spoke : goal.returns-in-Spoke
returns-in-Spoke c =
    let r = c.find_in.result in
    let j = json c.args.value.now in
    subst (λ (d : Side). Tells r (first_from 0 j (column (side d) c.args.self.now))) (sym c.in-Spoke.is) (subst (λ (ps : List (Json × Json)). Tells r (first_from 0 j (column spoke ps))) c.self.view_is (c.find_in.ensures (column spoke (map values_of c.self.inside.pairs.items)) c.self.invariant.0))

pub returns-in-Hub : goal.returns-in-Hub
returns-in-Hub c =
    let r = c.find_in-in-Hub.result in
    let j = json c.args.value.now in
    subst (λ (d : Side). Tells r (first_from 0 j (column (side d) c.args.self.now))) (sym c.in-Hub.is) (subst (λ (ps : List (Json × Json)). Tells r (first_from 0 j (column hub ps))) c.self.view_is (c.find_in-in-Hub.ensures (column hub (map values_of c.self.inside.pairs.items)) c.self.invariant.1))
