use Rattle.std.proofs.Common.{◌≡◌, ℕ, List, map, Some, subst, ap, sym, ◌∙◌, arith}
use Rattle.kj_value.specs.Json.{Json}
use Rattle.kj_value.specs.Seen.{json}
use Rattle.struct_schema.specs.Places.{first_from}
use Rattle.hub_cells.specs.Cross.{partner}
use Rattle.hub_cells.specs.Seen.{side}
use Rattle.hub_cells.specs.Sought.{column}
use Rattle.hub_cells.proofs.Partners.{found_within, found_partner, misses}
use Rattle.hub_cells.proofs.pairs.PairItems.partner.Goals as goal

pub index-requires : goal.index-requires
index-requires c =
    let e = subst (λ (ps : List (Json × Json)). first_from 0 (json c.args.value.now) (column (side c.args.from) ps) ≡ Some c.in-First.i) (sym c.self.view_is) c.in-First.ensures in
    omega (arith, found_within (side c.args.from) (json c.args.value.now) c.self.inside.pairs.items c.in-First.i e, c.self.inside.pairs.ok.0)

pub returns-in-First : goal.returns-in-First
returns-in-First c =
    let e = subst (λ (ps : List (Json × Json)). first_from 0 (json c.args.value.now) (column (side c.args.from) ps) ≡ Some c.in-First.i) (sym c.self.view_is) c.in-First.ensures in
    found_partner (side c.args.from) (json c.args.value.now) c.self.inside.pairs.items c.in-First.i c.index.result.now (json c.other_value.result.now) e c.index.ensures c.other_value.ensures ∙ ap (λ (ps : List (Json × Json)). partner (side c.args.from) (json c.args.value.now) ps) c.self.view_is

pub returns-in-Nowhere : goal.returns-in-Nowhere
returns-in-Nowhere c =
    sym (misses (side c.args.from) (json c.args.value.now) c.args.self.now 0 c.in-Nowhere.ensures)
