use Rattle.std.proofs.Common.{◌≡◌, true, option_map, ap, sym, subst}
use Rattle.kj_value.specs.Seen.{json}
use Rattle.hub_cells.specs.Side.{spoke}
use Rattle.hub_cells.specs.Cell.{one}
use Rattle.hub_cells.specs.Level.{all_allowed}
use Rattle.hub_cells.specs.Seen.{cell, place, place_list}
use Rattle.hub_cells.specs.declared.cell.Names.{Names}
use Rattle.hub_fills.specs.Right.{DefaultsAllowed}
use Rattle.hub_fills.proofs.Chosen.{one_allowed}
use Rattle.hub_fills.proofs.choosing.spoke_default.Goals as goal

pub match_of-requires : goal.match_of-requires
match_of-requires c =
    let n = c.args.c.now.depth in
    let j = json c.in-Some.v in
    let d = subst (λ (ns : Names). DefaultsAllowed n (place_list ns)) c.in-One.is c.requires.defaults in
    let here = one_allowed n (place c.in-One.n) j d (ap (option_map json) c.in-Some.is) in
    c.allowed_crosses.ensures (cell c.args.c.now) spoke (one j) c.requires.fits (subst (λ (ns : Names). all_allowed n (place_list ns) (one j) ≡ true) (sym c.in-One.is) here)
