use Rattle.std.proofs.Common.{ap, ◌∙◌}
use Rattle.kj_value.specs.Json.{Json}
use Rattle.kj_value.specs.Seen.{json}
use Rattle.hub_cells.specs.Side.{spoke}
use Rattle.hub_cells.specs.Cell.{one}
use Rattle.hub_cells.specs.Cross.{matched, shown}
use Rattle.hub_cells.specs.Seen.{kind, tuple}
use Rattle.hub_fills.specs.Fills.{value_in}
use Rattle.hub_fills.proofs.Chosen.{answered, not_answered}
use Rattle.hub_fills.proofs.choosing.match_of.Goals as goal

pub returns-then-matched : goal.returns-then-matched
returns-then-matched c =
    let k = kind c.args.c.now.kind in
    let j = json c.in_ok-copy.field-0 in
    c.only_value.ensures ∙ answered (matched spoke k (one j)) (shown spoke k (one j)) (tuple c.in_ok-crossed.crossed.tuple) c.in_ok-crossed.crossed.matched c.in_ok-crossed.ensures c.if-matched.true ∙ ap (λ (i : Json). value_in (matched spoke k (one i))) c.in_ok-copy.ensures

pub returns : goal.returns
returns c =
    let k = kind c.args.c.now.kind in
    let j = json c.in_ok-copy.field-0 in
    not_answered (matched spoke k (one j)) (shown spoke k (one j)) (tuple c.in_ok-crossed.crossed.tuple) c.in_ok-crossed.crossed.matched c.in_ok-crossed.ensures c.if-matched.false ∙ ap (λ (i : Json). value_in (matched spoke k (one i))) c.in_ok-copy.ensures
