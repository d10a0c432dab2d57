use Rattle.std.proofs.Common.{◌+◌, ◌%◌, ◌^◌, rules, arith}
use Rattle.turn_cell.proofs.Keeps.{rings}
use Rattle.turn_cell.proofs.turn.Turn.call.Goals as goal

pub fetch_add-requires : goal.fetch_add-requires
fetch_add-requires g c =
    let far = c.bell_of-bell.ensures.0 in
    (search rules, search rules, rings g.T.Standing.stands g.T.Standing.base (λ n. (n + 1) % 2 ^ 64) _ _ _ _ (omega (arith, far)))

pub fetch_add-requires-then-peek-ne0-2 : goal.fetch_add-requires-then-peek-ne0-2
fetch_add-requires-then-peek-ne0-2 g c = (search rules, search rules, rings g.T.Standing.stands g.T.Standing.base (λ n. (n + 1) % 2 ^ 64) _ _ _ _ (omega arith))
