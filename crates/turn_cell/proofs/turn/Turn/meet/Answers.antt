use Rattle.std.proofs.Common.{◌≡◌, ℕ, ◌<◌, ◌≤◌, List, length, rules, ap, sym, subst, ◌∙◌}
use Rattle.api_calls.specs.Item.{Logged}
use Rattle.turn_cell.specs.Views.{sight, longer}
use Rattle.turn_cell.specs.Turns.{carried_at, is_settled, is_numbered}
use Rattle.turn_cell.proofs.Keeps.{number_is}
use Rattle.turn_cell.proofs.Lists.{rests, longer_left, longer_right, both_live}
use Rattle.turn_cell.proofs.Passes.{joins, looks, meets}
use Rattle.turn_cell.proofs.turn.Turn.meet.Goals as goal

pub join_seat-requires : goal.join_seat-requires
join_seat-requires g c =
    let p = c.args.into.now in
    let n = number_is p.seat.me.0.number p.numbered in (
      search rules,
      search rules,
      c.args.from.carries ∙ ap carried_at (rests c.args.from.seat.me.0.stage c.requires.rest.1),
      search rules,
      joins g.T.Standing.stands g.T.Standing.base _ _ _ _ (rests c.args.into.now.seat.me.0.stage c.requires.rest.0) (rests c.args.from.seat.me.0.stage c.requires.rest.1) n.0 n.1 p.live,
    )

pub load-requires : goal.load-requires
load-requires g c =
    let v = c.args.into.now.seat.me.0 in
    let w = c.args.from.seat.me.0 in
    let now = c.join_seat.ensures.2 in
    let seen : longer v.seen w.seen ≡ c.join_seat.new.seat.me.0.seen = sym (ap (λ m. m.0.seen) now) in (
      search rules,
      search rules,
      looks g.T.Standing.stands g.T.Standing.base _ _ _ (sight v) (sight w) (ap (λ m. m.0.stage) now)
          (subst (λ (xs : List Logged). length v.seen ≤ length xs) seen (longer_left v.seen w.seen)) (subst (λ (xs : List Logged). length w.seen ≤ length xs) seen (longer_right v.seen w.seen)),
    )

pub invariant_of-into : goal.invariant_of-into
invariant_of-into g c =
    let v = c.args.into.now.seat.me.0 in
    let w = c.args.from.seat.me.0 in
    let now = (meets 0 0 v w _ _ _ c.join_seat.ensures.2 c.load.ensures.2).0 in record {
      settled = ap (λ m. is_settled m.0.stage) now;
      carries = ap (λ m. m.1) now ∙ (c.args.into.now.carries ∙ (ap carried_at (rests c.args.into.now.seat.me.0.stage c.requires.rest.0) ∙ sym (ap (λ m. carried_at m.0.stage) now)));
      numbered = ap (λ m. is_numbered m.0.number) now ∙ c.args.into.now.numbered;
      live = subst (λ (n : ℕ). 0 < n) (sym (ap (λ m. m.0.share.top) now)) (both_live v.share w.share c.args.into.now.live);
    }

pub returns-clause-met : goal.returns-clause-met
returns-clause-met g c =
    let v = c.args.into.now.seat.me.0 in
    let w = c.args.from.seat.me.0 in
    let h = meets 0 0 v w _ _ _ c.join_seat.ensures.2 c.load.ensures.2 in
    (ap (λ m. m.0) h.0, h.1)
