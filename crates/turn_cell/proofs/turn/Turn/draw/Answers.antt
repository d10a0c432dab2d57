use Rattle.std.proofs.Common.{◌+◌, ◌-◌, ◌%◌, ◌^◌, ap, ◌∙◌, arith}
use Rattle.turn_cell.specs.declared.view.Stage.TheVariants.{Waits}
use Rattle.turn_cell.specs.Turns.{is_resting}
use Rattle.turn_cell.specs.Views.{set_stage}
use Rattle.turn_cell.proofs.Keeps.{rings}
use Rattle.turn_cell.proofs.turn.Turn.draw.Goals as goal

pub draw_served-requires-clause-own : goal.draw_served-requires-clause-own
draw_served-requires-clause-own g c = c.loop-look.invariant.1 ∙ c.requires.own

pub draw_served-requires-clause-rest : goal.draw_served-requires-clause-rest
draw_served-requires-clause-rest g c =
    ap (λ m. is_resting m.0.stage) c.loop-look.invariant.0 ∙ c.requires.rest

pub returns-in-Some-clause-own : goal.returns-in-Some-clause-own
returns-in-Some-clause-own g c = c.draw_served.ensures.own ∙ c.loop-look.invariant.1

pub returns-in-Some-clause-drawn : goal.returns-in-Some-clause-drawn
returns-in-Some-clause-drawn g c =
    c.in-Some.ensures.drawn ∙ ap (λ m. (set_stage m.0 m.0.seen (Waits c.in-Some.ticket), m.1)) c.loop-look.invariant.0

pub loop-look-preserved : goal.loop-look-preserved
loop-look-preserved g c =
    (c.in_default.ensures.drawn ∙ c.loop-look.invariant.0, c.draw_served.ensures.own ∙ c.loop-look.invariant.1)

pub fetch_add-requires : goal.fetch_add-requires
fetch_add-requires g c = (
  c.loop-look.invariant.1 ∙ c.requires.own,
  omega (arith, c.args.self.now.sized.0),
  rings g.T.Standing.stands g.T.Standing.base (λ n. (n + 1) % 2 ^ 64) _ _ _ _ (omega arith),
)

pub draw_asleep-ticket-requires-clause-own : goal.draw_asleep-ticket-requires-clause-own
draw_asleep-ticket-requires-clause-own g c =
    c.fetch_add.ensures.0 ∙ c.loop-look.invariant.1 ∙ c.requires.own

pub draw_asleep-ticket-requires-clause-rest : goal.draw_asleep-ticket-requires-clause-rest
draw_asleep-ticket-requires-clause-rest g c =
    ap (λ m. is_resting m.0.stage) (c.fetch_add.ensures.2 ∙ c.loop-look.invariant.0) ∙ c.requires.rest

pub fetch_sub-requires : goal.fetch_sub-requires
fetch_sub-requires g c = (
  c.draw_asleep-ticket.ensures.own ∙ c.fetch_add.ensures.0 ∙ c.loop-look.invariant.1 ∙ c.requires.own,
  omega (arith, c.args.self.now.sized.0),
  rings g.T.Standing.stands g.T.Standing.base (λ n. (n + (2 ^ 64 - 1)) % 2 ^ 64) _ _ _ _ (omega arith),
)

pub returns-clause-own : goal.returns-clause-own
returns-clause-own g c =
    c.fetch_sub.ensures.0 ∙ c.draw_asleep-ticket.ensures.own ∙ c.fetch_add.ensures.0 ∙ c.loop-look.invariant.1

pub returns-clause-drawn : goal.returns-clause-drawn
returns-clause-drawn g c =
    c.fetch_sub.ensures.2 ∙ c.draw_asleep-ticket.ensures.drawn
    ∙ ap (λ m. (set_stage m.0 m.0.seen (Waits c.draw_asleep-ticket.result), m.1)) (c.fetch_add.ensures.2 ∙ c.loop-look.invariant.0)
