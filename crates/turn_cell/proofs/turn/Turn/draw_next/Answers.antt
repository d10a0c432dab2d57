use Rattle.std.proofs.Common.{ap, ◌∙◌, arith}
use Rattle.std.proofs.lemmas.Bool.{MatchBool-at_true, MatchBool-at_false, eq-eqb, ne_eqb}
use Rattle.turn_cell.specs.declared.view.Stage.TheVariants.{Waits}
use Rattle.turn_cell.specs.Views.{set_stage}
use Rattle.turn_cell.proofs.Lists.{rests}
use Rattle.turn_cell.proofs.Keeps.{draws}
use Rattle.turn_cell.proofs.turn.Turn.draw_next.Goals as goal

pub peek-expected-requires : goal.peek-expected-requires
peek-expected-requires g c = omega (arith, c.args.self.now.sized.0)

pub overflow_add-expected : goal.overflow_add-expected
overflow_add-expected g c = omega (arith, c.if-expected-lt-LAST_TICKET.true)

pub compare_exchange-found-requires : goal.compare_exchange-found-requires
compare_exchange-found-requires g c = (
  c.loop.invariant.1 ∙ c.requires.own,
  omega (arith, c.args.self.now.sized.0),
  draws g.T.Standing.stands g.T.Standing.base _ _ _ _ (ap (λ m. m.0.stage) c.loop.invariant.0 ∙ rests c.args.seat.now.me.0.stage c.requires.rest) c.if-expected-lt-LAST_TICKET.true,
)

pub returns-then-found-expected-clause-own : goal.returns-then-found-expected-clause-own
returns-then-found-expected-clause-own g c = c.compare_exchange-found.ensures.0 ∙ c.loop.invariant.1

pub returns-then-found-expected-clause-drawn : goal.returns-then-found-expected-clause-drawn
returns-then-found-expected-clause-drawn g c =
    MatchBool-at_true _ _ (eq-eqb _ _ c.if-found-expected.true) c.compare_exchange-found.ensures.2
    ∙ ap (λ m. (set_stage m.0 m.0.seen (Waits c.loop.expected), m.1)) c.loop.invariant.0

pub loop-preserved-then-expected-lt-LAST_TICKET : goal.loop-preserved-then-expected-lt-LAST_TICKET
loop-preserved-then-expected-lt-LAST_TICKET g c = (
  MatchBool-at_false _ _ (ne_eqb _ _ c.if-found-expected.false) c.compare_exchange-found.ensures.2 ∙ c.loop.invariant.0,
  c.compare_exchange-found.ensures.0 ∙ c.loop.invariant.1,
  tt,
  tt,
)

pub loop-preserved : goal.loop-preserved
loop-preserved g c = (c.loop.invariant.0, c.loop.invariant.1, tt, tt)
