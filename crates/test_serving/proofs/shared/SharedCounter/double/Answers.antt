use Rattle.std.proofs.Common.{ℕ, ◌≡◌, List, ◌++◌, ap, sym, ◌∙◌, subst}
use Rattle.std.proofs.lemmas.List.{append-nil}
use mathlib.Core.List.{IsPrefix}
use Rattle.api_calls.specs.Item.{Logged}
use Rattle.turn_cell.specs.declared.view.View.{View}
use Rattle.turn_cell.specs.Turns.{addition}
use Rattle.turn_cell.specs.laws.Laws.{prefix_trans}
use Rattle.turn_cell.specs.laws.Laws.{turns_join}
use Rattle.test_serving.specs.Counts.{entered_by}
use Rattle.test_serving.specs.Calls.{AnswersAsCounter}
use Rattle.test_serving.proofs.shared.SharedCounter.double.Goals as goal

pub returns-clause-answer : goal.returns-clause-answer
returns-clause-answer g c limit is =
    let v = c.args.pass.now.turn.seat.me.0 in
    let w = c.total-x.new.pass.turn.seat.me.0 in
    let z = c.add.new.pass.turn.seat.me.0 in
    let r = c.add.result in
    let x = c.total-x.result in
    let a = c.total-x.ensures.answer in
    let first = a.0 in
    let b = c.add.ensures.answer limit (ap (λ (q : View ℕ). q.base) a.1.3 ∙ is) in
    let seen : w.seen ≡ first = ap (λ (q : View ℕ). q.seen) a.1.3 ∙ append-nil first in
    let z_seen : b.0 ++ addition w b.0 (entered_by r x) ≡ z.seen = sym (ap (λ (q : View ℕ). q.seen) b.1.3) in
    let on : IsPrefix first b.0 = subst (λ (xs : List Logged). IsPrefix xs b.0) seen b.1.0 in
    let all : AnswersAsCounter limit v z x r = (b.0, turns_join v w z first b.0 (entered_by r x) a.1 b.1, b.2, b.3) in (
      first,
      a.1.0,
      prefix_trans first b.0 z.seen on (addition w b.0 (entered_by r x), z_seen),
      subst (λ (n : ℕ). AnswersAsCounter limit v z n r) a.2 all,
    )
