use Rattle.std.proofs.Common.{List, ℕ, sym, subst}
use Rattle.drill_requests.specs.Replies.{IsEdited}
use Rattle.drill_steps.proofs.calls.put_back.Goals as goal

pub returns-clause-replaces : goal.returns-clause-replaces
returns-clause-replaces g c = λ object is.
    c.put.ensures.replaces object c.args.value c.args.got.now is
    (subst (λ (b : List ℕ). IsEdited c.args.value c.args.got.now b) (sym c.as_str.ensures) c.in_ok-body.ensures)
