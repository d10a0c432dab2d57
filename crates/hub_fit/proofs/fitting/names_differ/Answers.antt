use Rattle.hub_fit.proofs.Rising.{differ}
use Rattle.hub_fit.proofs.fitting.names_differ.Goals as goal

pub returns-in-Some : goal.returns-in-Some
returns-in-Some c = rw c.in-Some.is (differ _ c.len.ensures.order)
