use Rattle.api_calls.specs.Item.{items}
use Rattle.drill_steps.proofs.Opened.{first_alone, tells}
use Rattle.drill_steps.proofs.drilling.drill.Goals as goal

pub take_steps-requires-clause-alone : goal.take_steps-requires-clause-alone
take_steps-requires-clause-alone g c = first_alone _ _ c.in_ok-api.ensures.new
