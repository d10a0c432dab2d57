use Rattle.std.proofs.Common.{◌∙◌}
use Rattle.drill_steps.proofs.settings.start.Goals as goal

pub returns-clause-starts : goal.returns-clause-starts
returns-clause-starts g c = c.start_by.ensures.starts c.args.switches (c.as_str.ensures.value ∙ c.in_ok-body.ensures)
