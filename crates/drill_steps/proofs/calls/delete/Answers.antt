use Rattle.drill_steps.proofs.calls.delete.Goals as goal

pub returns-clause-deletes : goal.returns-clause-deletes
returns-clause-deletes g c = c.delete_at.ensures.deletes c.args.object c.in_ok-key.ensures
