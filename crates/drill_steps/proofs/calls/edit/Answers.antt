use Rattle.drill_steps.proofs.calls.edit.Goals as goal

pub returns-clause-edits : goal.returns-clause-edits
returns-clause-edits g c = c.edit_at.ensures.edits c.args.object c.in_ok-key.ensures

pub edit_at-requires-clause-key : goal.edit_at-requires-clause-key
edit_at-requires-clause-key g c = (c.args.object, c.in_ok-key.ensures)
