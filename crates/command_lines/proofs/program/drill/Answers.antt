use Rattle.command_lines.proofs.program.drill.Goals as goal

pub returns : goal.returns
returns c = c.with_place.ensures _ (c.with_place-command.ensures _ c.new.ensures.app)
