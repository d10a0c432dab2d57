use Rattle.command_lines.proofs.program.addressed.Goals as goal

pub returns : goal.returns
returns c = c.with_place.ensures _ c.new.ensures.app
