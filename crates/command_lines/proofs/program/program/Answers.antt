use Rattle.std.proofs.Common.{refl}
use Rattle.command_lines.proofs.program.program.Goals as goal

pub returns : goal.returns
returns c = c.with_command.ensures _ _ refl (c.add_addresses.ensures _ (c.add_options-command.ensures _ c.top.ensures)) c.drill.ensures
