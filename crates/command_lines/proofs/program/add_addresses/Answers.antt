use Rattle.std.proofs.Common.{refl}
use Rattle.command_lines.proofs.program.add_addresses.Goals as goal

pub returns : goal.returns
returns c = λ app is.
    c.with_command.ensures _ _ refl (c.with_command-command-2.ensures _ _ refl (c.with_command-command.ensures _ _ refl is c.addressed.ensures)
    c.addressed-2.ensures) c.addressed-3.ensures
