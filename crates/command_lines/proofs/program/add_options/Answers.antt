use Rattle.std.proofs.Common.{refl}
use Rattle.command_lines.proofs.program.add_options.Goals as goal

pub returns : goal.returns
returns c = λ app is.
    c.with_command.ensures _ _ refl (c.with_command-command-3.ensures _ _ refl (c.with_command-command-2.ensures _ _ refl
    (c.with_command-command.ensures _ _ refl is c.optioned.ensures) c.optioned-2.ensures) c.optioned-3.ensures) c.optioned-4.ensures
