use Rattle.command_lines.proofs.program.optioned.Goals as goal

pub returns : goal.returns
returns c =
    c.with_option.ensures _ (c.with_option-command-8.ensures _ (c.with_option-command-7.ensures _ (c.with_option-command-6.ensures _
    (c.with_option-command-5.ensures _ (c.with_option-command-4.ensures _ (c.with_option-command-3.ensures _ (c.with_option-command-2.ensures _
    (c.with_option-command.ensures _ c.new.ensures.app))))))))
