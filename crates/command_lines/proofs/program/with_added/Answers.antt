use Rattle.command_lines.proofs.Building.{with_one_more}
use Rattle.command_lines.proofs.program.with_added.Goals as goal

pub returns-in-Ok : goal.returns-in-Ok
returns-in-Ok c = λ app shape plain is one.
    with_one_more app shape c.args.command c.args.added c.in-Ok.added c.subcommand.result c.in-Ok.is c.subcommand.ensures plain is one
