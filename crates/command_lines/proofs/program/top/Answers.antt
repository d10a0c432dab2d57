use Rattle.std.proofs.Common.{◌∙◌, ap}
use Rattle.clap.specs.Simple.{app_of_fields}
use Rattle.command_lines.proofs.Building.{named_first, no_help_flag, no_help_word, with_required}
use Rattle.command_lines.proofs.program.top.Goals as goal

pub returns : goal.returns
returns c =
    ap app_of_fields c.subcommand_required.ensures ∙ ap with_required (ap app_of_fields c.disable_help_subcommand.ensures
    ∙ ap no_help_word (ap app_of_fields c.disable_help_flag.ensures ∙ ap no_help_flag (ap app_of_fields c.no_binary_name.ensures ∙ ap named_first c.new.ensures.app)))
