use Rattle.std.proofs.Common.{◌∙◌, [], ap}
use Rattle.std.specs.Prelude.{is_some}
use Rattle.hook_versions.proofs.Uids.{uid_in}
use Rattle.hook_versions.proofs.answers.gives_uid.Goals as goal

pub returns-in-Some : goal.returns-in-Some
returns-in-Some c = c.has_text.ensures ∙ ap is_some (uid_in c.args.fields.now c.in-Some.metadata.now c.in-Some.ensures)

pub returns-in-None : goal.returns-in-None
returns-in-None c = ap is_some (uid_in c.args.fields.now [] c.in-None.ensures)
