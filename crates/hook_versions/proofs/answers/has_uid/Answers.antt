use Rattle.std.proofs.Common.{◌∙◌, ap}
use Rattle.std.specs.Prelude.{is_some}
use Rattle.kj_value.specs.Seen.{json}
use Rattle.hook_versions.proofs.Uids.{no_object, uid_of}
use Rattle.hook_versions.proofs.answers.has_uid.Goals as goal

pub returns-in-Some : goal.returns-in-Some
returns-in-Some c = c.gives_uid.ensures ∙ ap is_some (uid_of (json c.args.answer.now) c.in-Some.fields.now c.in-Some.ensures)

pub returns-in-None : goal.returns-in-None
returns-in-None c = no_object (json c.args.answer.now) c.in-None.ensures
