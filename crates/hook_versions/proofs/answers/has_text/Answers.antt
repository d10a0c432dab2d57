use Rattle.std.proofs.Common.{◌∙◌}
use Rattle.kj_value.specs.Seen.{json}
use Rattle.hook_versions.proofs.Uids.{text_there, no_text_there}
use Rattle.hook_versions.proofs.answers.has_text.Goals as goal

pub returns-in-Some : goal.returns-in-Some
returns-in-Some c =
    c.is_some.ensures ∙ text_there (λ found. found.now) c.as_text.result c.args.fields.now c.args.name.now (json c.in-Some.value.now) c.in-Some.ensures c.as_text.ensures

pub returns-in-None : goal.returns-in-None
returns-in-None c = no_text_there c.args.fields.now c.args.name.now c.in-None.ensures
