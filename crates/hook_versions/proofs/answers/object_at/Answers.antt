use Rattle.std.specs.Prelude.{option_map}
use Rattle.kj_value.specs.Seen.{json}
use Rattle.hook_versions.proofs.Uids.{fields_at, no_fields_at}
use Rattle.hook_versions.proofs.answers.object_at.Goals as goal

pub returns-in-Some : goal.returns-in-Some
returns-in-Some c =
    fields_at c.args.fields.now c.args.name.now (json c.in-Some.value.now) (option_map (λ found. found.now) c.as_object.result) c.in-Some.ensures c.as_object.ensures

pub returns-in-None : goal.returns-in-None
returns-in-None c = no_fields_at c.args.fields.now c.args.name.now c.in-None.ensures
