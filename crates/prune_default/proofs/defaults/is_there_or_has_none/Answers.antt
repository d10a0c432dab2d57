use Rattle.std.proofs.Common.{option_map, ap, ◌∙◌}
use Rattle.std.specs.Prelude.{is_some}
use Rattle.kj_value.specs.Json.{members_of}
use Rattle.kj_value.specs.Seen.{json}
use Rattle.struct_schema.specs.Names.{value_at}
use Rattle.prune_default.proofs.Missing.{there_or_none}
use Rattle.prune_default.proofs.defaults.is_there_or_has_none.Goals as goal

pub returns-in-Some : goal.returns-in-Some
returns-in-Some c =
    there_or_none _ (value_at c.args.property.now.name.bytes (members_of c.args.fields.now)) (option_map json c.args.property.now.schema.default_value) (json c.in-Some.field-0)
    (c.is_there.ensures ∙ ap (λ k. is_some (value_at k (members_of c.args.fields.now))) c.as_str.ensures) (ap (option_map json) c.in-Some.is)
