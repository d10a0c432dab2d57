use Rattle.std.proofs.Common.{sym, ◌∙◌}
use Rattle.kj_value.specs.Json.{members_of}
use Rattle.struct_schema.proofs.NoDefaults.{none_needed}
use Rattle.struct_schema.proofs.filling.each_default.Goals as goal

pub returns-else-has_defaults : goal.returns-else-has_defaults
returns-else-has_defaults c =
    sym (none_needed c.args.properties.now (members_of c.args.fields.now) (sym c.has_defaults.ensures ∙ c.if-has_defaults.false))
