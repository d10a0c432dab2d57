use Rattle.std.proofs.Common.{sym, ◌∙◌}
use Rattle.kj_value.specs.Json.{members_of}
use Rattle.struct_schema.proofs.NoDefaults.{none_needed}
use Rattle.prune_default.proofs.defaults.needs_none.Goals as goal

pub returns-else-has_defaults-clause-none : goal.returns-else-has_defaults-clause-none
returns-else-has_defaults-clause-none c =
    sym (none_needed c.args.properties.now (members_of c.args.fields.now) (sym c.has_defaults.ensures ∙ c.if-has_defaults.false))
