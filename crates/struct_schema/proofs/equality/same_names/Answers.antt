use Rattle.std.specs.Str.{bytes_eq}
use Rattle.kj_value.specs.Texts.{bytes_of}
use Rattle.struct_schema.specs.laws.SameLaws.{lists_differ}
use Rattle.struct_schema.proofs.equality.same_names.Goals as goal

pub returns-then-xs-ys : goal.returns-then-xs-ys
returns-then-xs-ys c = lists_differ bytes_eq bytes_of _ _ c.if-xs-ys.true
