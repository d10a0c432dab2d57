use Rattle.std.proofs.Common.{List, ℕ, Option, ap, sym, ◌∙◌}
use Rattle.kj_value.specs.Json.{members_of}
use Rattle.struct_schema.specs.Shape.{Shape, map_of}
use Rattle.struct_schema.specs.Stays.{defaults_there}
use Rattle.struct_schema.specs.laws.NameLaws.{each_default-is}
use Rattle.struct_schema.proofs.filling.defaults_there.Goals as goal

pub returns-in-Some : goal.returns-in-Some
returns-in-Some c =
    c.each_default.ensures ∙ each_default-is c.in-Some.properties (members_of c.args.fields.now) c.len.ensures.order ∙ ap (λ (p : Option (List (List ℕ × Shape))). defaults_there (map_of p) (members_of c.args.fields.now)) (sym c.in-Some.is)
