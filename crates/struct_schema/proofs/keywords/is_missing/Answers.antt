use Rattle.std.proofs.Common.{not, Option, ap, sym, ◌∙◌}
use Rattle.std.specs.Prelude.{is_some}
use Rattle.kj_value.specs.Json.{Json}
use Rattle.kj_value.specs.Fields.{field}
use Rattle.kj_value.specs.KindLaws.{pairs_members}
use Rattle.struct_schema.proofs.keywords.is_missing.Goals as goal

pub returns-in-None : goal.returns-in-None
returns-in-None c = ap (λ (o : Option Json). not (is_some o)) (c.in-None.ensures ∙ sym (ap (field c.args.name.now) (pairs_members c.args.fields.now)))

pub returns-in-Some : goal.returns-in-Some
returns-in-Some c = ap (λ (o : Option Json). not (is_some o)) (c.in-Some.ensures ∙ sym (ap (field c.args.name.now) (pairs_members c.args.fields.now)))
