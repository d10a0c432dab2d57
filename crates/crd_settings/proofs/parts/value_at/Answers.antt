use Rattle.std.proofs.Common.{ap, sym, ◌∙◌}
use Rattle.kj_value.specs.Fields.{field}
use Rattle.kj_value.specs.KindLaws.{pairs_members}
use Rattle.crd_settings.proofs.parts.value_at.Goals as goal

pub returns : goal.returns
returns c = c.get.ensures ∙ sym (ap (field c.args.name.now) (pairs_members c.args.fields.now))
