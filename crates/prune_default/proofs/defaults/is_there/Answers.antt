use Rattle.std.proofs.Common.{ap, sym, ◌∙◌}
use Rattle.std.specs.Prelude.{is_some}
use Rattle.kj_value.specs.Fields.{field}
use Rattle.kj_value.specs.KindLaws.{pairs_members}
use Rattle.prune_default.proofs.defaults.is_there.Goals as goal

pub returns-in-Some : goal.returns-in-Some
returns-in-Some c = ap is_some (c.in-Some.ensures ∙ sym (ap (field c.args.name.now) (pairs_members c.args.fields.now)))

pub returns-in-None : goal.returns-in-None
returns-in-None c = ap is_some (c.in-None.ensures ∙ sym (ap (field c.args.name.now) (pairs_members c.args.fields.now)))
