use Rattle.std.proofs.Common.{sym, ◌∙◌}
use Rattle.kj_value.specs.KindLaws.{object_known}
use Rattle.kj_value.specs.Seen.{json}
use Rattle.write_texts.proofs.Updating.{never_object}
use Rattle.write_texts.proofs.update.fields_of.Goals as goal

pub unreachable-requires : goal.unreachable-requires
unreachable-requires c = never_object (json c.args.value) c.requires.0 c.requires.1 (sym c.in_default.is ∙ c.into_object.ensures)

pub returns : goal.returns
returns c = object_known (json c.args.value) c.in-Some.fields (sym (sym c.in-Some.is ∙ c.into_object.ensures))
