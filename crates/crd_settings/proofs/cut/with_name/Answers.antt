use Rattle.std.proofs.Common.{◌∙◌}
use Rattle.crd_settings.proofs.Texts.{name_written}
use Rattle.crd_settings.proofs.cut.with_name.Goals as goal

pub returns : goal.returns
returns c = name_written c.args.i c.args.name.now _ c.comma_before.ensures (c.as_str.ensures ∙ c.in_ok-name.ensures) c.in_ok-begun.ensures c.in_ok-named.ensures c.with_text-3.ensures
