use Rattle.kj_value.specs.Seen.{json}
use Rattle.kj_value.specs.Text.{text_of}
use Rattle.crd_settings.specs.Flags.{flag_value}
use Rattle.crd_settings.proofs.Texts.{behind_name}
use Rattle.crd_settings.proofs.cut.with_flagged_field.Goals as goal

pub returns : goal.returns
returns c = behind_name c.args.i (λ k m. text_of (flag_value (m c.args.v) k (json c.args.field.now.value))) _ c.as_str-name.ensures c.in_ok-named.ensures c.with_flag_value.ensures
