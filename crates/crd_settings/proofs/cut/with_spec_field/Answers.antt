use Rattle.kj_value.specs.Seen.{json}
use Rattle.kj_value.specs.Text.{text_of}
use Rattle.crd_settings.specs.Flags.{spec_value}
use Rattle.crd_settings.proofs.Texts.{behind_name}
use Rattle.crd_settings.proofs.cut.with_spec_field.Goals as goal

pub returns : goal.returns
returns c = behind_name c.args.i (λ k m. text_of (spec_value m k (json c.args.field.now.value))) _ c.as_str-name.ensures c.in_ok-named.ensures c.with_spec_value.ensures
