use Rattle.std.proofs.Common.{refl}
use Rattle.built_in.specs.Texts.{rules_document, rules_text}
use Rattle.built_in.proofs.texts.rules.Goals as goal

pub returns : goal.returns
unfolding rules_document rules_text
returns c = refl
