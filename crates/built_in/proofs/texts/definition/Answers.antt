use Rattle.std.proofs.Common.{refl}
use Rattle.built_in.specs.Texts.{definition_document, definition_text}
use Rattle.built_in.proofs.texts.definition.Goals as goal

pub returns : goal.returns
unfolding definition_document definition_text
returns c = refl
