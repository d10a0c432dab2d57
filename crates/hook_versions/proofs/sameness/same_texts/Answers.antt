use Rattle.std.proofs.Common.{◌∙◌, sym}
use Rattle.hook_versions.proofs.SameTexts.{same_texts}
use Rattle.hook_versions.proofs.sameness.same_texts.Goals as goal

pub returns : goal.returns
returns c = λ yes. sym c.as_slice.ensures.value ∙ same_texts _ _ (sym c.alike.ensures ∙ yes) ∙ c.as_slice-2.ensures.value
