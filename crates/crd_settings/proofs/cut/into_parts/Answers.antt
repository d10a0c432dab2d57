use Rattle.std.proofs.Common.{List, ℕ, ◌++◌, ap, ◌∙◌}
use Rattle.crd_settings.specs.Pieces.{parts_text}
use Rattle.crd_settings.specs.declared.cut.Part.{Part}
use Rattle.crd_settings.specs.declared.cut.Part.TheVariants.{Text}
use Rattle.crd_settings.proofs.Texts.{parts-push}
use Rattle.crd_settings.proofs.cut.into_parts.Goals as goal

pub returns : goal.returns
returns c = λ m.
    ap (λ (ps : List Part). parts_text m ps) c.in_ok-push.ensures.items
    ∙ (parts-push m c.args.cut.parts.items (Text c.of_string.result)
    ∙ ap (λ (t : List ℕ). parts_text m c.args.cut.parts.items ++ t) c.of_string.ensures)
