use Rattle.std.proofs.Common.{List, ℕ, [], ◌∷◌, ◌++◌, ◌≡◌, ap, ◌∙◌}
use Rattle.std.specs.Prelude.{string_bytes}
use Rattle.crd_settings.specs.Pieces.{part_text, parts_text}
use Rattle.crd_settings.specs.declared.cut.Part.{Part}
use Rattle.crd_settings.specs.declared.cut.Part.TheVariants.{Text}
use Rattle.crd_settings.proofs.Texts.{flag-text}
use Rattle.crd_settings.proofs.cut.with_flag.Goals as goal

pub returns : goal.returns
returns c = record {
  text = λ m.
      let items : c.push-2.new.self.items ≡ (c.args.cut.parts.items ++ Text c.of_string.result ∷ []) ++ c.args.flag ∷ [] =
      c.in_ok-push-2.ensures.items ∙ ap (λ (ps : List Part). ps ++ c.args.flag ∷ []) c.in_ok-push.ensures.items in
      ap (λ (ps : List Part). parts_text m ps ++ string_bytes c.new.result) items
      ∙ (ap (λ (t : List ℕ). parts_text m ((c.args.cut.parts.items ++ Text c.of_string.result ∷ []) ++ c.args.flag ∷ []) ++ t) c.new.ensures.bytes
      ∙ (flag-text m c.args.cut.parts.items (Text c.of_string.result) c.args.flag
      ∙ ap (λ (t : List ℕ). (parts_text m c.args.cut.parts.items ++ t) ++ part_text m c.args.flag) c.of_string.ensures));
}
