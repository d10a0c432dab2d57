use Rattle.std.proofs.Common.{List, ℕ, ap, sym, ◌∙◌}
use Rattle.kj_value.specs.Fields.{field}
use Rattle.kj_value.specs.KindLaws.{pairs_members}
use Rattle.crd_reading.specs.Words.{spelled}
use Rattle.crd_reading.proofs.parts.value_at.Goals as goal

pub returns : goal.returns
returns c =
    c.get.ensures ∙ ap (λ (n : List ℕ). field n c.args.fields.now) c.text.ensures ∙ sym (ap (field (spelled c.args.word)) (pairs_members c.args.fields.now))
