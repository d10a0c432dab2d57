use Rattle.std.proofs.Common.{List, ℕ, ap, sym, ◌∙◌}
use Rattle.kj_value.specs.Fields.{field}
use Rattle.kj_value.specs.KindLaws.{pairs_members}
use Rattle.schema_reading.specs.Words.{word}
use Rattle.schema_reading.proofs.kinds.value_at.Goals as goal

pub returns : goal.returns
returns c =
    c.get.ensures ∙ ap (λ (n : List ℕ). field n c.args.fields.now) c.word.ensures ∙ sym (ap (field (word c.args.keyword)) (pairs_members c.args.fields.now))
