use Rattle.std.proofs.Common.{ℕ, List, ◌∷◌, ap, arith}
use Rattle.std.specs.Prelude.{codes}
use Rattle.command_lines.proofs.LineWords.{is_line, only_line, first_word, no_numbers}
use Rattle.command_lines.proofs.drill_words.drill_of.Goals as goal

pub returns-in-empty-clause-only : goal.returns-in-empty-clause-only
returns-in-empty-clause-only c = λ line h. no_numbers c.args.words.now line c.in-empty.len_below h

pub returns-in-len1-up-clause-is : goal.returns-in-len1-up-clause-is
returns-in-len1-up-clause-is c =
    is_line c.counted.result _ _ (ap (λ (ws : List (List ℕ)). codes "drill" ∷ ws)
    (first_word c.args.words.now c.start-item.result c.as_str.result.now (omega (arith, c.in-len1-up.len_at_least)) c.start-item.is c.as_str.ensures.value)) c.counted.ensures.is

pub returns-in-len1-up-clause-only : goal.returns-in-len1-up-clause-only
returns-in-len1-up-clause-only c =
    only_line c.counted.result _ _ (ap (λ (ws : List (List ℕ)). codes "drill" ∷ ws)
    (first_word c.args.words.now c.start-item.result c.as_str.result.now (omega (arith, c.in-len1-up.len_at_least)) c.start-item.is c.as_str.ensures.value)) c.counted.ensures.only
