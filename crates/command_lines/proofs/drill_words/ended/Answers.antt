use Rattle.std.proofs.Common.{ℕ, List, ◌∷◌, ap, arith}
use Rattle.std.specs.Prelude.{codes}
use Rattle.command_lines.proofs.LineWords.{is_line, only_line, none_behind, no_third}
use Rattle.command_lines.proofs.drill_words.ended.Goals as goal

pub returns-in-empty-clause-is : goal.returns-in-empty-clause-is
returns-in-empty-clause-is c =
    is_line c.drill_with.result _ _ (ap (λ (ws : List (List ℕ)). codes "drill" ∷ c.args.start.now ∷ c.args.count.now ∷ ws) (none_behind c.args.more.now c.in-empty.len_below)) c.drill_with.ensures.is

pub returns-in-empty-clause-only : goal.returns-in-empty-clause-only
returns-in-empty-clause-only c =
    only_line c.drill_with.result _ _ (ap (λ (ws : List (List ℕ)). codes "drill" ∷ c.args.start.now ∷ c.args.count.now ∷ ws) (none_behind c.args.more.now c.in-empty.len_below)) c.drill_with.ensures.only

pub returns-in-len1-up-clause-only : goal.returns-in-len1-up-clause-only
returns-in-len1-up-clause-only c = λ line h. no_third c.args.start.now c.args.count.now c.args.more.now line (omega (arith, c.in-len1-up.len_at_least)) h
