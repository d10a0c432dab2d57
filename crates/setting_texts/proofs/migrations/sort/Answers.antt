use Rattle.std.proofs.Common.{rules}
use Rattle.std.proofs.lemmas.Fn.{always_returns_same}
use Rattle.setting_texts.proofs.Sorting.{names_rank, sorted-by_name, stands_before}
use Rattle.setting_texts.proofs.migrations.sort.Goals as goal

pub returns : goal.returns
returns c =
    sorted-by_name c.args.items.now.items c.sort_by.new.self.items
    (c.in_ok-sort_by.ensures.sorted stands_before names_rank (always_returns_same _ _ _ (λ a r f k. search rules)))
    (c.in_ok-sort_by.ensures.stable stands_before names_rank (always_returns_same _ _ _ (λ a r f k. search rules)))
