use Rattle.std.proofs.Common.{rules}
use Rattle.std.proofs.lemmas.Fn.{always_returns_same}
use Rattle.kept_entries.specs.Entry.{is_before}
use Rattle.keep_bodies.proofs.Sorted.{entries_rank, sort_is}
use Rattle.keep_bodies.proofs.sorting.sort.Goals as goal

pub returns : goal.returns
returns c =
    sort_is c.args.entries.now.items c.sort_by.new.self.items c.sort_by.ensures.permutation (c.in_ok-sort_by.ensures.sorted is_before entries_rank (always_returns_same _ _ _ (λ a r f k. search rules))) c.requires
