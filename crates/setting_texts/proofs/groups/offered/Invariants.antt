use Rattle.std.proofs.Common.{◌≡◌}
use Rattle.setting_texts.specs.inner.Offered.{ranked_below}
use Rattle.setting_texts.proofs.groups.offered.Given as goal

abbrev pub invariant-loop-v : goal.invariant-loop-v
invariant-loop-v g l = l.ranked.items ≡ ranked_below (g.V.Versions.meaning l.versions) l.flags l.v
