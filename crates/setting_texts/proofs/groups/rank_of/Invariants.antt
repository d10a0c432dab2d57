use Rattle.std.proofs.Common.{◌≡◌, ◌+◌, drop}
use Rattle.setting_texts.specs.inner.Offered.{rank_of}
use Rattle.setting_texts.proofs.groups.rank_of.Given as goal

abbrev pub invariant-loop-i : goal.invariant-loop-i
invariant-loop-i g l =
    let m = g.V.Versions.meaning l.versions in
    l.i + rank_of m l.v (drop l.i l.ranked) ≡ rank_of m l.v l.ranked
