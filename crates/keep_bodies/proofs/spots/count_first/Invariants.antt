use Rattle.std.proofs.Common.{◌≤◌, ◌-◌, length}
use Rattle.keep_bodies.specs.inner.Left.{entries_left}
use Rattle.keep_bodies.specs.inner.Spots.{comes_first, leading}
use Rattle.keep_bodies.proofs.spots.count_first.Given as goal

abbrev pub invariant-loop-low : goal.invariant-loop-low
invariant-loop-low l =
    (l.low ≤ leading (comes_first (l.inside, l.name) l.also) (entries_left l.kept)) × (leading (comes_first (l.inside, l.name) l.also) (entries_left l.kept) ≤ l.high) × (l.high ≤ length l.entries)

abbrev pub decreases-loop-low : goal.decreases-loop-low
decreases-loop-low l = l.high - l.low
