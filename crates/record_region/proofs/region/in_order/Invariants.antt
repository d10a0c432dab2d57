use Rattle.std.proofs.Common.{◌≡◌, ℕ, ◌<◌, ◌+◌, length, get_or}
use Rattle.record_region.proofs.region.in_order.Given as goal

abbrev pub invariant-loop-chunk : goal.invariant-loop-chunk
invariant-loop-chunk l = (length l.links.items ≡ l.chunk) × ((k : ℕ) → k < l.chunk → get_or l.links.items k 0 ≡ k + 1)
