use Rattle.std.proofs.Common.{◌≡◌, ◌≢◌, ℕ, ◌<◌}
use Rattle.record_region.specs.Chains.{walk, chunk_at}
use Rattle.record_region.proofs.Stores.{IsWritten}
use Rattle.record_region.proofs.chains.fill.Given as goal

abbrev pub invariant-loop-step : goal.invariant-loop-step
invariant-loop-step l = record {
  next : l.chunk ≡ walk l.links l.step l.first;
  written : (j : ℕ) → j < l.step → IsWritten l.store l.links l.bytes l.first j;
  others : (other : ℕ) → ((j : ℕ) → j < l.step → walk l.links j l.first ≢ other) → chunk_at l.store other ≡ chunk_at l.initial.store other;
}
