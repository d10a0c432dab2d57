use Rattle.std.proofs.Common.{◌≡◌}
use Rattle.record_region.specs.Chains.{walk}
use Rattle.record_region.proofs.chains.follow.Given as goal

abbrev pub invariant-loop-step : goal.invariant-loop-step
invariant-loop-step l = l.chunk ≡ walk l.links l._step l.first
