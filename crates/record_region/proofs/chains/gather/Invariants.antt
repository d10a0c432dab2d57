use Rattle.std.proofs.Common.{◌≡◌, ◌≤◌, ◌++◌, take}
use Rattle.std.specs.Vec.{vec_capacity}
use Rattle.record_region.specs.Chains.{walk, content}
use Rattle.record_region.proofs.chains.gather.Given as goal

abbrev pub invariant-loop-step : goal.invariant-loop-step
invariant-loop-step l = record {
  next : l.chunk ≡ walk l.links l.step l.first;
  gathered : l.out.items ≡ l.initial.out.items ++ take l.size (content l.store l.links l.step l.first);
  room : vec_capacity l.initial.out ≤ vec_capacity l.out;
}
