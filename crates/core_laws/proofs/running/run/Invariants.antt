use Rattle.std.proofs.Common.{◌+◌, ◌≤◌, length}
use Rattle.std.specs.Vec.{vec_capacity, vec_len}
use Rattle.std.specs.Vec.Iter.{into_iter_items}
use Rattle.api_core.specs.CoreOf.{SameBase}
use Rattle.core_laws.proofs.Reaching.{GoesOn}
use Rattle.core_laws.proofs.running.run.Given as goal

abbrev pub invariant-loop-call : goal.invariant-loop-call
invariant-loop-call g l = record {
  base : SameBase l.fn.core l.core;
  goes_on : GoesOn g.V.Versions.meaning l.fn.core l.core l.fn.calls.items l.answers.items (into_iter_items l.call-iterator);
  room : vec_len l.answers + length (into_iter_items l.call-iterator) ≤ vec_capacity l.answers;
}
