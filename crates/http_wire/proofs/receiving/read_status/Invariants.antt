use Rattle.std.proofs.Common.{◌≡◌, ◌⊎◌, ℕ, List, ◌≤◌, ◌-◌, length}
use Rattle.std.specs.Io.KnownBytes.{prepend_known}
use Rattle.httparse.specs.Grammar.{ResponseHead}
use Rattle.http_wire.specs.Received.{IsStatusHead}
use Rattle.http_wire.specs.declared.limits.TheConstants.{MOST_HEAD_BYTES}
use Rattle.http_wire.proofs.receiving.read_status.Given as goal

abbrev pub invariant-loop-parts : goal.invariant-loop-parts
invariant-loop-parts g l = record {
  same : prepend_known l.inbox.bytes (g.S.Source.left l.input) ≡ prepend_known l.fn.inbox.bytes (g.S.Source.left l.fn.input);
  ready : ((h : ResponseHead) (tail : List ℕ) → IsStatusHead l.fn.inbox.bytes h tail → ⊥) ⊎ ((l.input ≡ l.fn.input) × (l.inbox ≡ l.fn.inbox));
  origin : g.S.Source.origin l.input ≡ g.S.Source.origin l.fn.input;
  later : g.S.Source.faults l.fn.input ≤ g.S.Source.faults l.input;
}

abbrev pub decreases-loop-parts : goal.decreases-loop-parts
decreases-loop-parts g l = MOST_HEAD_BYTES - length l.inbox.bytes
