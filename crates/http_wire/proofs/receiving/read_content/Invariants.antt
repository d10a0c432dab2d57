use Rattle.std.proofs.Common.{◌≡◌, ◌⊎◌, ℕ, List, ◌<◌, ◌≤◌, ◌-◌, length}
use Rattle.std.specs.Io.KnownBytes.{prepend_known}
use Rattle.httparse.specs.Grammar.{ResponseHead}
use Rattle.http_wire.specs.Received.{IsStatusOf}
use Rattle.http_wire.proofs.receiving.read_content.Given as goal

abbrev pub invariant-loop-inbox : goal.invariant-loop-inbox
invariant-loop-inbox g l = record {
  same : prepend_known l.inbox.bytes (g.S.Source.left l.input) ≡ prepend_known l.fn.inbox.bytes (g.S.Source.left l.fn.input);
  head : (h : ResponseHead) × (tail : List ℕ) × IsStatusOf l.inbox.bytes l.head h tail;
  ready : (length l.fn.inbox.bytes < l.len) ⊎ ((l.input ≡ l.fn.input) × (l.inbox ≡ l.fn.inbox));
  origin : g.S.Source.origin l.input ≡ g.S.Source.origin l.fn.input;
  later : g.S.Source.faults l.fn.input ≤ g.S.Source.faults l.input;
}

abbrev pub decreases-loop-inbox : goal.decreases-loop-inbox
decreases-loop-inbox g l = l.len - length l.inbox.bytes
