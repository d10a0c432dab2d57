use Rattle.std.proofs.Common.{◌≡◌, ◌<◌, ◌≤◌, ◌-◌, length}
use Rattle.std.specs.Io.KnownBytes.{prepend_known}
use Rattle.http_wire.specs.declared.limits.TheConstants.{MOST_HEAD_BYTES}
use Rattle.http_wire.specs.Head.{HasNoHead}
use Rattle.http_wire.proofs.reading.fill_head.Given as goal

abbrev pub invariant-loop-count : goal.invariant-loop-count
invariant-loop-count g l = record {
  same : prepend_known l.inbox.bytes (g.S.Source.left l.input) ≡ prepend_known l.fn.inbox.bytes (g.S.Source.left l.fn.input);
  more : length l.fn.inbox.bytes ≤ length l.inbox.bytes;
  room : length l.inbox.bytes < MOST_HEAD_BYTES;
  none : HasNoHead l.inbox.bytes;
  origin : g.S.Source.origin l.input ≡ g.S.Source.origin l.fn.input;
  most : g.S.Source.most l.input ≡ g.S.Source.most l.fn.input;
  later : g.S.Source.faults l.fn.input ≤ g.S.Source.faults l.input;
}

abbrev pub decreases-loop-count : goal.decreases-loop-count
decreases-loop-count g l = MOST_HEAD_BYTES - length l.inbox.bytes
