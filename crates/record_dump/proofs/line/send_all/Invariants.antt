use Rattle.std.proofs.Common.{◌≡◌, ◌≤◌, ◌++◌, List, map}
use Rattle.std.specs.Vec.Iter.{into_iter_items}
use Rattle.std.specs.Io.KnownBytes.{append_known}
use Rattle.kj_value.specs.Json.{Json, items_depth, items_of}
use Rattle.kj_value.specs.Seen.{json}
use Rattle.wire_client.specs.declared.buffer.TheConstants.{ANSWER_LEVELS}
use Rattle.record_dump.specs.Lines.{lines_of}
use Rattle.record_dump.proofs.line.send_all.Given as goal

-- the lines of the first objects were written
abbrev pub invariant-loop-object : goal.invariant-loop-object
invariant-loop-object g l = record {
  wrote : (done : List Json) × (l.fn.objects ≡ done ++ map json (into_iter_items l.object-iterator)) × (g.K.Sink.written l.out ≡ append_known (g.K.Sink.written l.fn.out) (lines_of done));
  low : items_depth (items_of (map json (into_iter_items l.object-iterator))) ≤ ANSWER_LEVELS;
  later : g.K.Sink.faults l.fn.out ≤ g.K.Sink.faults l.out;
}
