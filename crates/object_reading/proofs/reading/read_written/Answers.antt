use Rattle.kj_value.specs.Seen.{json}
use Rattle.object_reading.proofs.Documents.{written_object}
use Rattle.object_reading.proofs.reading.read_written.Goals as goal

pub unreachable-requires : goal.unreachable-requires
unreachable-requires c = rw c.in-Null.is at (written_object (json c.args.doc) c.requires.written)

pub unreachable-requires-in-Bool : goal.unreachable-requires-in-Bool
unreachable-requires-in-Bool c = rw c.in-Bool.is at (written_object (json c.args.doc) c.requires.written)

pub unreachable-requires-in-Int : goal.unreachable-requires-in-Int
unreachable-requires-in-Int c = rw c.in-Int.is at (written_object (json c.args.doc) c.requires.written)

pub unreachable-requires-in-Text : goal.unreachable-requires-in-Text
unreachable-requires-in-Text c = rw c.in-Text.is at (written_object (json c.args.doc) c.requires.written)

pub unreachable-requires-in-List : goal.unreachable-requires-in-List
unreachable-requires-in-List c = rw c.in-List.is at (written_object (json c.args.doc) c.requires.written)
