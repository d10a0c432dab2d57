use Rattle.std.proofs.Common.{◌≤◌, length}
use Rattle.std.specs.Io.KnownBytes.{Consumes}
use Rattle.edge_io.specs.declared.files.TheConstants.{MOST_FILE_BYTES}
use Rattle.edge_io.proofs.disk_files.read_all.Given as goal

-- what was read isn't too long, and is what the reader gave; each piece had a byte
abbrev pub invariant-loop-turn : goal.invariant-loop-turn
invariant-loop-turn g l = record {
  short : length l.bytes.items ≤ MOST_FILE_BYTES;
  read : Consumes (g.S.Read.remaining l.fn.from) (g.S.Read.remaining l.from) l.bytes.items;
  grew : l.turn ≤ length l.bytes.items;
}
