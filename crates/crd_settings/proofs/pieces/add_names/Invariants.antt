use Rattle.std.proofs.Common.{◌≡◌, ◌+◌, ◌++◌, drop, length, map}
use Rattle.kj_value.specs.Texts.{bytes_of}
use Rattle.api_calls.specs.Versions.{versions_of}
use Rattle.crd_settings.specs.Pieces.{name_at, names_from}
use Rattle.crd_settings.proofs.pieces.add_names.Given as goal

abbrev pub invariant-loop-i : goal.invariant-loop-i
invariant-loop-i l = record {
  text : l.out.bytes ++ names_from l.i (map (name_at (map bytes_of l.names)) (drop l.i (versions_of l.stored)))
      ≡ l.fn.out.bytes ++ names_from 0 (map (name_at (map bytes_of l.names)) (versions_of l.stored));
  room : l.out.room + length (names_from 0 (map (name_at (map bytes_of l.names)) (versions_of l.stored)))
      ≡ l.fn.out.room + length (names_from l.i (map (name_at (map bytes_of l.names)) (drop l.i (versions_of l.stored))));
}
