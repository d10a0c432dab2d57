use Rattle.std.proofs.Common.{◌≡◌, ◌++◌, drop, map}
use Rattle.std.specs.Prelude.{string_bytes}
use Rattle.kj_value.specs.Texts.{bytes_of}
use Rattle.crd_settings.specs.Pieces.{names_from}
use Rattle.crd_settings.proofs.pieces.all_names.Given as goal

abbrev pub invariant-loop-i : goal.invariant-loop-i
invariant-loop-i l = string_bytes l.text ++ names_from l.i (map bytes_of (drop l.i l.names)) ≡ names_from 0 (map bytes_of l.names)
