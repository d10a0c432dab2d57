use Rattle.std.proofs.Common.{◌≡◌, ◌+◌, length, drop}
use Rattle.std.specs.Prelude.{flat_map}
use Rattle.kj_value.specs.Text.{escaped_byte}
use Rattle.crd_admission.proofs.values.escaped.Given as goal

abbrev pub invariant-loop-byte : goal.invariant-loop-byte
invariant-loop-byte l =
    length (flat_map escaped_byte (drop l.byte-index l.bytes)) + l.initial.rest ≡ l.rest + length (flat_map escaped_byte l.bytes)
