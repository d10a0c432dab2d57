use Rattle.std.proofs.Common.{◌≡◌, ◌+◌, true, length, drop}
use Rattle.std.specs.Prelude.{flat_map}
use Rattle.kj_value.specs.Text.{escaped_byte}
use Rattle.crd_admission.proofs.values.are_plain.Given as goal

-- what is spelled of the bytes before is as long as they are
abbrev pub invariant-loop-byte : goal.invariant-loop-byte
invariant-loop-byte l =
    l.plain ≡ true → length (flat_map escaped_byte (drop l.byte-index l.bytes)) + l.byte-index ≡ length (flat_map escaped_byte l.bytes)
