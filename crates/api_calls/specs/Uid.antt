-- The uid of an object: a UUID in the hyphenated form of RFC 9562 in lower case, of two halves of 64 bits.
use Rattle.std.specs.Prelude.{ℕ, List, ◌+◌, ◌*◌, ◌/◌, ◌%◌, ◌^◌}
use Rattle.std.specs.Int.{w128, to_be_bytes}
use Rattle.uuid.specs.Text.{hyphenated_text, lower}

-- the number of the server's start, with 8, the version for a format of one's own, in the bits 12 to 15
abbrev pub uid_high : ℕ → ℕ
uid_high boot = boot / 2 ^ 16 * 2 ^ 16 + 8 * 2 ^ 12 + boot % 2 ^ 12

-- the number of the entry that created the object, below the variant of RFC 9562
abbrev pub uid_low : ℕ → ℕ
uid_low born = 2 ^ 63 + born

unfoldable pub uid : ℕ → ℕ → List ℕ
uid boot born = hyphenated_text lower (to_be_bytes w128 (uid_high boot * 2 ^ 64 + uid_low born))
