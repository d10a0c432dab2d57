-- Which texts are finalizers, and how many there are at most: any text as long as a qualified name is at the longest.
use Rattle.std.specs.Prelude.{ℕ, Bool, ◌&&◌, List, length, nat_le}
use Rattle.object_reading.specs.declared.finalizers.TheConstants.{FINALIZER_BYTES}

unfoldable pub is_finalizer : List ℕ → Bool
is_finalizer s = nat_le 1 (length s) && nat_le (length s) FINALIZER_BYTES
