use Rattle.std.proofs.Common.{◌≡◌, map, drop, nat_cmp}
use Rattle.std.specs.Cmp.Lexicographic.{slice_cmp}
use Rattle.kj_value.specs.Texts.{bytes_of}
use Rattle.kept_entries.proofs.order.compare_paths.Given as goal

abbrev pub invariant-loop-i : goal.invariant-loop-i
invariant-loop-i l =
    slice_cmp (slice_cmp nat_cmp) (map bytes_of (drop l.i l.a)) (map bytes_of (drop l.i l.b)) ≡ slice_cmp (slice_cmp nat_cmp) (map bytes_of l.a) (map bytes_of l.b)
