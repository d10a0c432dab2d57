use Rattle.std.proofs.Common.{◌≡◌, drop, map}
use Rattle.std.specs.Str.{bytes_eq}
use Rattle.kj_value.specs.Texts.{bytes_of}
use Rattle.struct_schema.specs.ShapeSame.{all_same}
use Rattle.struct_schema.proofs.equality.same_names.Given as goal

abbrev pub invariant-loop-i : goal.invariant-loop-i
invariant-loop-i l =
    all_same bytes_eq (map bytes_of (drop l.i l.xs)) (map bytes_of (drop l.i l.ys)) ≡ all_same bytes_eq (map bytes_of l.xs) (map bytes_of l.ys)
