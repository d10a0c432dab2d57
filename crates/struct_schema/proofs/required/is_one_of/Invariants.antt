use Rattle.std.proofs.Common.{◌≡◌, drop, map}
use Rattle.std.specs.List.{list_any}
use Rattle.std.specs.Str.{bytes_eq}
use Rattle.kj_value.specs.Texts.{bytes_of}
use Rattle.struct_schema.proofs.required.is_one_of.Given as goal

abbrev pub invariant-loop-n : goal.invariant-loop-n
invariant-loop-n l =
    list_any (λ n. bytes_eq l.name n) (map bytes_of (drop l.n-index l.names)) ≡ list_any (λ n. bytes_eq l.name n) (map bytes_of l.names)
