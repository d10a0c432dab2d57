use Rattle.std.proofs.Common.{◌≡◌, drop, map}
use Rattle.std.specs.List.{list_any}
use Rattle.kj_value.specs.Seen.{json}
use Rattle.kj_value.specs.Same.{json_same}
use Rattle.struct_schema.proofs.choices.is_among.Given as goal

abbrev pub invariant-loop-c : goal.invariant-loop-c
invariant-loop-c l =
    list_any (λ c. json_same c (json l.v)) (map json (drop l.c-index l.choices)) ≡ list_any (λ c. json_same c (json l.v)) (map json l.choices)
