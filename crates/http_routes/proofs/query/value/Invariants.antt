use Rattle.std.proofs.Common.{◌≡◌, map, drop}
use Rattle.http_routes.specs.Queries.{value_of}
use Rattle.http_routes.specs.Views.{pair_texts}
use Rattle.http_routes.proofs.query.value.Given as goal

-- no pair so far has the key
abbrev pub invariant-loop-pair : goal.invariant-loop-pair
invariant-loop-pair l = value_of l.key (map pair_texts l.pairs) ≡ value_of l.key (map pair_texts (drop l.pair-index l.pairs))
