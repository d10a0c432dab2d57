use Rattle.std.proofs.Common.{◌≡◌, ◌++◌, map}
use Rattle.form_urlencoded.specs.Parse.{pairs_left}
use Rattle.http_routes.specs.Queries.{pairs_of, texts_of}
use Rattle.http_routes.specs.Views.{pair_texts}
use Rattle.http_routes.proofs.query.pairs.Given as goal

-- the pairs so far, and those that are left
abbrev pub invariant-loop-pair : goal.invariant-loop-pair
invariant-loop-pair l = map pair_texts l.pairs.items ++ map texts_of (pairs_left l.left) ≡ pairs_of l.query
