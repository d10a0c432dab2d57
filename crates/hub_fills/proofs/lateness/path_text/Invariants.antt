use Rattle.std.proofs.Common.{◌≡◌, ◌∷◌, [], ◌++◌, map, drop, string_bytes}
use Rattle.kj_value.specs.Texts.{bytes_of}
use Rattle.hub_fills.specs.LateNames.{joined}
use Rattle.hub_fills.proofs.lateness.path_text.Given as goal

abbrev pub invariant-loop-k : goal.invariant-loop-k
invariant-loop-k l =
    string_bytes l.text ++ joined (map bytes_of (drop l.k-index l.path) ++ l.name.bytes ∷ []) ≡ joined (map bytes_of l.path ++ l.name.bytes ∷ [])
