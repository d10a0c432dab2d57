-- The fills of the program, from the inside out: those of an object inside are already seen.
use Rattle.std.specs.Prelude.{List, [], ◌∷◌, map, option_map}
use Rattle.kj_value.specs.Seen.{json}
use Rattle.hub_fills.specs.Fills.{Fills, fills, Within, nothing_within, within}
use Rattle.hub_fills.specs.declared.fills.Deeper.{Deeper}
use Rattle.hub_fills.specs.declared.fills.Fills.TheInside.{Inside}

abbrev pub within_of : List Deeper → Within
within_of [] = nothing_within
within_of (d ∷ ds) = within d.fills (within_of ds)

abbrev pub fills_seen : Inside → Fills
fills_seen a = fills (map (option_map json) a.values.items) (within_of a.inner.items)
