use Rattle.std.proofs.Common.{◌≢◌, ◌<◌, ℕ, [], get_or, map}
use Rattle.kj_value.proofs.names.find_among.Given as goal

-- none of those before has the name
abbrev pub invariant-loop-i : goal.invariant-loop-i
invariant-loop-i g l = (j : ℕ) → j < l.i → get_or (map g.F.Named.name_of l.fields) j [] ≢ l.name
