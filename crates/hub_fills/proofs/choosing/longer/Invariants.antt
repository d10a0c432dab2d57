use Rattle.std.proofs.Common.{◌≡◌, map, take}
use Rattle.kj_value.specs.Texts.{bytes_of}
use Rattle.hub_fills.proofs.choosing.longer.Given as goal

abbrev pub invariant-loop-k : goal.invariant-loop-k
invariant-loop-k l = map bytes_of l.names.items ≡ map bytes_of (take l.k-index l.path)
