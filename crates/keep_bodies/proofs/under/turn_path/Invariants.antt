use Rattle.std.proofs.Common.{◌≡◌, ◌++◌, map, reverse, vec_len}
use Rattle.kj_value.specs.Texts.{bytes_of}
use Rattle.keep_bodies.proofs.under.turn_path.Given as goal

abbrev pub invariant-loop-n : goal.invariant-loop-n
invariant-loop-n l = l.path ++ reverse (map bytes_of l.names.items) ≡ reverse l.fn.at

abbrev pub decreases-loop-n : goal.decreases-loop-n
decreases-loop-n l = vec_len l.names
