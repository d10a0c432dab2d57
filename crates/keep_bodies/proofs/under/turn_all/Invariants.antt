use Rattle.std.proofs.Common.{◌≡◌, ◌++◌, map}
use Rattle.std.specs.Vec.Iter.{into_iter_items}
use Rattle.keep_bodies.specs.inner.Turned.{turned}
use Rattle.keep_bodies.proofs.under.turn_all.Given as goal

abbrev pub invariant-loop-e : goal.invariant-loop-e
invariant-loop-e l =
    l.entries.items ++ map turned (into_iter_items l.e-iterator) ≡ map turned l.fn.found.items
