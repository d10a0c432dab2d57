use Rattle.std.proofs.Common.{◌≡◌, ◌++◌, map}
use Rattle.std.specs.Vec.Iter.{into_iter_items}
use Rattle.keep_laws.specs.Entry.{under}
use Rattle.keep_bodies.specs.inner.Turned.{turned}
use Rattle.keep_bodies.proofs.under.put_under.Given as goal

abbrev pub invariant-loop-e : goal.invariant-loop-e
invariant-loop-e l =
    map turned l.entries.items ++ map (under l.name) (map turned (into_iter_items l.e-iterator)) ≡ map turned l.initial.entries.items ++ map (under l.name) (map turned l.fn.found.items)
