use Rattle.std.proofs.Common.{◌≡◌, map, drop}
use Rattle.kj_value.specs.Pair.{pair_of}
use Rattle.keep_laws.specs.Entry.{all_named}
use Rattle.keep_bodies.specs.inner.Names.{name_list}
use Rattle.keep_bodies.proofs.entries.are_among.Given as goal

abbrev pub invariant-loop-f : goal.invariant-loop-f
invariant-loop-f l =
    all_named (name_list l.names) (map pair_of (drop l.f-index l.fields)) ≡ all_named (name_list l.names) (map pair_of l.fields)
