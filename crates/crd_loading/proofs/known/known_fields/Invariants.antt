use Rattle.std.proofs.Common.{◌≡◌, ◌++◌, map}
use Rattle.std.specs.Vec.Iter.{into_iter_items}
use Rattle.kj_value.specs.Fields.{Pairs}
use Rattle.kj_value.specs.Pair.{pair_of}
use Rattle.crd_reading.specs.Seen.{version_of}
use Rattle.crd_loading.specs.Known.{known_field, mapped}
use Rattle.crd_loading.proofs.known.known_fields.Given as goal

abbrev pub invariant-loop-f : goal.invariant-loop-f
invariant-loop-f l =
    (done : Pairs) × (l.fn.fields ≡ done ++ map pair_of (into_iter_items l.f-iterator)) × (l.known ≡ mapped (known_field (map version_of l.versions)) done)
