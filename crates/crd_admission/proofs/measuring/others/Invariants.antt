use Rattle.std.proofs.Common.{◌≡◌, ◌+◌, drop, map}
use Rattle.kj_value.specs.Pair.{pair_of}
use Rattle.crd_admission.specs.inner.Count.{other_bytes, total}
use Rattle.crd_admission.proofs.measuring.others.Given as goal

abbrev pub invariant-loop-f : goal.invariant-loop-f
invariant-loop-f l =
    total other_bytes (map pair_of (drop l.f-index l.fields)) + l.fn.left ≡ l.rest + total other_bytes (map pair_of l.fields)
