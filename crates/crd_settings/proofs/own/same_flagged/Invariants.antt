use Rattle.std.proofs.Common.{◌≡◌, drop, map}
use Rattle.kj_value.specs.Json.{members_of}
use Rattle.kj_value.specs.Pair.{pair_of}
use Rattle.kj_value.specs.Same.{members_same}
use Rattle.crd_settings.specs.Flags.{flagged}
use Rattle.crd_settings.proofs.own.same_flagged.Given as goal

abbrev pub invariant-loop-i : goal.invariant-loop-i
invariant-loop-i l =
    members_same (members_of (map pair_of (drop l.i l.given))) (flagged l.mark (members_of (map pair_of (drop l.i l.own))))
    ≡ members_same (members_of (map pair_of l.given)) (flagged l.mark (members_of (map pair_of l.own)))
