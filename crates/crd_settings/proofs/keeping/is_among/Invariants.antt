use Rattle.std.proofs.Common.{◌≡◌, drop, map}
use Rattle.kj_value.specs.Seen.{json}
use Rattle.crd_settings.specs.Keeping.{is_among, names_in}
use Rattle.crd_settings.proofs.keeping.is_among.Given as goal

abbrev pub invariant-loop-v : goal.invariant-loop-v
invariant-loop-v l = is_among (names_in (map json (drop l.v-index l.items))) l.name ≡ is_among (names_in (map json l.items)) l.name
