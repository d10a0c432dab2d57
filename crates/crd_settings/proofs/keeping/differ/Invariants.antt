use Rattle.std.proofs.Common.{◌≡◌, drop, map}
use Rattle.kj_value.specs.Seen.{json}
use Rattle.crd_settings.specs.Keeping.{do_differ, names_in}
use Rattle.crd_settings.proofs.keeping.differ.Given as goal

abbrev pub invariant-loop-i : goal.invariant-loop-i
invariant-loop-i l = do_differ (names_in (map json (drop l.i l.items))) ≡ do_differ (names_in (map json l.items))
