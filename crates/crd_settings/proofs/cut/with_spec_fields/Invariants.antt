use Rattle.std.proofs.Common.{◌≡◌, ◌++◌, ℕ, drop, map}
use Rattle.kj_value.specs.Json.{members_of}
use Rattle.kj_value.specs.Pair.{pair_of}
use Rattle.crd_settings.specs.Flags.{spec_fields}
use Rattle.crd_settings.specs.Pieces.{cut_text, members_from}
use Rattle.crd_settings.specs.declared.parts.Mark.{Mark}
use Rattle.crd_settings.proofs.cut.with_spec_fields.Given as goal

abbrev pub invariant-loop-i : goal.invariant-loop-i
invariant-loop-i l =
    (m : ℕ → Mark) → cut_text m l.cut ++ members_from l.i (spec_fields m (members_of (map pair_of (drop l.i l.fields))))
    ≡ cut_text m l.fn.cut ++ members_from 0 (spec_fields m (members_of (map pair_of l.fields)))
