use Rattle.std.proofs.Common.{◌≡◌, ◌++◌, ℕ, drop, map}
use Rattle.kj_value.specs.Json.{items_of}
use Rattle.kj_value.specs.Seen.{json}
use Rattle.crd_settings.specs.Flags.{versions_with}
use Rattle.crd_settings.specs.Pieces.{cut_text, items_from}
use Rattle.crd_settings.specs.declared.parts.Mark.{Mark}
use Rattle.crd_settings.proofs.cut.with_versions.Given as goal

abbrev pub invariant-loop-v : goal.invariant-loop-v
invariant-loop-v l =
    (m : ℕ → Mark) → cut_text m l.cut ++ items_from l.v (versions_with m l.v (items_of (map json (drop l.v l.versions))))
    ≡ cut_text m l.fn.cut ++ items_from 0 (versions_with m 0 (items_of (map json l.versions)))
