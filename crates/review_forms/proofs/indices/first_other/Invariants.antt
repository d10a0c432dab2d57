use Rattle.std.proofs.Common.{◌≡◌, drop, map}
use Rattle.std.specs.Prelude.{is_none}
use Rattle.std.specs.List.{position_from}
use Rattle.kj_value.specs.Kinds.{as_object}
use Rattle.kj_value.specs.Seen.{json}
use Rattle.review_forms.proofs.indices.first_other.Given as goal

-- it is none of those before
abbrev pub invariant-loop-i : goal.invariant-loop-i
invariant-loop-i l =
    position_from (λ j. is_none (as_object j)) 0 (map json l.values) ≡ position_from (λ j. is_none (as_object j)) l.i (drop l.i (map json l.values))
