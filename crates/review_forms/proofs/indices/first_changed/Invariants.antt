use Rattle.std.proofs.Common.{◌≡◌, drop, map, not}
use Rattle.std.specs.List.{position_from, zip}
use Rattle.kj_value.specs.Seen.{json}
use Rattle.review_forms.specs.Response.{is_same_object}
use Rattle.review_forms.proofs.indices.first_changed.Given as goal

-- it is none of those before
abbrev pub invariant-loop-i : goal.invariant-loop-i
invariant-loop-i l =
    position_from (λ p. not (is_same_object p.0 p.1)) 0 (zip (map json l.values) (map json l.others))
    ≡ position_from (λ p. not (is_same_object p.0 p.1)) l.i (drop l.i (zip (map json l.values) (map json l.others)))
