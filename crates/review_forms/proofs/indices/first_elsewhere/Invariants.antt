use Rattle.std.proofs.Common.{◌≡◌, drop, map, not}
use Rattle.std.specs.Prelude.{codes}
use Rattle.std.specs.List.{position_from}
use Rattle.kj_value.specs.Fields.{field}
use Rattle.kj_value.specs.Seen.{json}
use Rattle.review_forms.specs.Form.{has_text, fields_of}
use Rattle.review_forms.proofs.indices.first_elsewhere.Given as goal

-- it is none of those before
abbrev pub invariant-loop-i : goal.invariant-loop-i
invariant-loop-i l =
    position_from (λ k. not (has_text l.fn.desired (field (codes "apiVersion") (fields_of k)))) 0 (map json l.values)
    ≡ position_from (λ k. not (has_text l.fn.desired (field (codes "apiVersion") (fields_of k)))) l.i (drop l.i (map json l.values))
