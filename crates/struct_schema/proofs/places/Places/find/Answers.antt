use Rattle.std.proofs.Common.{rules, ◌≡◌, List, ℕ, ℤ, subst, sym, to_z, of_z, w64}
use Rattle.kj_value.specs.Json.{text, whole}
use Rattle.kj_value.specs.Seen.{json}
use Rattle.kj_value.specs.declared.value.JVal.{JVal}
use Rattle.struct_schema.specs.Places.{Tells, first_from}
use Rattle.struct_schema.proofs.places.Places.find.Goals as goal

pub returns-in-Text : goal.returns-in-Text
returns-in-Text c = λ i js h.
    subst (λ (v : JVal). Tells c.find_text.result (first_from i (json v) js)) (sym c.in-Text.is) (subst (λ (k : List ℕ). Tells c.find_text.result (first_from i (text k) js)) c.as_str.ensures (c.find_text.ensures i js h))

pub returns-in-Int : goal.returns-in-Int
returns-in-Int c = λ i js h.
    let same : to_z w64 (of_z w64 c.in-Int.n) ≡ c.in-Int.n = search rules in
    subst (λ (v : JVal). Tells c.find_whole.result (first_from i (json v) js)) (sym c.in-Int.is) (subst (λ (z : ℤ). Tells c.find_whole.result (first_from i (whole z) js)) same (c.find_whole.ensures i js h))
