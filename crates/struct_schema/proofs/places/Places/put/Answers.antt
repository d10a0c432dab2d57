use Rattle.std.proofs.Common.{rules, ◌≡◌, ℤ, to_z, of_z, w64, ◌+◌, List, ◌∷◌, subst, sym}
use Rattle.std.specs.Prelude.{OnOk}
use Rattle.kj_value.specs.Json.{Json, whole}
use Rattle.kj_value.specs.Seen.{json}
use Rattle.kj_value.specs.declared.value.JVal.{JVal}
use Rattle.struct_schema.specs.Places.{ArePlaces}
use Rattle.struct_schema.proofs.Placed.{null_before, boolean_before, list_before, object_before}
use Rattle.struct_schema.proofs.places.Places.put.Goals as goal

pub returns-in-Text : goal.returns-in-Text
returns-in-Text c =
    subst (λ (v : JVal). OnOk c.put_text.result ((js : List Json) → ArePlaces c.args.self.now (c.args.i + 1) js → ArePlaces c.put_text.new.self c.args.i (json v ∷ js))) (sym c.in-Text.is) c.put_text.ensures

pub returns-in-Int : goal.returns-in-Int
returns-in-Int c =
    let same : to_z w64 (of_z w64 c.in-Int.n) ≡ c.in-Int.n = search rules in
    subst (λ (v : JVal). OnOk c.put_whole.result ((js : List Json) → ArePlaces c.args.self.now (c.args.i + 1) js → ArePlaces c.put_whole.new.self c.args.i (json v ∷ js))) (sym c.in-Int.is)
    (subst (λ (z : ℤ). OnOk c.put_whole.result ((js : List Json) → ArePlaces c.args.self.now (c.args.i + 1) js → ArePlaces c.put_whole.new.self c.args.i (whole z ∷ js))) same c.put_whole.ensures)

pub returns-in-Null : goal.returns-in-Null
returns-in-Null c = λ js h.
    subst (λ (v : JVal). ArePlaces c.args.self.now c.args.i (json v ∷ js)) (sym c.in-Null.is) (null_before c.args.self.now c.args.i js h)

pub returns-in-Bool : goal.returns-in-Bool
returns-in-Bool c = λ js h.
    subst (λ (v : JVal). ArePlaces c.args.self.now c.args.i (json v ∷ js)) (sym c.in-Bool.is) (boolean_before c.args.self.now c.args.i _ js h)

pub returns-in-List : goal.returns-in-List
returns-in-List c = λ js h.
    subst (λ (v : JVal). ArePlaces c.args.self.now c.args.i (json v ∷ js)) (sym c.in-List.is) (list_before c.args.self.now c.args.i _ js h)

pub returns-in-Obj : goal.returns-in-Obj
returns-in-Obj c = λ js h.
    subst (λ (v : JVal). ArePlaces c.args.self.now c.args.i (json v ∷ js)) (sym c.in-Obj.is) (object_before c.args.self.now c.args.i _ js h)
