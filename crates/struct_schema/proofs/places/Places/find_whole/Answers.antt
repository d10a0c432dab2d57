use Rattle.std.proofs.Common.{rules, ◌≡◌, ℤ, ap, sym, ◌∙◌, to_z, of_z, w64}
use Rattle.std.specs.Ordering.{int_eq}
use Rattle.std.specs.HashMap.{get_by}
use Rattle.struct_schema.proofs.places.Places.find_whole.Goals as goal

pub returns-in-Some : goal.returns-in-Some
returns-in-Some c = λ i js h.
    let same : to_z w64 (of_z w64 c.args.n) ≡ c.args.n = search rules in
    sym (h.wholes c.args.n) ∙ ap (λ (z : ℤ). get_by (int_eq z) c.args.self.now.wholes) (sym same) ∙ sym c.in-Some.ensures.value

pub returns-in-None : goal.returns-in-None
returns-in-None c = λ i js h.
    let same : to_z w64 (of_z w64 c.args.n) ≡ c.args.n = search rules in
    sym (h.wholes c.args.n) ∙ ap (λ (z : ℤ). get_by (int_eq z) c.args.self.now.wholes) (sym same) ∙ sym c.in-None.ensures.value
