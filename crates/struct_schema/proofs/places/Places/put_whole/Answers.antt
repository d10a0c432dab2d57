use Rattle.std.proofs.Common.{rules, ◌≡◌, Option, ℕ, ℤ, Some, cond, ap, ◌∙◌, to_z, of_z, w64}
use Rattle.std.specs.Ordering.{int_eq}
use Rattle.std.specs.HashMap.{get_by}
use Rattle.struct_schema.proofs.places.Places.put_whole.Goals as goal

pub returns : goal.returns
returns c =
    let same : to_z w64 (of_z w64 c.args.n) ≡ c.args.n = search rules in
    λ js h. record {
      texts = h.texts;
      wholes = λ z. c.in_ok-insert.ensures.updates.0 z ∙ ap (λ (k : ℤ). cond (int_eq k z) (Some c.args.i) (get_by (int_eq z) c.args.self.now.wholes)) same ∙ ap (λ (o : Option ℕ). cond (int_eq c.args.n z) (Some c.args.i) o) (h.wholes z);
    }
