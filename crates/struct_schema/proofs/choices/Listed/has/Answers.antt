use Rattle.std.proofs.Common.{ℕ, List, Option, ap, sym, ◌∙◌}
use Rattle.std.specs.Prelude.{is_some}
use Rattle.std.specs.List.{list_any}
use Rattle.kj_value.specs.Json.{Json}
use Rattle.kj_value.specs.Seen.{json}
use Rattle.kj_value.specs.Same.{json_same}
use Rattle.struct_schema.proofs.Placed.{some_among}
use Rattle.struct_schema.proofs.choices.Listed.has.Goals as goal

pub returns-in-First : goal.returns-in-First
returns-in-First c =
    ap (λ (o : Option ℕ). is_some o) (sym (c.in-First.ensures c.self.inside.values c.self.invariant)) ∙ some_among (json c.args.v.now) c.self.inside.values 0 ∙ ap (λ (js : List Json). list_any (λ k. json_same k (json c.args.v.now)) js) c.self.view_is

pub returns-in-Nowhere : goal.returns-in-Nowhere
returns-in-Nowhere c =
    ap (λ (o : Option ℕ). is_some o) (sym (c.in-Nowhere.ensures c.self.inside.values c.self.invariant)) ∙ some_among (json c.args.v.now) c.self.inside.values 0 ∙ ap (λ (js : List Json). list_any (λ k. json_same k (json c.args.v.now)) js) c.self.view_is
