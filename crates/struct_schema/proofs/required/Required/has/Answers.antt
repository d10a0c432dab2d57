use Rattle.std.proofs.Common.{ℕ, List, map, Option, ap, sym, ◌∙◌}
use Rattle.std.specs.Prelude.{is_some}
use Rattle.std.specs.List.{list_any}
use Rattle.std.specs.Str.{bytes_eq}
use Rattle.kj_value.specs.Json.{text}
use Rattle.struct_schema.proofs.Placed.{some_named}
use Rattle.struct_schema.proofs.required.Required.has.Goals as goal

pub returns-in-First : goal.returns-in-First
returns-in-First c =
    ap (λ (o : Option ℕ). is_some o) (sym (c.in-First.ensures (map text c.self.inside.names) c.self.invariant)) ∙ some_named c.args.name.now c.self.inside.names 0 ∙ ap (λ (ns : List (List ℕ)). list_any (λ n. bytes_eq c.args.name.now n) ns) c.self.view_is

pub returns-in-Nowhere : goal.returns-in-Nowhere
returns-in-Nowhere c =
    ap (λ (o : Option ℕ). is_some o) (sym (c.in-Nowhere.ensures (map text c.self.inside.names) c.self.invariant)) ∙ some_named c.args.name.now c.self.inside.names 0 ∙ ap (λ (ns : List (List ℕ)). list_any (λ n. bytes_eq c.args.name.now n) ns) c.self.view_is
