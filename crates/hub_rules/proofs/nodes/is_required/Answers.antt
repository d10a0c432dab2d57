use Rattle.std.proofs.Common.{◌≡◌, ℕ, List, [], ◌∷◌, Bool, refl, ap, ◌∙◌}
use Rattle.std.specs.Prelude.{◌||◌}
use Rattle.std.specs.List.{list_any}
use Rattle.std.specs.Str.{bytes_eq}
use Rattle.hub_cells.specs.Fit.{has_name}
use Rattle.hub_rules.proofs.nodes.is_required.Goals as goal

any-name : (k : List ℕ) (ns : List (List ℕ)) → list_any (λ n. bytes_eq k n) ns ≡ has_name k ns
any-name k [] = refl
any-name k (n ∷ ns) = ap (λ (b : Bool). bytes_eq k n || b) (any-name k ns)

pub returns : goal.returns
returns c =
    c.has.ensures ∙ ap (λ (k : List ℕ). list_any (λ n. bytes_eq k n) c.args.s.now.required) c.as_str.ensures ∙ any-name c.args.name.now.bytes c.args.s.now.required
