use Rattle.std.proofs.Common.{ℕ, map, Option, ap, sym, ◌∙◌}
use Rattle.std.specs.Prelude.{is_some}
use Rattle.kj_value.specs.Seen.{json}
use Rattle.hub_cells.specs.Pairs.{values_of}
use Rattle.hub_cells.specs.Seen.{side}
use Rattle.hub_cells.specs.Sought.{column}
use Rattle.hub_cells.proofs.Partners.{same_some}
use Rattle.hub_rules.proofs.doubles.is_again.Goals as goal

pub returns-in-First : goal.returns-in-First
returns-in-First c = λ i h.
    let ps = map values_of c.args.pairs.now in
    ap (λ (o : Option ℕ). is_some o) (sym (c.in-First.ensures i (column (side c.args.on) ps) h)) ∙ sym (same_some (side c.args.on) (json c.args.value.now) ps i)

pub returns-in-Nowhere : goal.returns-in-Nowhere
returns-in-Nowhere c = λ i h.
    let ps = map values_of c.args.pairs.now in
    ap (λ (o : Option ℕ). is_some o) (sym (c.in-Nowhere.ensures i (column (side c.args.on) ps) h)) ∙ sym (same_some (side c.args.on) (json c.args.value.now) ps i)
