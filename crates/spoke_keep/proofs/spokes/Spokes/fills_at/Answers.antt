use Rattle.std.proofs.Common.{◌≡◌, List, length, get_or, map, ap, sym, subst, ◌∙◌}
use Rattle.hub_fills.specs.Fills.{Fills}
use Rattle.keep_laws.specs.Spokes.{Spoke, Spokes, fills_at}
use Rattle.spoke_keep.proofs.Completing.{mapped_at}
use Rattle.spoke_keep.proofs.spokes.Spokes.fills_at.Goals as goal

pub returns : goal.returns
returns c =
    let here : c.self.inside.fills.items ≡ map (fills_at c.args.self.now) c.args.self.now.items = subst (λ (a : Spokes). c.self.inside.fills.items ≡ map (fills_at a) a.items) c.self.view_is c.self.invariant.1 in
    λ s at. mapped_at (fills_at c.args.self.now) c.args.self.now.items c.args.v s c.index.result.now at (subst (λ (fs : List Fills). c.index.result.now ≡ get_or fs c.args.v c.index.result.now) here c.index.ensures)
