use Rattle.std.proofs.Common.{◌≡◌, List, get_or, ap, subst}
use Rattle.keep_laws.specs.Spokes.{Spoke, Spokes}
use Rattle.keep_laws.proofs.Adding.{spoke_read}
use Rattle.spoke_keep.proofs.spokes.Spokes.at.Goals as goal

pub returns : goal.returns
returns c =
    let same : c.self.inside.items.items ≡ c.args.self.now.items = ap (λ (u : Spokes). u.items) c.self.view_is in
    spoke_read c.args.self.now.items c.args.v c.index.result.now c.requires (subst (λ (ss : List Spoke). c.index.result.now ≡ get_or ss c.args.v c.index.result.now) same c.index.ensures)
