use Rattle.std.proofs.Common.{sym, subst}
use Rattle.hub_cells.specs.Side as sides
use Rattle.hub_cells.specs.Fit.{Fit}
use Rattle.hub_fills.specs.Right.{RightFills}
use Rattle.keep_laws.specs.Known.{IsKnown}
use Rattle.keep_laws.proofs.SpokesFitted.{right}
use Rattle.spoke_keep.proofs.Completing.{first_known}
use Rattle.spoke_keep.proofs.settling.complete_first.Goals as goal

pub complete-requires-clause-right : goal.complete-requires-clause-right
complete-requires-clause-right c =
    let s = c.at-first.result.now in
    subst (λ (f : Fit). RightFills f.level c.fills_at.result.now) (sym c.fitted.ensures) (subst (RightFills s.fit.level) (sym (c.fills_at.ensures s c.at-first.ensures)) (right c.args.all.now 0 s c.items.ensures.definition c.at-first.ensures))

pub complete-requires-clause-known : goal.complete-requires-clause-known
complete-requires-clause-known c =
    subst (λ (f : Fit). IsKnown sides.hub f.level c.args.body) (sym c.fitted.ensures) (first_known c.given.ensures c.args.all.now c.at-first.result.now c.items.ensures.definition c.at-first.ensures c.args.body c.len.ensures.sound c.requires)
