use Rattle.hub_cells.specs.Fit.{Fit}
use Rattle.hub_fills.specs.Fills.{fills_of}
use Rattle.crd_loading.specs.Fits.{levels_in}
use Rattle.crd_loading.proofs.Parts.{next_fill}
use Rattle.crd_loading.proofs.naming.all_fills.Goals as goal

pub loop-i-preserved : goal.loop-i-preserved
loop-i-preserved c =
    let l = c.loop-i in
    let fs = c.args.fits.now in
    next_fill (λ (f : Fit). fills_of (levels_in fs) f.level) fs l.i l.fills.items c.push.new.self.items c.fills_of.result c.in_ok-fill.fill c.loop-i-test.true l.invariant c.fills_of.ensures c.in_ok-fill.was c.in_ok-push.ensures.items
