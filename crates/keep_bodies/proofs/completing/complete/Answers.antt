use Rattle.std.proofs.Common.{sym, ◌∙◌}
use Rattle.hub_cells.specs.Side.{hub}
use Rattle.keep_bodies.proofs.Filling.{filled_completed, complete_stays}
use Rattle.keep_bodies.proofs.Lacking.{no_fill_lacks, same_ok}
use Rattle.keep_bodies.proofs.completing.complete.Goals as goal

pub returns-then-not-any : goal.returns-then-not-any
returns-then-not-any c =
    let fitted = c.cells.ensures.fitted in
    complete_stays c.args.f.now.level c.args.fills.now c.args.x fitted.fits c.requires.right (fitted.no_name_twice hub) c.requires.known (no_fill_lacks c.args.f.now.level c.args.fills.now c.args.x (sym c.any.ensures ∙ c.if-not-any.true))

pub returns-then-not-level_lacks : goal.returns-then-not-level_lacks
returns-then-not-level_lacks c =
    let fitted = c.cells.ensures.fitted in
    complete_stays c.args.f.now.level c.args.fills.now c.args.x fitted.fits c.requires.right (fitted.no_name_twice hub) c.requires.known (sym c.level_lacks.ensures ∙ c.if-not-level_lacks.true)

pub returns : goal.returns
returns c =
    let fitted = c.cells.ensures.fitted in
    same_ok c.fill_level.result _ _ (filled_completed c.args.f.now.level c.args.fills.now c.args.x (fitted.no_name_twice hub) c.requires.known) c.fill_level.ensures
