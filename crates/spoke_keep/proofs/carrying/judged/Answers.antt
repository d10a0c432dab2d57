use Rattle.std.proofs.Common.{sym, subst}
use Rattle.hub_cells.specs.Side as sides
use Rattle.hub_cells.specs.Fit.{Fit}
use Rattle.keep_laws.specs.FittedBody.{IsBodyOf}
use Rattle.keep_laws.proofs.Made.{living_writable}
use Rattle.spoke_keep.proofs.carrying.judged.Goals as goal

pub living-requires-clause-allowed : goal.living-requires-clause-allowed
living-requires-clause-allowed c =
    c.given.ensures.allowed sides.hub c.fitted-fitted.result.now (record { fields = c.args.body.now; entries = c.in-Ok.kept }) c.cells.ensures.fitted c.len.ensures.sound (subst (λ (f : Fit). IsBodyOf sides.hub f c.args.body.now) (sym c.fitted-fitted.ensures) c.requires)

pub write_note-note-requires-clause-order : goal.write_note-note-requires-clause-order
write_note-note-requires-clause-order c =
    (living_writable c.given.ensures sides.hub c.fitted-fitted.result.now (record { fields = c.args.body.now; entries = c.in-Ok.kept }) c.in-Ok-living.lives c.cells.ensures.fitted c.len.ensures.sound (subst (λ (f : Fit). IsBodyOf sides.hub f c.args.body.now) (sym c.fitted-fitted.ensures) c.requires) c.in-Ok-living.ensures).order

pub write_note-note-requires-clause-levels : goal.write_note-note-requires-clause-levels
write_note-note-requires-clause-levels c =
    (living_writable c.given.ensures sides.hub c.fitted-fitted.result.now (record { fields = c.args.body.now; entries = c.in-Ok.kept }) c.in-Ok-living.lives c.cells.ensures.fitted c.len.ensures.sound (subst (λ (f : Fit). IsBodyOf sides.hub f c.args.body.now) (sym c.fitted-fitted.ensures) c.requires) c.in-Ok-living.ensures).levels
