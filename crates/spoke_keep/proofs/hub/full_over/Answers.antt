use Rattle.std.proofs.Common.{◌≡◌, ap, sym, subst, ◌∙◌}
use Rattle.hub_cells.specs.Side as sides
use Rattle.hub_cells.specs.Fit.{Fit}
use Rattle.hub_fills.specs.Fills.{Fills}
use Rattle.hub_fills.specs.Right.{RightFills}
use Rattle.keep_laws.specs.Whole.{marks_of}
use Rattle.keep_laws.specs.Known.{IsKnown}
use Rattle.keep_laws.specs.Settle.{IsAllowed, converted}
use Rattle.keep_laws.specs.Complete.{completed}
use Rattle.keep_laws.specs.Spokes.{fills_at}
use Rattle.keep_laws.specs.Notes.{with_entries}
use Rattle.keep_laws.proofs.Judged.{allowed}
use Rattle.keep_laws.proofs.SpokesFitted.{right}
use Rattle.keep_laws.proofs.Made.{hub_made_known}
use Rattle.spoke_keep.proofs.Shaping.{comes_over}
use Rattle.spoke_keep.proofs.hub.full_over.Goals as goal

pub convert-requires-clause-allowed : goal.convert-requires-clause-allowed
convert-requires-clause-allowed c =
    subst (λ (f : Fit). IsAllowed sides.spoke f.level (marks_of sides.spoke f.level (with_entries c.args.body.now c.args.kept.now))) (sym c.fitted-fitted.ensures) (allowed c.given.ensures c.args.all.now c.requires.place.0 c.args.s.now c.items.ensures.definition c.requires.place.1 sides.spoke c.args.body.now c.args.kept.now c.len.ensures.sound c.requires.body)

pub complete-requires-clause-right : goal.complete-requires-clause-right
complete-requires-clause-right c =
    subst (λ (f : Fit). RightFills f.level c.args.fills.now) (sym c.fitted-fitted.ensures) (subst (RightFills c.args.s.now.fit.level) (sym c.requires.fills) (right c.args.all.now c.requires.place.0 c.args.s.now c.items.ensures.definition c.requires.place.1))

pub complete-requires-clause-known : goal.complete-requires-clause-known
complete-requires-clause-known c =
    let made : with_entries c.in-Ok.made.fields c.in-Ok.made.kept ≡ converted sides.spoke c.args.s.now.fit.level (with_entries c.args.body.now c.args.kept.now) = c.in-Ok.ensures ∙ ap (λ (f : Fit). converted sides.spoke f.level (with_entries c.args.body.now c.args.kept.now)) c.fitted-fitted.ensures in
    subst (λ (f : Fit). IsKnown sides.hub f.level c.in-Ok.made.fields) (sym c.fitted-fitted.ensures) (hub_made_known c.given.ensures c.args.all.now c.requires.place.0 c.args.s.now c.items.ensures.definition c.requires.place.1 c.args.body.now c.in-Ok.made.fields c.args.kept.now c.in-Ok.made.kept c.len.ensures.sound c.requires.body made)

pub returns-in-Ok-complete : goal.returns-in-Ok-complete
returns-in-Ok-complete c =
    let made : with_entries c.in-Ok.made.fields c.in-Ok.made.kept ≡ converted sides.spoke c.args.s.now.fit.level (with_entries c.args.body.now c.args.kept.now) = c.in-Ok.ensures ∙ ap (λ (f : Fit). converted sides.spoke f.level (with_entries c.args.body.now c.args.kept.now)) c.fitted-fitted.ensures in
    let full : c.in-Ok-complete.full ≡ completed (fills_at c.args.all.now c.args.s.now) c.args.s.now.fit.level c.in-Ok.made.fields = c.in-Ok-complete.ensures ∙ ap (λ (f : Fit). completed c.args.fills.now f.level c.in-Ok.made.fields) c.fitted-fitted.ensures ∙ ap (λ (g : Fills). completed g c.args.s.now.fit.level c.in-Ok.made.fields) c.requires.fills in
    comes_over c.given.ensures c.args.all.now c.requires.place.0 c.args.s.now c.items.ensures.definition c.requires.place.1 c.args.body.now c.in-Ok.made.fields c.in-Ok-complete.full c.args.kept.now c.in-Ok.made.kept c.len.ensures.sound c.requires.body c.len-in-Ok-complete.ensures.sound made full
