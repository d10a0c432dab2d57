use Rattle.std.proofs.Common.{◌≡◌, ◌∙◌, List, ap, sym, subst}
use Rattle.hub_cells.specs.Side as sides
use Rattle.hub_cells.specs.Fit.{Fit}
use Rattle.kube_meta.specs.View.{object_of}
use Rattle.kept_entries.specs.declared.entry.Entry.{Entry}
use Rattle.keep_bodies.specs.declared.conversion.KeptBody.{KeptBody}
use Rattle.keep_laws.specs.Whole.{marks_of}
use Rattle.keep_laws.specs.Settle.{IsAllowed, converted}
use Rattle.keep_laws.specs.Keys.{spoke_key}
use Rattle.keep_laws.specs.Notes.{noted, Spells, with_entries}
use Rattle.keep_laws.proofs.Made.{form_allowed}
use Rattle.spoke_keep.proofs.Steps.{if_ok}
use Rattle.spoke_keep.proofs.form.body_for.Goals as goal

pub convert-made-requires-clause-allowed : goal.convert-made-requires-clause-allowed
convert-made-requires-clause-allowed c =
    subst (λ (f : Fit). IsAllowed sides.hub f.level (marks_of sides.hub f.level (with_entries c.args.h.now.body c.in-Ok.kept))) (sym c.fitted.ensures) (form_allowed c.given.ensures c.args.all.now c.requires.place.0 c.args.s.now c.items.ensures.definition c.requires.place.1 (object_of c.args.h.now) c.requires.whole c.in-Ok.kept)

pub returns-in-Ok : goal.returns-in-Ok
returns-in-Ok c =
    if_ok (λ (m : KeptBody). with_entries m.fields m.kept ≡ converted sides.hub c.fitted.result.now.level (with_entries c.args.h.now.body c.in-Ok.kept)) (λ (m : KeptBody). (es : List Entry) × Spells (noted (spoke_key c.args.s.now.name) (object_of c.args.h.now)) es × (with_entries m.fields m.kept ≡ converted sides.hub c.args.s.now.fit.level (with_entries c.args.h.now.body es))) c.convert-made.result (
    λ m e. (c.in-Ok.kept, c.in-Ok.ensures, e ∙ ap (λ (f : Fit). converted sides.hub f.level (with_entries c.args.h.now.body c.in-Ok.kept)) c.fitted.ensures)
    ) c.convert-made.ensures
