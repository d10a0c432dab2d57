use Rattle.std.proofs.Common.{◌≡◌, ◌∙◌, List, ap, sym, subst}
use Rattle.kj_value.specs.Fields.{field}
use Rattle.kept_entries.specs.declared.entry.Entry.{Entry}
use Rattle.keep_bodies.specs.declared.conversion.KeptBody.{KeptBody}
use Rattle.hub_cells.specs.Side as sides
use Rattle.hub_cells.specs.Fit.{Fit}
use Rattle.keep_laws.specs.FittedBody.{IsBodyOf}
use Rattle.keep_laws.specs.Whole.{marks_of}
use Rattle.keep_laws.specs.Settle.{IsAllowed, converted}
use Rattle.keep_laws.specs.Keys.{hub_key}
use Rattle.keep_laws.specs.Notes.{Spells, with_entries}
use Rattle.keep_laws.proofs.Judged.{allowed}
use Rattle.spoke_keep.proofs.Steps.{spells_order, if_ok}
use Rattle.spoke_keep.proofs.hub.body_back.Goals as goal

pub hub_kept-requires : goal.hub_kept-requires
hub_kept-requires c = (c.args.all.now, c.args.s.now, c.requires.settled.0, c.requires.settled.2, c.requires.settled.3)

pub convert-made-requires-clause-allowed : goal.convert-made-requires-clause-allowed
convert-made-requires-clause-allowed c =
    let body = subst (IsBodyOf sides.spoke c.args.s.now.fit) c.requires.settled.1 c.requires.settled.3.body in
    subst (λ (f : Fit). IsAllowed sides.spoke f.level (marks_of sides.spoke f.level (with_entries c.args.body.now c.in-Ok.kept))) (sym c.fitted.ensures) (allowed c.given.ensures c.args.all.now c.requires.place.0 c.args.s.now c.items.ensures.definition c.requires.place.1 sides.spoke c.args.body.now c.in-Ok.kept c.len.ensures.sound body)

pub convert-made-requires-clause-order : goal.convert-made-requires-clause-order
convert-made-requires-clause-order c = spells_order _ c.in-Ok.kept c.in-Ok.ensures

pub returns-in-Ok : goal.returns-in-Ok
returns-in-Ok c =
    if_ok (λ (m : KeptBody). with_entries m.fields m.kept ≡ converted sides.spoke c.fitted.result.now.level (with_entries c.args.body.now c.in-Ok.kept)) (λ (m : KeptBody). (es : List Entry) × Spells (field hub_key c.args.annotations.now) es × (with_entries m.fields m.kept ≡ converted sides.spoke c.args.s.now.fit.level (with_entries c.args.body.now es))) c.convert-made.result (
    λ m e. (c.in-Ok.kept, c.in-Ok.ensures, e ∙ ap (λ (f : Fit). converted sides.spoke f.level (with_entries c.args.body.now c.in-Ok.kept)) c.fitted.ensures)
    ) c.convert-made.ensures
