use Rattle.std.proofs.Common.{Some, subst}
use Rattle.hub_cells.specs.Level.{Name}
use Rattle.kj_value.specs.Fields.{field}
use Rattle.keep_laws.specs.Notes.{Spells}
use Rattle.spoke_keep.proofs.Shaping.{shapes}
use Rattle.spoke_keep.proofs.Steps.{spells_order, hub_read, hub_fault}
use Rattle.spoke_keep.proofs.hub.shape_over.Goals as goal

pub full_over-made-requires-clause-order : goal.full_over-made-requires-clause-order
full_over-made-requires-clause-order c = spells_order _ c.in-Ok.kept c.in-Ok.ensures.ok

pub carried_over-requires-clause-hub : goal.carried_over-requires-clause-hub
carried_over-requires-clause-hub c = hub_read (Some c.args.s.now.name) c.hub_key.result.now c.args.annotations c.in-Ok.kept c.hub_key.ensures c.in-Ok.ensures.ok

pub returns-in-Err-clause-err : goal.returns-in-Err-clause-err
returns-in-Err-clause-err c =
    hub_fault c.args.all.now c.args.s.now.name c.hub_key.result.now c.args.annotations _ c.hub_key.ensures c.in-Err.ensures.err

pub returns-in-Ok-shape-clause-over : goal.returns-in-Ok-shape-clause-over
returns-in-Ok-shape-clause-over c =
    let spelled = subst (λ (k : Name). Spells (field k c.args.annotations) c.in-Ok.kept) c.hub_key.ensures c.in-Ok.ensures.ok in
    shapes c.given.ensures c.args.all.now c.requires.place.0 c.args.s.now c.items.ensures.definition c.requires.place.1 c.args.body.now c.in-Ok-made.made.fields c.args.annotations c.in-Ok-carried_over.notes c.in-Ok.kept c.in-Ok-made.made.kept c.in-Ok-shape.shape spelled c.in-Ok-made.ensures.made c.in-Ok-carried_over.ensures.ok c.in-Ok-shape.ensures
