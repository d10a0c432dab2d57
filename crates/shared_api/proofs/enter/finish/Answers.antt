use Rattle.std.proofs.Common.{◌∙◌, List, ap, sym, subst}
use Rattle.api_calls.specs.Item.{Logged}
use Rattle.api_calls.specs.Legal.{IsLegal}
use Rattle.turn_cell.specs.declared.view.View.{View}
use Rattle.shared_api.specs.inner.Turning.{item_if}
use Rattle.shared_api.specs.declared.cell.CoreBase.{CoreBase}
use Rattle.shared_api.proofs.Entering.{base-stays, cell_stands}
use Rattle.shared_api.proofs.Turns.{cell_legal}
use Rattle.shared_api.proofs.enter.finish.Goals as goal

pub give-requires-clause-stands : goal.give-requires-clause-stands
give-requires-clause-stands g c =
    let w = c.args.pass.now.seat.me.0 in
    let u = c.append_if.new.pass.seat.me.0 in
    let i = item_if c.args.entered g.E.Names.item in (
      cell_stands g.V.Versions.meaning c.args.cell.core.value w u i c.requires.counts c.requires.stands c.append_if.ensures.enters,
      base-stays i w u c.append_if.ensures.enters ∙ c.requires.base,
    )

pub returns-clause-legal : goal.returns-clause-legal
returns-clause-legal g c =
    let w = c.args.pass.now.seat.me.0 in
    let u = c.append_if.new.pass.seat.me.0 in
    let i = item_if c.args.entered g.E.Names.item in
    let stands = cell_stands g.V.Versions.meaning c.args.cell.core.value w u i c.requires.counts c.requires.stands c.append_if.ensures.enters in
    subst (λ (log : List Logged). IsLegal (g.V.Versions.meaning c.args.cell.core.value.versions) c.args.cell.core.value.view.limits log)
    (sym (ap (λ (q : View (CoreBase g.row.V.Denot)). q.seen) c.give.ensures.given))
    (cell_legal g.V.Versions.meaning c.args.cell.core.value u.seen stands)
