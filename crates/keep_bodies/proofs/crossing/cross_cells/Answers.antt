use Rattle.std.proofs.Common.{◌≡◌, ◌∷◌, ◌++◌, ◌+◌, List, map, drop, ap, sym, subst, ◌∙◌}
use Rattle.std.proofs.lemmas.List.{append-nil, drop_all}
use Rattle.kept_entries.specs.declared.entry.Entry.{Entry}
use Rattle.hub_cells.specs.Level as levels
use Rattle.hub_cells.specs.Level.{CellsFit, names}
use Rattle.hub_cells.specs.declared.cell.Cell.{Cell}
use Rattle.hub_cells.specs.Seen.{side, cell}
use Rattle.keep_bodies.specs.inner.Left.{entries_left}
use Rattle.keep_bodies.specs.inner.Turned.{turned}
use Rattle.keep_bodies.specs.inner.Over.{mark_over, cell_fields, cell_kept}
use Rattle.keep_bodies.proofs.Cells.{cells_from, first_allowed, first_fits, entry_append}
use Rattle.keep_bodies.proofs.crossing.cross_cells.Goals as goal

pub cross_cell-requires-clause-allowed : goal.cross_cell-requires-clause-allowed
cross_cell-requires-clause-allowed c =
    (first_allowed (side c.args.from) c.args.x.now (entries_left c.args.kept.now) _ _ _ (cells_from c.args.cells.now c.loop-c.c-index c.c-item.result c.loop-c-test.true c.c-item.is) c.loop-c.invariant.allowed).0

pub loop-c-preserved : goal.loop-c-preserved
loop-c-preserved c =
    let l = c.loop-c in
    let d = side c.args.from in
    let x = c.args.x.now in
    let es = entries_left c.args.kept.now in
    let k = cell c.c-item.result in
    let rest = map cell (drop (l.c-index + 1) c.args.cells.now) in
    let step : map cell (drop l.c-index c.args.cells.now) ≡ k ∷ rest = cells_from c.args.cells.now l.c-index c.c-item.result c.loop-c-test.true c.c-item.is in
    record {
      fits = first_fits _ rest k step l.invariant.fits;
      allowed = (first_allowed d x es _ rest k step l.invariant.allowed).1;
      fields = ap (cell_fields d rest x es) c.in_ok-cross_cell.ensures.fields ∙ ap (λ (cs : List levels.Cell). cell_fields d cs x es l.fields) (sym step) ∙ l.invariant.fields;
      entries = ap (λ (fs : List Entry). fs ++ cell_kept d rest x es) c.in_ok-cross_cell.ensures.entries ∙ entry_append (names d k) (mark_over d k x es).1 (map turned l.entries.items) (cell_kept d rest x es) ∙ ap (λ (cs : List levels.Cell). map turned l.entries.items ++ cell_kept d cs x es) (sym step) ∙ l.invariant.entries;
    }

pub cross_cell-requires-clause-fits : goal.cross_cell-requires-clause-fits
cross_cell-requires-clause-fits c =
    (subst CellsFit (cells_from c.args.cells.now c.loop-c.c-index c.c-item.result c.loop-c-test.true c.c-item.is) c.loop-c.invariant.fits).0

pub returns-clause-fields : goal.returns-clause-fields
returns-clause-fields c =
    ap (λ (cs : List Cell). cell_fields (side c.args.from) (map cell cs) c.args.x.now (entries_left c.args.kept.now) c.loop-c.fields) (sym (drop_all c.loop-c.c-index c.args.cells.now c.loop-c-test.false)) ∙ c.loop-c.invariant.fields

pub returns-clause-entries : goal.returns-clause-entries
returns-clause-entries c =
    let fs = map turned c.loop-c.entries.items in
    sym (append-nil fs)
    ∙ ap (λ (cs : List Cell). fs ++ cell_kept (side c.args.from) (map cell cs) c.args.x.now (entries_left c.args.kept.now)) (sym (drop_all c.loop-c.c-index c.args.cells.now c.loop-c-test.false)) ∙ c.loop-c.invariant.entries
