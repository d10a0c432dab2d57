use Rattle.std.proofs.Common.{◌≡◌, sym, ap, ◌∙◌}
use Rattle.std.specs.Prelude.{slice_get}
use Rattle.record_store.specs.Rows.{Rows}
use Rattle.record_store.specs.declared.row.Row.{Row}
use Rattle.record_store.proofs.index.Index.record_at.Goals as goal

pub returns : goal.returns
returns c = λ row e.
    let there = sym c.at.ensures ∙ ap (λ (v : Rows). slice_get v.rows c.args.place) c.self.view_is ∙ e in
    let same : c.at.result.now ≡ row = cc in
    ap (λ (r : Row). r.record) same
