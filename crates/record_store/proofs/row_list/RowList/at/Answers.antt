use Rattle.std.proofs.Common.{◌<◌, length, ap, sym, ◌∙◌, arith}
use Rattle.std.specs.Prelude.{slice_get}
use Rattle.record_store.specs.Blocks.{joined}
use Rattle.record_store.specs.Rows.{Rows}
use Rattle.record_store.proofs.Packed.{got, inside}
use Rattle.record_store.proofs.row_list.RowList.at.Goals as goal

pub at-requires : goal.at-requires
at-requires c =
    let rows = ap (λ (v : Rows). length v.rows) c.self.view_is in
    let within : c.args.place < length (joined c.self.inside.blocks.items) = omega (arith, rows, c.requires.within) in
    record { within = inside c.self.inside.blocks.items c.args.place c.self.invariant.0 within c.index.result.now c.index.ensures }

pub returns : goal.returns
returns c =
    let rows = ap (λ (v : Rows). length v.rows) c.self.view_is in
    let within : c.args.place < length (joined c.self.inside.blocks.items) = omega (arith, rows, c.requires.within) in
    ap (λ (v : Rows). slice_get v.rows c.args.place) (sym c.self.view_is)
    ∙ got c.self.inside.blocks.items c.args.place c.self.invariant.0 within c.index.result.now c.index.ensures
    ∙ c.at.ensures
