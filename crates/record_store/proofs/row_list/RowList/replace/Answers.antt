use Rattle.std.proofs.Common.{◌<◌, ◌/◌, List, length, ap, sym, ◌∙◌, arith}
use Rattle.std.specs.Prelude.{slice_get, slice_set}
use Rattle.std.proofs.lemmas.List.{length-set}
use Rattle.record_store.specs.Blocks.{joined}
use Rattle.record_store.specs.Rows.{Rows}
use Rattle.record_store.specs.declared.row.Row.{Row}
use Rattle.record_store.proofs.Packed.{got, inside, replaced-rows, replaced-length, replaced-packed}
use Rattle.record_store.proofs.row_list.RowList.replace.Goals as goal

pub replace-requires : goal.replace-requires
replace-requires c =
    let rows = ap (λ (v : Rows). length v.rows) c.self.view_is in
    let within : c.args.place < length (joined c.self.inside.blocks.items) = omega (arith, rows, c.requires.within) in
    record { within = inside c.self.inside.blocks.items c.args.place c.self.invariant.0 within c.index_mut.result.now c.index_mut.ensures.value }

pub invariant_of-self : goal.invariant_of-self
invariant_of-self c =
    let blocks = c.self.inside.blocks.items in
    let rows = ap (λ (v : Rows). length v.rows) c.self.view_is in
    let within : c.args.place < length (joined c.self.inside.blocks.items) = omega (arith, rows, c.requires.within) in
    let b = c.index_mut.result.now in
    let long = replaced-length blocks c.args.place c.self.invariant.0 within b c.index_mut.ensures.value c.replace.new.self c.args.row c.replace.ensures.rows in (
      replaced-packed blocks c.args.place c.self.invariant.0 within b c.index_mut.ensures.value c.replace.new.self c.args.row c.replace.ensures.rows,
      omega (arith, long, c.self.invariant.1),
      c.self.invariant.2,
      omega (arith, c.self.invariant.3, length-set c.self.inside.blocks.items (c.args.place / 256) c.replace.new.self),
    )

pub returns-clause-row : goal.returns-clause-row
returns-clause-row c =
    let rows = ap (λ (v : Rows). length v.rows) c.self.view_is in
    let within : c.args.place < length (joined c.self.inside.blocks.items) = omega (arith, rows, c.requires.within) in
    ap (λ (v : Rows). slice_get v.rows c.args.place) (sym c.self.view_is)
    ∙ got c.self.inside.blocks.items c.args.place c.self.invariant.0 within c.index_mut.result.now c.index_mut.ensures.value
    ∙ c.replace.ensures.row

pub returns-clause-rows : goal.returns-clause-rows
returns-clause-rows c =
    let rows = ap (λ (v : Rows). length v.rows) c.self.view_is in
    let within : c.args.place < length (joined c.self.inside.blocks.items) = omega (arith, rows, c.requires.within) in
    ap (λ (l : List Row). record { room = c.self.inside.room; rows = l }) (replaced-rows c.self.inside.blocks.items c.args.place c.self.invariant.0 within c.index_mut.result.now c.index_mut.ensures.value c.replace.new.self c.args.row c.replace.ensures.rows)
    ∙ ap (λ (v : Rows). record { room = v.room; rows = slice_set v.rows c.args.place c.args.row }) c.self.view_is
