use Rattle.std.proofs.Common.{◌<◌, ◌/◌, ◌%◌, List, length, ap, sym, ◌∙◌, arith}
use Rattle.std.specs.Prelude.{slice_get, slice_set}
use Rattle.std.proofs.lemmas.List.{length-set}
use Rattle.record_store.specs.Blocks.{joined}
use Rattle.record_store.specs.Rows.{Rows}
use Rattle.record_store.specs.declared.row.Row.{Row}
use Rattle.record_store.proofs.Packed.{got, got-some, inside, replaced-rows, replaced-length, replaced-packed}
use Rattle.record_store.proofs.row_list.RowList.set_piece.Goals as goal

pub set_piece-requires : goal.set_piece-requires
set_piece-requires c =
    let rows = ap (λ (v : Rows). length v.rows) c.self.view_is in
    let within : c.args.place < length (joined c.self.inside.blocks.items) = omega (arith, rows, c.requires.within) in
    record { within = inside c.self.inside.blocks.items c.args.place c.self.invariant.0 within c.index_mut.result.now c.index_mut.ensures.value }

pub invariant_of-self : goal.invariant_of-self
invariant_of-self c =
    let blocks = c.self.inside.blocks.items in
    let rows = ap (λ (v : Rows). length v.rows) c.self.view_is in
    let within : c.args.place < length (joined c.self.inside.blocks.items) = omega (arith, rows, c.requires.within) in
    let b = c.index_mut.result.now in
    let there = got-some b (c.args.place % 256) (inside blocks c.args.place c.self.invariant.0 within b c.index_mut.ensures.value) in
    let after : Row = record there.0 { piece = c.args.piece } in
    let set = c.set_piece.ensures there.0 there.1 in
    let long = replaced-length blocks c.args.place c.self.invariant.0 within b c.index_mut.ensures.value c.set_piece.new.self after set in (
      replaced-packed blocks c.args.place c.self.invariant.0 within b c.index_mut.ensures.value c.set_piece.new.self after set,
      omega (arith, long, c.self.invariant.1),
      c.self.invariant.2,
      omega (arith, c.self.invariant.3, length-set c.self.inside.blocks.items (c.args.place / 256) c.set_piece.new.self),
    )

pub returns : goal.returns
returns c = λ row e.
    let blocks = c.self.inside.blocks.items in
    let rows = ap (λ (v : Rows). length v.rows) c.self.view_is in
    let within : c.args.place < length (joined c.self.inside.blocks.items) = omega (arith, rows, c.requires.within) in
    let b = c.index_mut.result.now in
    let there = sym (got blocks c.args.place c.self.invariant.0 within b c.index_mut.ensures.value) ∙ ap (λ (v : Rows). slice_get v.rows c.args.place) c.self.view_is ∙ e in
    let after : Row = record row { piece = c.args.piece } in
    ap (λ (l : List Row). record { room = c.self.inside.room; rows = l }) (replaced-rows blocks c.args.place c.self.invariant.0 within b c.index_mut.ensures.value c.set_piece.new.self after (c.set_piece.ensures row there))
    ∙ ap (λ (v : Rows). record { room = v.room; rows = slice_set v.rows c.args.place after }) c.self.view_is
