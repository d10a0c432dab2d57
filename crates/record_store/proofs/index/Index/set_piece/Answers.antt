use Rattle.std.proofs.Common.{◌<◌, length, map, sym, subst, ap, refl, ◌∙◌, arith}
use Rattle.std.specs.Prelude.{slice_get, slice_set}
use Rattle.std.proofs.lemmas.Option.{get_or_from_slice_get}
use Rattle.record_store.specs.ByKey.{KeysRise}
use Rattle.record_store.specs.Rows.{Rows, row_key}
use Rattle.record_store.specs.declared.row.Row.{Row}
use Rattle.record_store.proofs.Packed.{got-some}
use Rattle.record_store.proofs.Places.{keys-set}
use Rattle.record_store.proofs.index.Index.set_piece.Goals as goal

pub invariant_of-self : goal.invariant_of-self
invariant_of-self c =
    let rows = c.self.inside.rows.rows in
    let same = ap (λ (v : Rows). length v.rows) c.self.view_is in
    let within : c.args.place < length c.self.inside.rows.rows = omega (arith, same, c.requires.within) in
    let there = got-some rows c.args.place within in
    let after : Row = record there.0 { piece = c.args.piece } in
    subst (λ (v : Rows). KeysRise (map row_key v.rows)) (sym (c.set_piece.ensures there.0 there.1))
    (subst KeysRise (sym (keys-set row_key rows c.args.place there.0 after (sym (get_or_from_slice_get rows c.args.place there.0 there.0 there.1)) refl)) c.self.invariant)

pub returns : goal.returns
returns c = λ row e.
    c.set_piece.ensures row (ap (λ (v : Rows). slice_get v.rows c.args.place) c.self.view_is ∙ e)
    ∙ ap (λ (v : Rows). record v { rows = slice_set v.rows c.args.place (record row { piece = c.args.piece }) }) c.self.view_is
