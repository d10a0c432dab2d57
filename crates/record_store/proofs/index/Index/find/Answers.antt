use Rattle.std.proofs.Common.{sym, ap, refl, ◌∙◌, length, arith}
use Rattle.std.specs.Prelude.{slice_get}
use Rattle.std.proofs.lemmas.Option.{slice_get-get_or}
use Rattle.record_store.specs.Rows.{Rows, row_key}
use Rattle.record_store.proofs.Places.{hit_of, miss_of}
use Rattle.record_store.proofs.index.Index.find.Goals as goal

pub at-requires : goal.at-requires
at-requires c =
    let h = hit_of row_key c.args.key.now _ _ _ _ _ c.ns.ensures.value c.name.ensures.value refl c.in-Ok.ensures.place in
    let rows = ap (λ (v : Rows). length v.rows) c.self.view_is in
    record { within = omega (arith, h.within, rows) }

pub returns-in-Ok : goal.returns-in-Ok
returns-in-Ok c =
    let h = hit_of row_key c.args.key.now _ _ _ _ _ c.ns.ensures.value c.name.ensures.value refl c.in-Ok.ensures.place in
    sym c.at.ensures ∙ ap (λ (v : Rows). slice_get v.rows c.in-Ok.i) c.self.view_is ∙ slice_get-get_or c.args.self.now.rows c.in-Ok.i c.at.result.now h.within ∙ sym (h.value c.at.result.now)

pub returns-in-Err : goal.returns-in-Err
returns-in-Err c =
    let h = miss_of row_key c.args.key.now _ _ _ _ _ c.ns.ensures.value c.name.ensures.value refl c.in-Err.ensures.place in
    sym h.value
