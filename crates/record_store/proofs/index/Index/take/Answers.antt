use Rattle.std.proofs.Common.{◌≡◌, List, length, map, sym, subst, ap, refl, ◌∙◌, arith}
use Rattle.std.specs.Prelude.{remove, slice_get}
use Rattle.std.proofs.lemmas.Option.{slice_get-get_or}
use Rattle.record_store.specs.ByKey.{KeysRise, without}
use Rattle.record_store.specs.Rows.{Rows, row_key}
use Rattle.record_store.specs.declared.row.Row.{Row}
use Rattle.record_store.proofs.Places.{hit_of, miss_of, rise-without}
use Rattle.record_store.proofs.index.Index.take.Goals as goal

pub remove-requires : goal.remove-requires
remove-requires c =
    let h = hit_of row_key c.args.key.now _ _ _ _ _ c.ns.ensures.value c.name.ensures.value refl c.in-Ok.ensures.place in
    let rows = ap (λ (v : Rows). length v.rows) c.self.view_is in
    record { within = omega (arith, h.within, rows) }

removed : (c : goal.After-remove) → c.remove.new.self ≡ record c.args.self.now { rows = without row_key c.args.key.now c.args.self.now.rows }
removed c =
    let h = hit_of row_key c.args.key.now _ _ _ _ _ c.ns.ensures.value c.name.ensures.value refl c.in-Ok.ensures.place in
    c.remove.ensures.rows ∙ ap (λ (v : Rows). record v { rows = remove v.rows c.in-Ok.i }) c.self.view_is
    ∙ ap (λ (rows : List Row). record { room = c.args.self.now.room; rows = rows }) h.removed

pub invariant_of-self : goal.invariant_of-self
invariant_of-self c =
    subst (λ (v : Rows). KeysRise (map row_key v.rows)) (sym (removed c))
    (rise-without row_key c.args.key.now _ (subst (λ (v : Rows). KeysRise (map row_key v.rows)) c.self.view_is c.self.invariant))

pub returns-in-Ok-clause-row : goal.returns-in-Ok-clause-row
returns-in-Ok-clause-row c =
    let h = hit_of row_key c.args.key.now _ _ _ _ _ c.ns.ensures.value c.name.ensures.value refl c.in-Ok.ensures.place in
    sym c.remove.ensures.row ∙ ap (λ (v : Rows). slice_get v.rows c.in-Ok.i) c.self.view_is ∙ slice_get-get_or c.args.self.now.rows c.in-Ok.i c.remove.result h.within ∙ sym (h.value c.remove.result)

pub returns-in-Ok-clause-rows : goal.returns-in-Ok-clause-rows
returns-in-Ok-clause-rows c = removed c

pub returns-in-Err-clause-row : goal.returns-in-Err-clause-row
returns-in-Err-clause-row c =
    let h = miss_of row_key c.args.key.now _ _ _ _ _ c.ns.ensures.value c.name.ensures.value refl c.in-Err.ensures.place in
    sym h.value

pub returns-in-Err-clause-rows : goal.returns-in-Err-clause-rows
returns-in-Err-clause-rows c =
    let h = miss_of row_key c.args.key.now _ _ _ _ _ c.ns.ensures.value c.name.ensures.value refl c.in-Err.ensures.place in
    ap (λ (rows : List Row). record { room = c.args.self.now.room; rows = rows }) (sym h.removed)
