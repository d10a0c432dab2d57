use Rattle.std.proofs.Common.{◌≡◌, List, length, map, sym, subst, ap, refl, ◌∙◌, arith}
use Rattle.std.specs.Prelude.{insert}
use Rattle.record_store.specs.ByKey.{KeysRise, put}
use Rattle.record_store.specs.Rows.{Rows, row_key}
use Rattle.record_store.specs.declared.row.Row.{Row}
use Rattle.record_store.proofs.Places.{miss, rise-put}
use Rattle.record_store.proofs.index.Index.insert.Goals as goal

pub insert-requires-clause-within : goal.insert-requires-clause-within
insert-requires-clause-within c =
    let h = miss row_key c.args.row.key _ _ _ refl (sym c.requires.there) in
    let rows = ap (λ (v : Rows). length v.rows) c.self.view_is in
    omega (arith, h.within, rows)

inserted : (c : goal.After-insert) → c.insert.new.self ≡ record c.args.self.now { rows = put row_key c.args.row c.args.self.now.rows }
inserted c =
    let h = miss row_key c.args.row.key _ _ _ refl (sym c.requires.there) in
    c.insert.ensures ∙ ap (λ (v : Rows). record v { rows = insert v.rows c.args.place c.args.row }) c.self.view_is
    ∙ ap (λ (rows : List Row). record { room = c.args.self.now.room; rows = rows }) (h.inserted c.args.row refl)

pub invariant_of-self : goal.invariant_of-self
invariant_of-self c =
    subst (λ (v : Rows). KeysRise (map row_key v.rows)) (sym (inserted c))
    (rise-put row_key c.args.row _ (subst (λ (v : Rows). KeysRise (map row_key v.rows)) c.self.view_is c.self.invariant))

pub returns : goal.returns
returns c = inserted c
