use Rattle.std.proofs.Common.{List, map, sym, subst, ap, refl, ◌∙◌}
use Rattle.std.proofs.lemmas.Option.{slice_get-get_or}
use Rattle.record_store.specs.ByKey.{KeysRise, find, put}
use Rattle.record_store.specs.ByKey.{place as place_of}
use Rattle.record_store.specs.Rows.{Rows, row_key}
use Rattle.record_store.specs.declared.row.Row.{Row}
use Rattle.record_store.proofs.Places.{hit, rise-put}
use Rattle.record_store.proofs.index.Index.replace.Goals as goal

pub replace-requires : goal.replace-requires
replace-requires c =
    let there = sym c.requires.there ∙ ap (λ (v : Rows). place_of c.args.row.key (map row_key v.rows)) (sym c.self.view_is) in
    let h = hit row_key c.args.row.key _ _ _ refl there in
    record { within = h.within }

pub invariant_of-self : goal.invariant_of-self
invariant_of-self c =
    let rows = c.self.inside.rows.rows in
    let there = sym c.requires.there ∙ ap (λ (v : Rows). place_of c.args.row.key (map row_key v.rows)) (sym c.self.view_is) in
    let h = hit row_key c.args.row.key _ _ _ refl there in
    subst (λ (v : Rows). KeysRise (map row_key v.rows)) (sym c.replace.ensures.rows)
    (subst (λ (l : List Row). KeysRise (map row_key l)) (sym (h.replaced c.args.row refl)) (rise-put row_key c.args.row rows c.self.invariant))

pub returns-clause-row : goal.returns-clause-row
returns-clause-row c =
    let rows = c.self.inside.rows.rows in
    let there = sym c.requires.there ∙ ap (λ (v : Rows). place_of c.args.row.key (map row_key v.rows)) (sym c.self.view_is) in
    let h = hit row_key c.args.row.key _ _ _ refl there in
    ap (λ (v : Rows). find row_key c.args.row.key v.rows) (sym c.self.view_is) ∙ h.value c.args.row ∙ sym (slice_get-get_or rows c.args.place c.args.row h.within) ∙ c.replace.ensures.row

pub returns-clause-rows : goal.returns-clause-rows
returns-clause-rows c =
    let there = sym c.requires.there ∙ ap (λ (v : Rows). place_of c.args.row.key (map row_key v.rows)) (sym c.self.view_is) in
    let h = hit row_key c.args.row.key _ _ _ refl there in
    c.replace.ensures.rows ∙ ap (λ (rows : List Row). record { room = c.self.inside.rows.room; rows = rows }) (h.replaced c.args.row refl)
    ∙ ap (λ (v : Rows). record v { rows = put row_key c.args.row v.rows }) c.self.view_is
