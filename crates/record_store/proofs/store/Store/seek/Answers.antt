use Rattle.std.proofs.Common.{◌≡◌, Some, None, Ok, Err, map, ap, refl, sym, ◌∙◌}
use Rattle.std.specs.Prelude.{option_map}
use Rattle.std.proofs.lemmas.Option.{slice_get-get_or}
use Rattle.record_store.specs.ByKey.{find}
use Rattle.record_store.specs.ByKey.{place as place_of}
use Rattle.record_store.specs.Rows.{row_key}
use Rattle.record_store.specs.View.{StoreView, item_key, record_of}
use Rattle.record_store.proofs.Sorted.{hit_of, miss_of}
use Rattle.record_store.proofs.Answered.{looked}
use Rattle.record_store.proofs.Overwritten.{place-of}
use Rattle.record_store.proofs.store.Store.seek.Goals as goal

pub at-requires : goal.at-requires
at-requires c =
    let h = hit_of row_key c.args.key.now _ _ _ c.self.inside.index.rows _ c.ns.ensures.value c.name.ensures.value refl c.in-Ok.ensures.place in
    record { within = h.within }

pub returns-in-Ok-clause-place : goal.returns-in-Ok-clause-place
returns-in-Ok-clause-place c =
    place-of c.self.inside.region c.self.inside.index.rows c.args.key.now _ _ (Ok c.in-Ok.place) c.ns.ensures.value c.name.ensures.value c.in-Ok.ensures.place
    ∙ ap (λ (v : StoreView). place_of c.args.key.now (map item_key v.items)) c.self.view_is

pub returns-in-Ok-clause-standing : goal.returns-in-Ok-clause-standing
returns-in-Ok-clause-standing c =
    let rows = c.self.inside.index.rows in
    let h = hit_of row_key c.args.key.now _ _ _ rows _ c.ns.ensures.value c.name.ensures.value refl c.in-Ok.ensures.place in
    let found : Some c.at.result.now ≡ find row_key c.args.key.now rows = sym c.at.ensures ∙ slice_get-get_or rows c.in-Ok.place c.at.result.now h.within ∙ sym (h.value c.at.result.now) in
    looked c.self.inside.region rows c.args.key.now (Some c.at.result.now) c.self.invariant.shares.kept found
    ∙ ap (λ (v : StoreView). option_map record_of (find item_key c.args.key.now v.items)) c.self.view_is

pub returns-in-Err-clause-place : goal.returns-in-Err-clause-place
returns-in-Err-clause-place c =
    place-of c.self.inside.region c.self.inside.index.rows c.args.key.now _ _ (Err c.in-Err.place) c.ns.ensures.value c.name.ensures.value c.in-Err.ensures.place
    ∙ ap (λ (v : StoreView). place_of c.args.key.now (map item_key v.items)) c.self.view_is

pub returns-in-Err-clause-standing : goal.returns-in-Err-clause-standing
returns-in-Err-clause-standing c =
    let h = miss_of row_key c.args.key.now _ _ _ c.self.inside.index.rows _ c.ns.ensures.value c.name.ensures.value refl c.in-Err.ensures.place in
    looked c.self.inside.region c.self.inside.index.rows c.args.key.now None c.self.invariant.shares.kept (sym h.value)
    ∙ ap (λ (v : StoreView). option_map record_of (find item_key c.args.key.now v.items)) c.self.view_is
