use Rattle.std.proofs.Common.{Option, Some, None, List, ℕ, ap, sym, ◌∙◌, Bor}
use Rattle.std.specs.Prelude.{option_copied, option_map}
use Rattle.record_store.specs.ByKey.{find}
use Rattle.record_store.specs.Rows.{row_key}
use Rattle.record_store.specs.declared.row.Row.{Row}
use Rattle.record_store.specs.Inside.{IsKept}
use Rattle.record_store.specs.View.{StoreView, Item, item_key, record_of}
use Rattle.record_store.proofs.Keyed.{each-found}
use Rattle.record_store.proofs.Answered.{looked, text_seen}
use Rattle.record_store.proofs.store.Store.read.Goals as goal

pub copy_text-requires-clause-live : goal.copy_text-requires-clause-live
copy_text-requires-clause-live c =
    let found = ap (λ (o : Option (Bor Row)). option_copied o) (sym c.in-Some.is) ∙ c.find.ensures in
    (each-found row_key (IsKept c.self.inside.region) c.args.key.now c.in-Some.row.now c.self.inside.index.rows (sym found) c.self.invariant.shares.kept).live

pub copy_text-requires-clause-text : goal.copy_text-requires-clause-text
copy_text-requires-clause-text c =
    let found = ap (λ (o : Option (Bor Row)). option_copied o) (sym c.in-Some.is) ∙ c.find.ensures in
    (each-found row_key (IsKept c.self.inside.region) c.args.key.now c.in-Some.row.now c.self.inside.index.rows (sym found) c.self.invariant.shares.kept).text

pub returns-in_ok-text-in-Some-clause-record : goal.returns-in_ok-text-in-Some-clause-record
returns-in_ok-text-in-Some-clause-record c =
    let found = ap (λ (o : Option (Bor Row)). option_copied o) (sym c.in-Some.is) ∙ c.find.ensures in
    looked c.self.inside.region c.self.inside.index.rows c.args.key.now (Some c.in-Some.row.now) c.self.invariant.shares.kept found
    ∙ ap (λ (v : StoreView). option_map record_of (find item_key c.args.key.now v.items)) c.self.view_is

pub returns-in_ok-text-in-Some-clause-text : goal.returns-in_ok-text-in-Some-clause-text
returns-in_ok-text-in-Some-clause-text c =
    let found = ap (λ (o : Option (Bor Row)). option_copied o) (sym c.in-Some.is) ∙ c.find.ensures in
    ap (λ (b : List ℕ). Some b) c.in_ok-text-in-Some.ensures
    ∙ text_seen c.self.inside.region c.self.inside.index.rows c.args.key.now (Some c.in-Some.row.now) found
    ∙ ap (λ (v : StoreView). option_map (λ (x : Item). x.bytes) (find item_key c.args.key.now v.items)) c.self.view_is

pub returns-in-None-clause-record : goal.returns-in-None-clause-record
returns-in-None-clause-record c =
    let found = ap (λ (o : Option (Bor Row)). option_copied o) (sym c.in-None.is) ∙ c.find.ensures in
    looked c.self.inside.region c.self.inside.index.rows c.args.key.now None c.self.invariant.shares.kept found
    ∙ ap (λ (v : StoreView). option_map record_of (find item_key c.args.key.now v.items)) c.self.view_is

pub returns-in-None-clause-text : goal.returns-in-None-clause-text
returns-in-None-clause-text c =
    let found = ap (λ (o : Option (Bor Row)). option_copied o) (sym c.in-None.is) ∙ c.find.ensures in
    text_seen c.self.inside.region c.self.inside.index.rows c.args.key.now None found
    ∙ ap (λ (v : StoreView). option_map (λ (x : Item). x.bytes) (find item_key c.args.key.now v.items)) c.self.view_is
