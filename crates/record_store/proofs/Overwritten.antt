-- A write at the place of its key: a record that stood there goes into the window, and the new one stands in its place.
use Rattle.std.proofs.Common.{◌≡◌, ℕ, ◌+◌, ◌-◌, ◌≤◌, ◌<◌, List, [], ◌∷◌, ◌++◌, length, map, get_or, set, zero, suc, Option, Some, None, Result, Ok, Err, ap, refl, sym, subst, ◌∙◌, arith}
use Rattle.std.specs.Prelude.{option_map, slice_get, slice_set, IsUtf8}
use Rattle.std.proofs.lemmas.List.{length-set}
use Rattle.kube_meta.specs.Key.{KeyView}
use Rattle.kube_meta.specs.Window.{weights, newest, floor_from}
use Rattle.kube_meta.specs.declared.limits.Limits.{Limits}
use Rattle.record_region.specs.Chunks.{chunks_of}
use Rattle.record_region.specs.Places.{Places, piece_at, spare}
use Rattle.record_store.specs.ByKey.{KeysRise, find, put, without, place}
use Rattle.record_store.specs.Rows.{Rows, row_key}
use Rattle.record_store.specs.declared.row.Row.{Row}
use Rattle.record_store.specs.declared.row.Record.{Record}
use Rattle.record_store.specs.Held.{trimmed}
use Rattle.record_store.specs.Pasts.{Pasts, past_by, past_weight}
use Rattle.record_store.specs.View.{Item, StoreView, item_key, item_weight}
use Rattle.record_store.specs.Moves.{removed, replaced, added, new_item, with_new}
use Rattle.record_store.specs.Room.{HasRoom}
use Rattle.record_store.specs.declared.record.NewRecord.{NewRecord}
use Rattle.record_store.specs.Inside.{item_of, store_view, row_weight, IsSoundStore}
use Rattle.record_store.proofs.Keyed.{find-without, put-without, weights-without}
use Rattle.record_store.proofs.Mapped.{keys-seen, find-seen, length-seen}
use Rattle.record_store.proofs.Sorted.{hit, miss}
use Rattle.record_store.proofs.Changes.{Changed, live-seen, removal, addition, spare-enough}
use Rattle.record_store.proofs.Answered.{enough_chunks, has_more}

-- ---- the place of a key

-- the keys of the rows are those of the records
pub place-seen : (places : Places) (rows : List Row) (k : KeyView) (r : Result ℕ ℕ) → place k (map item_key (map (item_of places) rows)) ≡ r → place k (map row_key rows) ≡ r
place-seen places rows k r e = ap (place k) (sym (keys-seen (item_of places) item_key rows)) ∙ e

-- the same, where the key's parts were read one by one
pub place-of : (places : Places) (rows : List Row) (k : KeyView) (ns name : List ℕ) (r : Result ℕ ℕ) → ns ≡ k.ns → name ≡ k.name
    → r ≡ place (record { ns = ns; name = name }) (map row_key rows) → r ≡ place k (map item_key (map (item_of places) rows))
place-of places rows k ns name r e f h =
    h ∙ ap (λ (n : List ℕ). place (record { ns = n; name = name }) (map row_key rows)) e ∙ ap (λ (n : List ℕ). place (record { ns = k.ns; name = n }) (map row_key rows)) f
    ∙ sym (ap (place k) (keys-seen (item_of places) item_key rows))

-- where no record stands, a write adds one
pub written-fresh : (now : ℕ) (new : NewRecord) (s : StoreView) (i : ℕ) → place new.key (map item_key s.items) ≡ Err i → added now now new s ≡ with_new now new s
written-fresh now new s i there =
    let none = (miss item_key new.key s.items s.items i refl (sym there)).value in
    sym (ap (λ (o : Option Item). record (replaced now o s) { items = put item_key (new_item now new o) s.items; last = now }) none)

-- ---- one row changes

get-set : {X : Type 0} (xs : List X) (i : ℕ) (x : X) → i < length xs → slice_get (set xs i x) i ≡ Some x
get-set [] i x p = absurd (omega (arith, p))
get-set (y ∷ xs) zero x p = refl
get-set (y ∷ xs) (suc i) x p = get-set xs i x (omega (arith, p))

set-set : {X : Type 0} (xs : List X) (i : ℕ) (x y : X) → set (set xs i x) i y ≡ set xs i y
set-set [] i x y = refl
set-set (z ∷ xs) zero x y = refl
set-set {X} (z ∷ xs) (suc i) x y = ap (λ (l : List X). z ∷ l) (set-set xs i x y)

got-at : {X : Type 0} (xs : List X) (i : ℕ) (d : X) → i < length xs → slice_get xs i ≡ Some (get_or xs i d)
got-at [] i d p = absurd (omega (arith, p))
got-at (x ∷ xs) zero d p = refl
got-at (x ∷ xs) (suc i) d p = got-at xs i d (omega (arith, p))

pub found-at : (rows : List Row) (i : ℕ) (k : KeyView) (old : Row) → place k (map row_key rows) ≡ Ok i → find row_key k rows ≡ Some old → slice_get rows i ≡ Some old
found-at rows i k old there found =
    let h = hit row_key k rows rows i refl (sym there) in
    got-at rows i old h.within ∙ sym (h.value old) ∙ found

pub within-put : (rows : List Row) (i : ℕ) (row : Row) → place row.key (map row_key rows) ≡ Ok i → i < length (put row_key row rows)
within-put rows i row there =
    let h = hit row_key row.key rows rows i refl (sym there) in
    let long = ap (λ (rs : List Row). length rs) (h.replaced row refl) in
    let same = length-set rows i row in
    let within = h.within in
    omega (arith, long, same, within)

pub within-rows : (rows : List Row) (i : ℕ) (k : KeyView) → place k (map row_key rows) ≡ Ok i → i < length rows
within-rows rows i k there = let h = hit row_key k rows rows i refl (sym there) in h.within

-- a row waits for its piece at the place of its key, and gets it
pub placed : (index : Rows) (waiting : Row) (piece i : ℕ) (index1 index2 : Rows) → place waiting.key (map row_key index.rows) ≡ Ok i → index1 ≡ record index { rows = put row_key waiting index.rows }
    → ((row : Row) → slice_get index1.rows i ≡ Some row → index2 ≡ record index1 { rows = slice_set index1.rows i (record row { piece = piece }) })
    → index2 ≡ record index { rows = put row_key (record waiting { piece = piece }) index.rows }
placed index waiting piece i index1 index2 there is1 is2 =
    let h = hit row_key waiting.key index.rows index.rows i refl (sym there) in
    let row : Row = record waiting { piece = piece } in
    let first = sym (h.replaced waiting refl) in
    let got : slice_get index1.rows i ≡ Some waiting = ap (λ (v : Rows). slice_get v.rows i) is1 ∙ ap (λ (rs : List Row). slice_get rs i) first ∙ get-set index.rows i waiting h.within in
    is2 waiting got ∙ ap (λ (v : Rows). record v { rows = slice_set v.rows i row }) is1
    ∙ ap (λ (rs : List Row). record index { rows = slice_set rs i row }) first
    ∙ ap (λ (rs : List Row). record index { rows = rs }) (set-set index.rows i waiting row ∙ h.replaced row refl)

-- ---- the room that a write needs

module _ (limits : Limits) (index : Rows) (window : Pasts) (places : Places) (live last : ℕ) (h : IsSoundStore limits index window places live last) where
  -- the index has no row of a key, and there is room for one of a weight
  pub record IsNew (k : KeyView) (i weight : ℕ) : Type 0 where
    pub there : place k (map row_key index.rows) ≡ Err i
    pub fresh : find row_key k index.rows ≡ None
    pub few : length index.rows < index.room
    pub light : live + weight ≤ limits.chunks

  pub is-new : (k : KeyView) (i weight : ℕ) (v : StoreView) → store_view limits index window places last ≡ v → place k (map item_key v.items) ≡ Err i → HasRoom weight (find item_key k v.items) v → IsNew k i weight
  is-new k i weight v same there room =
      let its = place-seen places index.rows k (Err i) (ap (λ (s : StoreView). place k (map item_key s.items)) same ∙ there) in
      let lives = live-seen limits index window places live last h ∙ ap (λ (s : StoreView). weights item_weight s.items) same in
      let chunks = ap (λ (s : StoreView). s.limits.chunks) same in
      let none = (miss item_key k v.items v.items i refl (sym there)).value in
      let more = has_more weight v (omega (arith, lives, chunks, h.light)) (subst (λ (o : Option Item). HasRoom weight o v) none room) in
      let rows = length-seen (item_of places) index.rows in
      let items = ap (λ (s : StoreView). length s.items) same in
      let objects = ap (λ (s : StoreView). s.limits.objects) same in
      record {
        there = its;
        fresh = (miss row_key k index.rows index.rows i refl (sym its)).value;
        few = omega (arith, more.few, rows, items, objects, h.room);
        light = omega (arith, more.light, lives, chunks);
      }

  -- where a row stands, its weight is room for another
  pub light : (k : KeyView) (old : Row) → find row_key k index.rows ≡ Some old → (weight : ℕ) (v : StoreView) → store_view limits index window places last ≡ v → HasRoom weight (find item_key k v.items) v
      → live - old.record.weight + weight ≤ limits.chunks
  light k old found weight v same room =
      let stood = ap (λ (s : StoreView). find item_key k s.items) (sym same) ∙ find-seen (item_of places) item_key k index.rows ∙ ap (option_map (item_of places)) found in
      let weigh = weights-without row_key row_weight k old index.rows found in
      let lives = live-seen limits index window places live last h ∙ ap (λ (s : StoreView). weights item_weight s.items) same in
      let chunks = ap (λ (s : StoreView). s.limits.chunks) same in
      let fits = enough_chunks v old.record.weight weight (omega (arith, lives, chunks, h.light)) (subst (λ (o : Option Item). HasRoom weight o v) stood room) in
      omega (arith, weigh, h.lives, lives, chunks, fits)

-- ---- the record that stood leaves, and another comes

module _ (limits : Limits) (index : Rows) (window : Pasts) (places : Places) (live last : ℕ) (h : IsSoundStore limits index window places live last) (now : ℕ) (later : last < now) (rise : KeysRise (map row_key index.rows)) where
  abbrev view : StoreView
  view = store_view limits index window places last

  module _ (k : KeyView) (old : Row) (found : find row_key k index.rows ≡ Some old) (window2 window3 : Pasts) (places2 : Places)
      (is : window2 ≡ record window { items = window.items ++ record { by = now; row = old } ∷ [] }) (limits3 : window3.limits ≡ window2.limits)
      (items3 : window3.items ≡ newest past_weight window2.limits window2.items) (floor3 : window3.floor ≡ floor_from past_by past_weight window2.limits window2.floor window2.items)
      (places3 : places2 ≡ trimmed window2.limits window2.items places) where
    abbrev others : Rows
    others = record index { rows = without row_key k index.rows }

    gone : Changed limits others window3 places2 (live - old.record.weight) now (removed now k view)
    gone = removal limits index window places live last h k now old found later others window2 window3 places2 refl is limits3 items3 floor3 places3

    pub enough : (n weight : ℕ) → live - old.record.weight + weight ≤ limits.chunks → chunks_of n ≤ weight → spare places2 < chunks_of n → ⊥
    enough n weight = spare-enough limits others window3 places2 (live - old.record.weight) now gone.sound n weight

    pub overwrite : (r : Record) (piece : ℕ) (bytes : List ℕ) → piece_at places2 piece ≡ None → piece < length places2 → IsUtf8 bytes → length bytes ≡ r.len → chunks_of r.len ≤ r.weight
        → live - old.record.weight + r.weight ≤ limits.chunks → 1 ≤ r.rv → r.rv ≤ now
        → Changed limits (record index { rows = put row_key (record { key = k; «record» = r; piece = piece }) index.rows }) window3 (slice_set places2 piece (Some bytes)) (live - old.record.weight + r.weight) now
        (record (removed now k view) { items = put item_key (record { key = k; at = r.at; rv = r.rv; born = r.born; weight = r.weight; bytes = bytes }) (removed now k view).items; last = now })
    overwrite r piece bytes unused within text len chunks room some upto =
        let row : Row = record { key = k; «record» = r; piece = piece } in
        let item : Item = record { key = k; at = r.at; rv = r.rv; born = r.born; weight = r.weight; bytes = bytes } in
        let fresh = find-without row_key k index.rows rise in
        let here = addition limits others window3 places2 (live - old.record.weight) now gone.sound now row bytes fresh unused within text len chunks room (omega arith) some upto in
        let after : StoreView = record (removed now k view) { items = put item_key item (removed now k view).items; last = now } in
        let P : List Row → Type 0 = λ rs. Changed limits (record index { rows = rs }) window3 (slice_set places2 piece (Some bytes)) (live - old.record.weight + r.weight) now after in
        subst P (put-without row_key row index.rows rise) (record {
          sound = here.sound;
          seen = here.seen ∙ ap (λ (v : StoreView). record v { items = put item_key item v.items; last = now }) gone.seen;
        })
