-- What a removal and an addition make of what the store holds.
use Rattle.std.proofs.Common.{◌≡◌, ℕ, ◌+◌, ◌-◌, ◌≤◌, ◌<◌, List, [], ◌∷◌, ◌++◌, length, map, Option, None, Some, ap, refl, sym, subst, ◌∙◌, arith}
use Rattle.std.specs.Prelude.{option_map, slice_set, IsUtf8}
use Rattle.std.specs.List.{AllByRecursion as Each}
use Rattle.std.proofs.lemmas.List.{length-set}
use Rattle.kube_meta.specs.Key.{KeyView}
use Rattle.kube_meta.specs.Window.{weights, newest, floor_from}
use Rattle.kube_meta.specs.laws.WindowLaws.{newest-fits, fits-bounds}
use Rattle.kube_meta.specs.declared.limits.Limits.{Limits}
use Rattle.record_region.specs.Chunks.{chunks_of}
use Rattle.record_region.specs.laws.Laws.{piece_at-set_same}
use Rattle.record_region.specs.Places.{Places, piece_at, bytes_in, spare}
use Rattle.record_store.specs.ByKey.{KeysRise, find, put, without}
use Rattle.record_store.specs.Rows.{Rows, row_key}
use Rattle.record_store.specs.declared.row.Row.{Row}
use Rattle.record_store.specs.declared.past.Past.{Past}
use Rattle.record_store.specs.Held.{trimmed}
use Rattle.record_store.specs.Pasts.{Pasts, past_by, past_weight, rows_of}
use Rattle.record_store.specs.View.{Item, StoreView, IsStore, item_key, item_weight, old_by, old_weight}
use Rattle.record_store.specs.Moves.{removed, removed_found}
use Rattle.record_store.specs.Inside.{item_of, old_of, store_view, row_weight, IsSoundStore}
use Rattle.record_store.proofs.Keyed.{weights-put, weights-without, without-absent, each-put, each-without, each-found, each-push, each-weaker}
use Rattle.record_store.proofs.Mapped.{length-seen, push-seen, each-seen, keys-seen, find-seen, put-seen, without-seen, weights-seen, fits-seen, newest-seen, floor-seen, rises-seen}
use Rattle.record_store.proofs.Pieces.{taken-le}
use Rattle.record_store.proofs.Shares.{Trims, trims, moves, Adds, adds}
use Rattle.record_store.proofs.Windows.{rises-push, rises-newest, each-newest, floor-le}

-- the store holds this now, and is seen like that
pub record Changed (limits : Limits) (index : Rows) (window : Pasts) (places : Places) (live last : ℕ) (view : StoreView) : Type 0 where
  pub sound : IsSoundStore limits index window places live last
  pub seen : store_view limits index window places last ≡ view

module _ (limits : Limits) (index : Rows) (window : Pasts) (places : Places) (live last : ℕ) (h : IsSoundStore limits index window places live last) where
  abbrev view : StoreView
  view = store_view limits index window places last

  pub live-seen : live ≡ weights item_weight (map (item_of places) index.rows)
  live-seen = h.lives ∙ sym (weights-seen (item_of places) item_weight item_weight limits index.rows)

  pub is-store : KeysRise (map row_key index.rows) → length index.rows ≤ index.room → IsStore view
  is-store rise few =
      let long = length-seen (item_of places) index.rows in
      let room = h.room in
      let light = h.light in
      let weigh = live-seen in
      record {
        order = subst KeysRise (sym (keys-seen (item_of places) item_key index.rows)) rise;
        few = omega (arith, few, long, room);
        light = omega (arith, light, weigh);
        window_fits = fits-seen (old_of places) old_by old_weight limits window.items ∙ h.window_fits;
        window_order = rises-seen (old_of places) old_by old_weight limits window.floor window.items h.window_order;
        dated = each-seen (item_of places) (λ x. (1 ≤ x.rv) × (x.rv ≤ last)) index.rows h.dated;
        past = each-seen (old_of places) (λ o. o.by ≤ last) window.items h.past;
        floor = h.floor;
      }

  -- a piece that fits its weight has room
  pub spare-enough : (n weight : ℕ) → live + weight ≤ limits.chunks → chunks_of n ≤ weight → spare places < chunks_of n → ⊥
  spare-enough n weight light fit lacks =
      let rows = taken-le places index.rows h.shares.kept in
      let pasts = taken-le places (rows_of window.items) h.shares.past_kept in
      let same = weights-seen (λ (p : Past). p.row) row_weight row_weight limits window.items in
      let bounds = fits-bounds past_by past_weight limits window.items h.window_fits in
      let counted = h.shares.counted in
      let size = h.size in
      let lives = h.lives in
      omega (arith, light, fit, lacks, rows, pasts, same, bounds, counted, size, lives)

  -- ---- where no record stood

  pub unchanged : (k : KeyView) (now : ℕ) (index2 : Rows) → index2 ≡ record index { rows = without row_key k index.rows } → find row_key k index.rows ≡ None
      → Changed limits index2 window places live last (removed now k view)
  unchanged k now index2 is none =
      let same : index2 ≡ index = is ∙ ap (λ (rs : List Row). record { room = index.room; rows = rs }) (without-absent row_key k index.rows none) in
      let absent = find-seen (item_of places) item_key k index.rows ∙ ap (option_map (item_of places)) none in
      let P : Rows → Type 0 = λ ix. Changed limits ix window places live last (removed now k view) in
      subst P (sym same) (record { sound = h; seen = sym (ap (λ (o : Option Item). removed_found now k o view) absent) })

  -- ---- a record leaves

  module _ (k : KeyView) (now : ℕ) (r : Row) (e : find row_key k index.rows ≡ Some r) (later : last < now) where
    abbrev gone : Past
    gone = record { by = now; row = r }

    abbrev all : List Past
    all = window.items ++ gone ∷ []

    abbrev index_then : Rows
    index_then = record index { rows = without row_key k index.rows }

    abbrev window_then : Pasts
    window_then = record { limits = limits; items = newest past_weight limits all; floor = floor_from past_by past_weight limits window.floor all }

    abbrev places_then : Places
    places_then = trimmed limits all places

    its_trims : Trims (without row_key k index.rows) (newest past_weight limits all) places places_then
    its_trims = trims limits (without row_key k index.rows) all places (moves k r now index.rows window.items places e h.shares)

    floor_below : window.floor < now
    floor_below =
        let date = each-found row_key (λ s. (1 ≤ s.record.rv) × (s.record.rv ≤ last)) k r index.rows e h.dated in
        let floor = h.floor in
        omega (arith, date, floor, later)

    pasts_then : Each (λ p. p.by ≤ now) all
    pasts_then = each-push (λ p. p.by ≤ now) window.items gone (each-weaker (λ p. p.by ≤ last) (λ p. p.by ≤ now) (λ p b. omega (arith, b, later)) window.items h.past) (omega arith)

    sound_then : IsSoundStore limits index_then window_then places_then (live - r.record.weight) now
    sound_then =
        let weigh = weights-without row_key row_weight k r index.rows e in
        let lives = h.lives in
        let light = h.light in
        let below = floor_below in
        let least = floor-le past_by past_weight limits now window.floor all (omega (arith, below)) pasts_then in
        record {
          shares = its_trims.shares;
          small = h.small;
          room = h.room;
          window_limits = refl;
          size = its_trims.size ∙ h.size;
          lives = omega (arith, weigh, lives);
          light = omega (arith, light);
          window_fits = newest-fits past_by past_weight limits all;
          window_order = rises-newest past_by past_weight limits window.floor all (rises-push past_by past_weight limits window.floor window.items gone h.window_order below (each-weaker (λ p. p.by ≤ last) (λ p. p.by < now) (λ p b. omega (arith, b, later)) window.items h.past));
          dated = each-weaker (λ s. (1 ≤ s.record.rv) × (s.record.rv ≤ last)) (λ s. (1 ≤ s.record.rv) × (s.record.rv ≤ now)) (λ s b. (b.0, omega (arith, b.1, later))) (without row_key k index.rows) (each-without row_key (λ s. (1 ≤ s.record.rv) × (s.record.rv ≤ last)) k index.rows h.dated);
          past = each-newest past_by past_weight limits (λ p. p.by ≤ now) all pasts_then;
          floor = omega (arith, least);
        }

    seen_then : store_view limits index_then window_then places_then now ≡ removed now k view
    seen_then =
        let found = find-seen (item_of places) item_key k index.rows ∙ ap (option_map (item_of places)) e in
        let pushed = push-seen (old_of places) window.items gone in
        let items = its_trims.rows_seen ∙ without-seen (item_of places) item_key k index.rows in
        let olds = its_trims.window_seen ∙ sym (newest-seen (old_of places) old_by old_weight limits all) ∙ ap (newest old_weight limits) pushed in
        let floor = sym (floor-seen (old_of places) old_by old_weight limits window.floor all) ∙ ap (floor_from old_by old_weight limits window.floor) pushed in
        let there : store_view limits index_then window_then places_then now ≡ removed_found now k (Some (item_of places r)) view =
        λ i. record { limits = limits; items = items i; window = olds i; last = now; floor = floor i } in
        there ∙ sym (ap (λ (o : Option Item). removed_found now k o view) found)

    window_is : (window2 window3 : Pasts) → window2 ≡ record window { items = all } → window3.limits ≡ window2.limits → window3.items ≡ newest past_weight window2.limits window2.items
        → window3.floor ≡ floor_from past_by past_weight window2.limits window2.floor window2.items → window3 ≡ window_then
    window_is window2 window3 is limits3 items3 floor3 =
        let a = limits3 ∙ ap (λ (w : Pasts). w.limits) is ∙ h.window_limits in
        let b = items3 ∙ ap (λ (w : Pasts). newest past_weight w.limits w.items) is ∙ ap (λ (l : Limits). newest past_weight l all) h.window_limits in
        let f = floor3 ∙ ap (λ (w : Pasts). floor_from past_by past_weight w.limits w.floor w.items) is ∙ ap (λ (l : Limits). floor_from past_by past_weight l window.floor all) h.window_limits in
        λ i. record { limits = a i; items = b i; floor = f i }

    pub removal : (index2 : Rows) (window2 window3 : Pasts) (places2 : Places) → index2 ≡ record index { rows = without row_key k index.rows } → window2 ≡ record window { items = all } → window3.limits ≡ window2.limits
        → window3.items ≡ newest past_weight window2.limits window2.items → window3.floor ≡ floor_from past_by past_weight window2.limits window2.floor window2.items → places2 ≡ trimmed window2.limits window2.items places
        → Changed limits index2 window3 places2 (live - r.record.weight) now (removed now k view)
    removal index2 window2 window3 places2 index_is is limits3 items3 floor3 places3 =
        let places_is = places3 ∙ ap (λ (w : Pasts). trimmed w.limits w.items places) is ∙ ap (λ (l : Limits). trimmed l all places) h.window_limits in
        let here : Changed limits index_then window_then places_then (live - r.record.weight) now (removed now k view) = record { sound = sound_then; seen = seen_then } in
        let P : Places → Type 0 = λ p. Changed limits index_then window_then p (live - r.record.weight) now (removed now k view) in
        let Q : Pasts → Type 0 = λ w. Changed limits index_then w places2 (live - r.record.weight) now (removed now k view) in
        let R : Rows → Type 0 = λ ix. Changed limits ix window3 places2 (live - r.record.weight) now (removed now k view) in
        subst R (sym index_is) (subst Q (sym (window_is window2 window3 is limits3 items3 floor3)) (subst P (sym places_is) here))

  -- ---- a record comes

  module _ (now : ℕ) (r : Row) (bytes : List ℕ) where
    abbrev with_row : StoreView
    with_row = record view { items = put item_key (record { key = r.key; at = r.record.at; rv = r.record.rv; born = r.record.born; weight = r.record.weight; bytes = bytes }) view.items; last = now }

    pub addition : find row_key r.key index.rows ≡ None → piece_at places r.piece ≡ None → r.piece < length places → IsUtf8 bytes → length bytes ≡ r.record.len → chunks_of r.record.len ≤ r.record.weight
        → live + r.record.weight ≤ limits.chunks → last ≤ now → 1 ≤ r.record.rv → r.record.rv ≤ now
        → Changed limits (record index { rows = put row_key r index.rows }) window (slice_set places r.piece (Some bytes)) (live + r.record.weight) now with_row
    addition fresh unused within text len chunks room later some upto = record { sound = sound; seen = seen }
      where
        after : Places
        after = slice_set places r.piece (Some bytes)

        its : Adds index.rows window.items r places after
        its = adds r bytes index.rows window.items places fresh unused within text len chunks h.shares

        sound : IsSoundStore limits (record index { rows = put row_key r index.rows }) window after (live + r.record.weight) now
        sound =
            let weigh = weights-put row_key row_weight r index.rows fresh in
            let lives = h.lives in
            let floor = h.floor in
            record {
              shares = its.shares;
              small = h.small;
              room = h.room;
              window_limits = h.window_limits;
              size = length-set places r.piece (Some bytes) ∙ h.size;
              lives = omega (arith, weigh, lives);
              light = room;
              window_fits = h.window_fits;
              window_order = h.window_order;
              dated = each-put row_key (λ s. (1 ≤ s.record.rv) × (s.record.rv ≤ now)) r index.rows (some, upto) (each-weaker (λ s. (1 ≤ s.record.rv) × (s.record.rv ≤ last)) (λ s. (1 ≤ s.record.rv) × (s.record.rv ≤ now)) (λ s b. (b.0, omega (arith, b.1, later))) index.rows h.dated);
              past = each-weaker (λ p. p.by ≤ last) (λ p. p.by ≤ now) (λ p b. omega (arith, b, later)) window.items h.past;
              floor = omega (arith, floor, later);
            }

        seen : store_view limits (record index { rows = put row_key r index.rows }) window after now ≡ with_row
        seen =
            let is = ap bytes_in (piece_at-set_same places r.piece (Some bytes) within) in
            let items = put-seen (item_of after) item_key r index.rows ∙ ap (put item_key (item_of after r)) its.rows_seen
            ∙ ap (λ (b : List ℕ). put item_key (record { key = r.key; at = r.record.at; rv = r.record.rv; born = r.record.born; weight = r.record.weight; bytes = b }) (map (item_of places) index.rows)) is in
            let olds = its.window_seen in
            λ i. record { limits = limits; items = items i; window = olds i; last = now; floor = window.floor }
