-- How a store holds its records: each text is a piece of the region, whose chunks fit the record's weight.
use Rattle.std.specs.Prelude.{◌≡◌, ℕ, ◌+◌, ◌<◌, ◌≤◌, ◌^◌, true, List, length, map, max, IsUtf8}
use Rattle.std.specs.List.{AllByRecursion as Each}
use Rattle.kube_meta.specs.Window.{weights, fits, RisesFrom}
use Rattle.kube_meta.specs.declared.limits.Limits.{Limits}
use Rattle.record_region.specs.Chunks.{chunks_of}
use Rattle.record_region.specs.Places.{Places, bytes_at, IsLive, used}
use Rattle.record_store.specs.Rows.{Rows}
use Rattle.record_store.specs.declared.row.Row.{Row}
use Rattle.record_store.specs.Held.{holders, pieces_at}
use Rattle.record_store.specs.Pasts.{Pasts, past_by, past_weight, rows_of}
use Rattle.record_store.specs.declared.past.Past.{Past}
use Rattle.record_store.specs.View.{Item, Old, StoreView}

-- a row, with the text of its piece
abbrev pub item_of : Places → Row → Item
item_of places r = record { key = r.key; at = r.record.at; rv = r.record.rv; born = r.record.born; weight = r.record.weight; bytes = bytes_at places r.piece }

abbrev pub old_of : Places → Past → Old
old_of places p = record { by = p.by; item = item_of places p.row }

abbrev pub store_view : Limits → Rows → Pasts → Places → ℕ → StoreView
store_view limits index window places last = record {
  limits = limits;
  items = map (item_of places) index.rows;
  window = map (old_of places) window.items;
  last = last;
  floor = window.floor;
}

abbrev pub row_weight : Row → ℕ
row_weight r = r.record.weight

-- a row's piece is a text of the length and within the weight that the row tells
pub record IsKept (places : Places) (r : Row) : Type 0 where
  pub live : IsLive places r.piece
  pub text : IsUtf8 (bytes_at places r.piece)
  pub len : length (bytes_at places r.piece) ≡ r.record.len
  pub chunks : chunks_of r.record.len ≤ r.record.weight

abbrev pub AreKept : Places → List Row → Type 0
AreKept places rs = Each (IsKept places) rs

-- the chunks of the rows' texts
abbrev pub taken : List Row → ℕ
taken rs = weights (λ r. chunks_of r.record.len) rs

-- the rows and the window share out the pieces of the region: each piece has one holder
pub record Shares (rows : List Row) (pasts : List Past) (places : Places) : Type 0 where
  pub owned : (chunk : ℕ) → holders chunk rows + holders chunk (rows_of pasts) ≡ pieces_at places chunk
  pub kept : AreKept places rows
  pub past_kept : AreKept places (rows_of pasts)
  pub counted : used places ≡ taken rows + taken (rows_of pasts)

pub record IsSoundStore (limits : Limits) (index : Rows) (window : Pasts) (places : Places) (live last : ℕ) : Type 0 where
  pub shares : Shares index.rows window.items places
  pub small : limits.chunks + limits.window_chunks < 2 ^ 32
  pub room : index.room ≡ limits.objects
  pub window_limits : window.limits ≡ limits
  pub size : length places ≡ limits.chunks + limits.window_chunks
  pub lives : live ≡ weights row_weight index.rows
  pub light : live ≤ limits.chunks
  pub window_fits : fits past_weight limits window.items ≡ true
  pub window_order : RisesFrom past_by window.floor window.items
  pub dated : Each (λ r. (1 ≤ r.record.rv) × (r.record.rv ≤ last)) index.rows
  pub past : Each (λ p. p.by ≤ last) window.items
  pub floor : window.floor ≤ max 1 last
