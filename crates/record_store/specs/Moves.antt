-- What a write and a removal make of a store.
use Rattle.std.specs.Prelude.{ℕ, [], ◌∷◌, ◌++◌, Option, None, Some}
use Rattle.kube_meta.specs.Key.{KeyView}
use Rattle.kube_meta.specs.Window.{floor_from, newest}
use Rattle.record_store.specs.ByKey.{find, put, without}
use Rattle.record_store.specs.View.{Item, Old, StoreView, item_key, old_by, old_weight}
use Rattle.record_store.specs.declared.record.NewRecord.{NewRecord}

abbrev pub old : ℕ → Item → Old
old now x = record { by = now; item = x }

-- a record goes into the window
abbrev pub superseded : ℕ → Item → StoreView → StoreView
superseded now x s = record s {
  window = newest old_weight s.limits (s.window ++ old now x ∷ []);
  floor = floor_from old_by old_weight s.limits s.floor (s.window ++ old now x ∷ []);
}

-- what stood there goes into the window
abbrev pub replaced : ℕ → Option Item → StoreView → StoreView
replaced now None s = s
replaced now (Some x) s = superseded now x s

-- a record stands under its key
abbrev pub written : ℕ → Item → StoreView → StoreView
written now x s = record (replaced now (find item_key x.key s.items) s) { items = put item_key x s.items; last = now }

abbrev pub removed_found : ℕ → KeyView → Option Item → StoreView → StoreView
removed_found now k None s = s
removed_found now k (Some x) s = record (superseded now x s) { items = without item_key k s.items; last = now }

-- no record stands under a key; where none did, nothing changes
abbrev pub removed : ℕ → KeyView → StoreView → StoreView
removed now k s = removed_found now k (find item_key k s.items) s

-- a new key is born now, and another keeps its number
abbrev pub born_of : Option Item → ℕ → ℕ
born_of None now = now
born_of (Some x) now = x.born

abbrev pub new_item : ℕ → NewRecord → Option Item → Item
new_item now new found = record { key = new.key; at = new.at; rv = now; born = born_of found now; weight = new.weight; bytes = new.bytes.bytes }

-- the store after a write of a new record
abbrev pub with_new : ℕ → NewRecord → StoreView → StoreView
with_new now new s = written now (new_item now new (find item_key new.key s.items)) s

-- the store with one more record
abbrev pub added : ℕ → ℕ → NewRecord → StoreView → StoreView
added born now new s = record s {
  items = put item_key (record { key = new.key; at = new.at; rv = now; born = born; weight = new.weight; bytes = new.bytes.bytes }) s.items;
  last = now;
}
