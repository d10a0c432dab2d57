-- What a store is seen as: the records that stand, by strictly rising key, those that were superseded, in the order of the numbers that did it, the number of the last change, and the floor.
use Rattle.std.specs.Prelude.{◌≡◌, ℕ, ◌≤◌, true, ◌&&◌, List, [], ◌∷◌, length, map, max, filter, nat_lt, nat_le}
use Rattle.std.specs.List.{AllByRecursion as Each}
use Rattle.kube_meta.specs.Key.{KeyView}
use Rattle.kube_meta.specs.Window.{weights, fits, RisesFrom}
use Rattle.kube_meta.specs.declared.limits.Limits.{Limits}
use Rattle.record_store.specs.ByKey.{KeysRise, put}
use Rattle.record_store.specs.declared.row.Record.{Record}

-- a record with its text: the version at which it is stored, the number of its last write, that of its creation, and its weight in chunks
pub record Item : Type 0 where
  pub key : KeyView
  pub at : ℕ
  pub rv : ℕ
  pub born : ℕ
  pub weight : ℕ
  pub bytes : List ℕ

-- a record that was superseded, as it stood, with the number of the entry that did it
pub record Old : Type 0 where
  pub by : ℕ
  pub item : Item

pub record StoreView : Type 0 where
  pub limits : Limits
  pub items : List Item
  pub window : List Old
  -- the number of the last call that changed the store, and 0 where none did
  pub last : ℕ
  pub floor : ℕ

abbrev pub item_key : Item → KeyView
item_key x = x.key

abbrev pub item_weight : Item → ℕ
item_weight x = x.weight

abbrev pub old_by : Old → ℕ
old_by o = o.by

abbrev pub old_weight : Old → ℕ
old_weight o = o.item.weight

-- what is told of a record without its text
abbrev pub record_of : Item → Record
record_of x = record { at = x.at; rv = x.rv; born = x.born; weight = x.weight; len = length x.bytes }

-- ---- the records as they were at a number

abbrev pub put_all : List Item → List Item → List Item
put_all xs [] = xs
put_all xs (y ∷ ys) = put item_key y (put_all xs ys)

-- those that stand since then
abbrev pub still : ℕ → List Item → List Item
still r xs = filter (λ x. nat_le x.rv r) xs

-- those that stood then and were superseded since
abbrev pub since : ℕ → List Old → List Item
since r os = map (λ o. o.item) (filter (λ o. nat_lt r o.by && nat_le o.item.rv r) os)

abbrev pub items_at : ℕ → StoreView → List Item
items_at r s = put_all (still r s.items) (since r s.window)

-- ---- what every store keeps

pub record IsStore (s : StoreView) : Type 0 where
  pub order : KeysRise (map item_key s.items)
  pub few : length s.items ≤ s.limits.objects
  pub light : weights item_weight s.items ≤ s.limits.chunks
  pub window_fits : fits old_weight s.limits s.window ≡ true
  pub window_order : RisesFrom old_by s.floor s.window
  pub dated : Each (λ x. (1 ≤ x.rv) × (x.rv ≤ s.last)) s.items
  pub past : Each (λ o. o.by ≤ s.last) s.window
  pub floor : s.floor ≤ max 1 s.last
