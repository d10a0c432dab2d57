-- The copies of records on a page.
use Rattle.std.specs.Prelude.{◌≡◌, map}
use Rattle.kube_meta.specs.Page.{Page}
use Rattle.record_store.specs.View.{Item}
use Rattle.record_store.specs.declared.record.StoredRecord.{StoredRecord}
use Rattle.record_store.specs.declared.record.StorePage.{StorePage}

abbrev pub copied : StoredRecord → Item
copied c = record { key = c.key; at = c.record.at; rv = c.record.rv; born = c.record.born; weight = c.record.weight; bytes = c.text.bytes }

-- the page has copies of these records, and this number behind them
pub record ShowsCopies (page : StorePage) (of : Page Item) : Type 0 where
  pub items : map copied page.items.items ≡ of.items
  pub remaining : page.remaining ≡ of.remaining
