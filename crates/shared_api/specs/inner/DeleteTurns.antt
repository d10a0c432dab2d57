-- For private clauses: how an attempt at a delete came out.
use Rattle.std.specs.Prelude.{◌≡◌, ◌⊎◌, ◌+◌, ◌<◌, ◌^◌, List, Option}
use Rattle.kube_meta.specs.Key.{KeyView}
use Rattle.api_calls.specs.Calls.{IsKept, Server}
use Rattle.api_calls.specs.Item.{Item, Logged, items}
use Rattle.api_calls.specs.Replies.{Answer}
use Rattle.api_calls.specs.State.{state}
use Rattle.turn_cell.specs.declared.view.View.{View}
use Rattle.call_texts.specs.Told.{Came, decided}
use Rattle.shared_api.specs.inner.WriteTurns.{Stays}
use Rattle.shared_api.specs.inner.Turning.{Writes}
use Rattle.write_texts.specs.declared.delete.DeleteTry.{DeleteTry}
use Rattle.write_texts.specs.declared.delete.DeleteTry.TheVariants as try

-- ---- attempts

-- a delete that came out after its last turn: as it is decided, for want of memory, or since the tool failed on an object that stays
pub record EndsDelete {B : Type 0} (s : Server) (rose : Type 0) (v z : View B) (k : KeyView) (D : List Item → Answer → Option Item → Type 0) (a : Answer) : Type 0 where
  pub log : List Logged
  pub item : Option Item
  pub writes : Writes s v z log item
  pub came : Came (rose × IsKept s.meaning (state s.meaning (items log)) k) (D (items log)) a item

abbrev pub TriesDelete : {B : Type 0} → Server → Type 0 → View B → View B → KeyView → (List Item → Answer → Option Item → Type 0) → DeleteTry → Type 0
TriesDelete s rose v z k D (try.Told r) = EndsDelete s rose v z k D (decided r)
TriesDelete s rose v z k D try.Again = Stays s v z
