-- What a call on a pass says: the list at which it was decided, and what it was told there.
use Rattle.std.specs.Prelude.{◌≡◌, ℕ, List, Option}
use Rattle.api_calls.specs.Calls.{Server, Call, Told, Comes}
use Rattle.api_calls.specs.Item.{Logged, Item, items}
use Rattle.api_calls.specs.Legal.{IsLegal}
use Rattle.turn_cell.specs.declared.view.View.{View}
use Rattle.turn_cell.specs.Turns.{Turned}

-- A call on a pass, which knew v before and knows z afterwards. What it had seen is a beginning of the list at which the
-- call comes out so; of the items since then this pass has none, and where it is alone there are none. What it has seen
-- afterwards is that list with the one item that the call enters, if any, and it is legal. The pass is otherwise as it was.
pub record CallsOn {B : Type 0} (s : Server) (rose : Type 0) (stamp : List ℕ) (v z : View B) (c : Call) (t : Told) : Type 0 where
  pub log : List Logged
  pub item : Option Item
  pub turned : Turned v z log item
  pub legal : IsLegal s.meaning s.limits z.seen
  pub comes : Comes s rose stamp (items v.seen) (items log) c t item
