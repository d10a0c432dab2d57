-- A request and its answer as a step of the history that a pass sees.
use Rattle.std.specs.Prelude.{◌≡◌, ◌≢◌, ◌⊎◌, ◌<◌, ◌≤◌, ◌++◌, ℕ, List, [], ◌∷◌, length, Option, None, Some}
use Rattle.http_wire.specs.Head.{Request}
use Rattle.api_calls.specs.Item.{Item, Logged, items, items_of}
use Rattle.api_calls.specs.Reply.{ReplyView}
use Rattle.turn_cell.specs.Numbers.{In}
use Rattle.turn_cell.specs.Views.{IsAlone, numbers_of, set_stage}
use Rattle.turn_cell.specs.declared.view.View.{View}
use Rattle.shared_api.specs.Passes.{Known}
use Rattle.request_replies.specs.Replies.{Front, Replies}

-- the list that a pass has seen, and the count of its tool's faults
pub record Point : Type 0 where
  pub seen : List Logged
  pub faults : ℕ

-- where a pass stands whose tool's faults are counted so
abbrev pub point_of : {B A : Type 0} → (A → ℕ) → Known B A → Point
point_of faults p = record { seen = p.view.seen; faults = faults p.tool }

-- an item that the pass of a number adds to a list, if any
abbrev pub added : ℕ → List Logged → Option Item → List Logged
added n log None = []
added n log (Some item) = record { by = n; nth = length (items_of n log); item = item } ∷ []

-- The pass of the number n answers a request. Behind what it had seen stand items of others; the answer is the one at that
-- list; and then comes the item that the request enters, if any.
pub record StepAnswers (f : Front) (n : ℕ) (p : Point) (r : Request) (a : ReplyView) (q : Point) : Type 0 where
  pub others : List Logged
  pub item : Option Item
  pub strangers : items_of n others ≡ []
  pub replies : Replies f (p.faults < q.faults) (items p.seen) (items (p.seen ++ others)) r a item
  pub seen : q.seen ≡ (p.seen ++ others) ++ added n (p.seen ++ others) item
  pub faults : p.faults ≤ q.faults

-- only the list of a pass was changed
abbrev pub IsSameBut : {B : Type 0} → View B → View B → Type 0
IsSameBut v z = z ≡ set_stage v z.seen z.stage

-- of the new items none is of another pass that was met into v, and where v is alone none of any other
abbrev pub Quiet : {B : Type 0} → ℕ → View B → View B → Type 0
Quiet n v z = (m : ℕ) → m ≢ n → In m (numbers_of v) ⊎ IsAlone v → items_of m z.seen ≡ items_of m v.seen
