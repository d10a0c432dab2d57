-- For private clauses: how a replace and an attempt at it came out.
use Rattle.std.specs.Prelude.{◌≡◌, ◌≢◌, ◌⊎◌, ◌↔◌, ◌+◌, ◌<◌, ◌^◌, List, Option, None}
use Rattle.kube_meta.specs.Key.{KeyView}
use Rattle.api_calls.specs.Calls.{Server}
use Rattle.api_calls.specs.Item.{Item, items}
use Rattle.api_calls.specs.Meaning.{Request}
use Rattle.api_calls.specs.Replies.{Answer}
use Rattle.turn_cell.specs.declared.view.View.{View}
use Rattle.call_texts.specs.Told.{decided}
use Rattle.shared_api.specs.inner.WriteTurns.{Results, Stays}
use Rattle.write_texts.specs.declared.change.Change.{Change}
use Rattle.write_texts.specs.declared.tried.Tried.{Tried}
use Rattle.write_texts.specs.declared.tried.Tried.TheVariants.{Told, Moved}
use Rattle.write_texts.specs.Replacing.{GoesOver, RepliesToReplace}

-- an answer after a turn, or one that is decided at what the pass had seen
abbrev pub Settled : {B : Type 0} → Server → Type 0 → View B → View B → (List Item → Answer → Option Item → Type 0) → Answer → Type 0
Settled s rose v z D a = Results s rose v z D a ⊎ ((z ≡ v) × D (items v.seen) a None)

-- an attempt: an answer, or another storage version to prepare for, the object standing as before
abbrev pub Attempts : {B : Type 0} → Server → Type 0 → View B → View B → Request → KeyView → Change → Tried → Type 0
Attempts s rose v z q k c (Told r) = Settled s rose v z (RepliesToReplace s q k) (decided r)
Attempts s rose v z q k c (Moved now) = Stays s v z × GoesOver s.meaning q k (items z.seen) c now
