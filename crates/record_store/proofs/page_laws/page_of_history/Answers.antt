use Rattle.std.proofs.Common.{ℕ, ◌≤◌, List, subst}
use Rattle.kube_meta.specs.WindowPairs.{AllPair}
use Rattle.kube_meta.specs.declared.limits.Limits.{Limits}
use Rattle.api_calls.specs.Meaning.{Meaning}
use Rattle.api_calls.specs.Item.{Item}
use Rattle.api_calls.specs.Legal.{legal}
use Rattle.api_calls.specs.Objects.{Stored}
use Rattle.api_calls.specs.State.{state}
use Rattle.api_calls.specs.Snap.{floor, snap, window}
use Rattle.record_store.specs.View.{StoreView, items_at}
use Rattle.record_store.specs.Keeping.{IsSame, KeepsHistory}
use Rattle.record_store.proofs.Members.{Laws, rising, rising_then, members}
use Rattle.record_store.proofs.Pairs.{items_at-pair, page-pair}
use Rattle.record_store.proofs.Rebuilt.{objects_at-is}
use Rattle.record_store.proofs.page_laws.page_of_history.Goals as goal

-- the records at a number are the objects of that number
at_number : (text : Stored → List ℕ → Type 0) (limits : Limits) (m : Meaning) → Laws limits m → (log : List Item) (s : StoreView) (r : ℕ) → legal m limits log → KeepsHistory text limits m log s → s.floor ≤ r
    → AllPair (IsSame text) (items_at r s) (snap m log r)
at_number text limits m laws log s r l keeps known =
    let floor_known : floor limits m log ≤ r = subst (λ (f : ℕ). f ≤ r) keeps.known known in
    let is = objects_at-is r (state m log).objects (window limits m log) (snap m log r) (rising limits m laws log l) (rising_then limits m laws log l r) (members limits m laws log l r floor_known) in
    subst (AllPair (IsSame text) (items_at r s)) is (items_at-pair text r s (state m log).objects (window limits m log) keeps.records keeps.pasts)

pub returns-clause-records : goal.returns-clause-records
returns-clause-records g c = λ it limits log s r l keeps known.
    let laws : Laws limits (g.V.Means.meaning it) = record {
      least = λ xs. c.floor_is_least.ensures.floor it limits xs;
      above_floor = λ xs. c.floor_is_least.ensures.window it limits xs;
      sound = λ xs h. c.sound.ensures it limits xs h;
      rebuilt = λ xs n e h one lt. c.rebuilt.ensures it limits xs n e h one lt;
    } in
    at_number (g.V.Texts.text it) limits (g.V.Means.meaning it) laws log s r l keeps known

pub returns-clause-page : goal.returns-clause-page
returns-clause-page g c = λ it limits log s r l keeps known ns after limit.
    let laws : Laws limits (g.V.Means.meaning it) = record {
      least = λ xs. c.floor_is_least.ensures.floor it limits xs;
      above_floor = λ xs. c.floor_is_least.ensures.window it limits xs;
      sound = λ xs h. c.sound.ensures it limits xs h;
      rebuilt = λ xs n e h one lt. c.rebuilt.ensures it limits xs n e h one lt;
    } in
    page-pair (g.V.Texts.text it) r limit ns after (items_at r s) (snap (g.V.Means.meaning it) log r) (at_number (g.V.Texts.text it) limits (g.V.Means.meaning it) laws log s r l keeps known)
