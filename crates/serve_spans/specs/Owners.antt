-- Which items of a list are of whom.
use Rattle.std.specs.Prelude.{ℕ, ◌≡◌, ◌<◌, ◌≤◌, ◌⊎◌, List, [], ◌∷◌, ◌++◌, length, Option, None, Some}
use mathlib.Core.List.{IsPrefix}
use Rattle.api_calls.specs.Item.{Logged, Item, entry, note, Create, Replace, Mark, Release, Touch, Delete, SetVersions, Trim, StartMigration, MarkSucceeded}
use Rattle.turn_cell.specs.Numbers.{In}
use Rattle.turn_cell.specs.declared.view.View.{View}
use Rattle.serve_spans.specs.Spans.{Span, IsSameBut, Quiet}

-- x is the item at i
abbrev pub At : List Logged → ℕ → Logged → Type 0
At q i x = (front : List Logged) × (back : List Logged) × (q ≡ front ++ x ∷ back) × (length front ≡ i)

-- the item x at i is of the pass of one of these spans, and stands in it
abbrev pub Within : List Span → ℕ → Logged → Type 0
Within [] i x = ⊥
Within (s ∷ ss) i x = ((x.by ≡ s.number) × (s.from ≤ i) × (i < s.to)) ⊎ Within ss i x

-- what workers add: a touch, the end of a migration, or a note
abbrev pub IsWork : Item → Type 0
IsWork (note n) = Unit {0}
IsWork (entry (Touch k c)) = Unit {0}
IsWork (entry MarkSucceeded) = Unit {0}
IsWork (entry (Create k h w)) = ⊥
IsWork (entry (Replace k at h w)) = ⊥
IsWork (entry (Mark k at stamp)) = ⊥
IsWork (entry (Release k at)) = ⊥
IsWork (entry (Delete k)) = ⊥
IsWork (entry (SetVersions f)) = ⊥
IsWork (entry (Trim vs)) = ⊥
IsWork (entry (StartMigration name)) = ⊥

-- a worker's item, if any
abbrev pub IsWorkIf : Option Item → Type 0
IsWorkIf None = Unit {0}
IsWorkIf (Some i) = IsWork i

-- The item is a worker's: of a pass of one of the first numbers, each of which is a worker's that has a thread; or of one of the second, each of
-- which is one's whose thread wasn't started; or of the pass of that one number, where so many have no thread that there is one.
abbrev pub IsOfWorker : Option ℕ → ℕ → List ℕ → List ℕ → Logged → Type 0
IsOfWorker number idle workers spared x = IsWork x.item × (In x.by workers ⊎ In x.by spared ⊎ ((number ≡ Some x.by) × (0 < idle)))

-- each item of the pass m behind p is a worker's
abbrev pub AreWork : ℕ → List Logged → List Logged → Type 0
AreWork m p q = (i : ℕ) (x : Logged) → At q i x → length p ≤ i → x.by ≡ m → IsWork x.item

-- the pass v, whose number is m, took a worker's turns, and is z
pub record TakesTurns {B : Type 0} (m : ℕ) (v z : View B) : Type 0 where
  pub same : IsSameBut v z
  pub grows : IsPrefix v.seen z.seen
  pub work : AreWork m v.seen z.seen
  pub quiet : Quiet m v z
