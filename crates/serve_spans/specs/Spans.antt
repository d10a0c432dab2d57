-- Spans of connections in one list of items.
use Rattle.std.specs.Prelude.{ℕ, ◌≡◌, ◌≢◌, ◌≤◌, ◌⊎◌, List, [], ◌∷◌, length, take, Option}
use Rattle.api_calls.specs.Item.{Logged, items_of}
use Rattle.edge_io.specs.Connections.{Origin, Ending}
use Rattle.turn_cell.specs.Numbers.{In}
use Rattle.turn_cell.specs.Views.{IsAlone, numbers_of, set_stage}
use Rattle.turn_cell.specs.declared.view.View.{View}

-- the pass of the number `number` served a connection while its list went from one length to another, and the count of its tool's faults rose so far
pub record Span : Type 0 where
  pub from : ℕ
  pub to : ℕ
  pub number : ℕ
  pub rose : ℕ

-- What it means that a connection is served: by the pass of a number, whose list went from one to another and whose tool's
-- count rose so far, until the connection ended so
abbrev pub Service : Type 1
Service = ℕ → List Logged → List Logged → ℕ → Ending → Type 0

-- only the list of a pass was changed
abbrev pub IsSameBut : {B : Type 0} → View B → View B → Type 0
IsSameBut v z = z ≡ set_stage v z.seen z.stage

-- of the new items none is of another pass that was met into v, and where v is alone none of any other
abbrev pub Quiet : {B : Type 0} → ℕ → View B → View B → Type 0
Quiet n v z = (m : ℕ) → m ≢ n → In m (numbers_of v) ⊎ IsAlone v → items_of m z.seen ≡ items_of m v.seen

-- the pass v, whose number is n, served the connection of this origin, which ended so, and is z afterwards
pub record Linked {B : Type 0} (Serves : Service) (n : ℕ) (v : View B) (origin : Option Origin) (z : View B) (e : Ending) : Type 0 where
  pub rose : ℕ
  pub same : IsSameBut v z
  pub of : e.origin ≡ origin
  pub served : Serves n v.seen z.seen rose e
  pub quiet : Quiet n v z

module _ (Serves : Service) where
  -- the connection that ended so was served in this span of the list q
  abbrev pub IsServed : List Logged → Ending → Span → Type 0
  IsServed q e s = (s.from ≤ s.to) × (s.to ≤ length q) × Serves s.number (take s.from q) (take s.to q) s.rose e

  -- each in the span that stands beside it
  abbrev pub AllServed : List Logged → List Ending → List Span → Type 0
  AllServed q [] [] = Unit {0}
  AllServed q [] (s ∷ ss) = ⊥
  AllServed q (e ∷ es) [] = ⊥
  AllServed q (e ∷ es) (s ∷ ss) = IsServed q e s × AllServed q es ss

-- of two spans the numbers of the passes differ, or the earlier ends before the later begins
abbrev pub IsApart : Span → List Span → Type 0
IsApart s [] = Unit {0}
IsApart s (t ∷ ts) = ((s.number ≡ t.number → s.to ≤ t.from) × IsApart s ts)

abbrev pub AreApart : List Span → Type 0
AreApart [] = Unit {0}
AreApart (s ∷ ss) = IsApart s ss × AreApart ss

-- none begins before this length
abbrev pub AreLate : ℕ → List Span → Type 0
AreLate k [] = Unit {0}
AreLate k (s ∷ ss) = (k ≤ s.from) × AreLate k ss

-- the number of each is one of these
abbrev pub AreOf : List ℕ → List Span → Type 0
AreOf ns [] = Unit {0}
AreOf ns (s ∷ ss) = In s.number ns × AreOf ns ss

-- the number of none is one of these
abbrev pub AreNotOf : List ℕ → List Span → Type 0
AreNotOf ns [] = Unit {0}
AreNotOf ns (s ∷ ss) = (¬ In s.number ns) × AreNotOf ns ss
