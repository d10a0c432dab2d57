-- An object of one side with the entries that its annotation keeps, cell by cell: beside each tuple stands the tuple that is kept for the other side.
use Rattle.std.specs.Prelude.{◌≡◌, List, [], ◌∷◌, true, false, Bool, Option, Some, None}
use Rattle.hub_cells.specs.Side.{Side, other}
use Rattle.hub_cells.specs.Cell.{Kind, Tuple}
use Rattle.hub_cells.specs.Cross.{matched, shown}
use Rattle.hub_cells.specs.Level.{allows, Cell, Level, level, Inners, no_inner, inner}

abbrev pub Mark : Type 0
Mark = Tuple × Option Tuple

abbrev pub Marks : List Cell → Type 0
Marks [] = Unit {0}
Marks (c ∷ cs) = Mark × Marks cs

abbrev mutual
  pub Marked : Level → Type 0
  Marked (level cs is) = Marks cs × MarkedInners is

  pub MarkedInners : Inners → Type 0
  MarkedInners no_inner = Unit {0}
  MarkedInners (inner n m rq l is) = Option (Marked l) × MarkedInners is

-- ---- what is alive: a kept tuple is an unmatched one of the other side, and the tuple beside it is what it shows

abbrev pub IsAlive : Side → Cell → Tuple → Option Tuple → Type 0
IsAlive d c t None = Unit {0}
IsAlive d c t (Some u) = (allows (other d) c u ≡ true) × (matched (other d) c.kind u ≡ None) × (t ≡ shown (other d) c.kind u)

abbrev pub AreGood : Side → (cs : List Cell) → Marks cs → Type 0
AreGood d [] ms = Unit {0}
AreGood d (c ∷ cs) ms = ((allows d c ms.0.0 ≡ true) × IsAlive d c ms.0.0 ms.0.1) × AreGood d cs ms.1

abbrev pub IfThere : {A : Type 0} → (A → Type 0) → Option A → Type 0
IfThere P None = Unit {0}
IfThere P (Some x) = P x

-- an object that is not there is not required
abbrev pub OrAbsent : {A : Type 0} → Bool → (A → Type 0) → Option A → Type 0
OrAbsent r P None = r ≡ false
OrAbsent r P (Some x) = P x

abbrev mutual
  pub IsGood : Side → (l : Level) → Marked l → Type 0
  IsGood d (level cs is) m = AreGood d cs m.0 × InnersGood d is m.1

  pub InnersGood : Side → (is : Inners) → MarkedInners is → Type 0
  InnersGood d no_inner ms = Unit {0}
  InnersGood d (inner n m rq l is) ms = OrAbsent rq (IsGood d l) ms.0 × InnersGood d is ms.1

-- ---- the other side's object with its entries

abbrev pub crossed_as : Side → Kind → Option Tuple → Tuple → Mark
crossed_as d k (Some u) t = (u, None)
crossed_as d k None t = (shown d k t, Some t)

abbrev pub crossed_mark : Side → Kind → Tuple → Option Tuple → Mark
crossed_mark d k t (Some u) = (u, None)
crossed_mark d k t None = crossed_as d k (matched d k t) t

abbrev pub crossed_marks : Side → (cs : List Cell) → Marks cs → Marks cs
crossed_marks d [] ms = tt
crossed_marks d (c ∷ cs) ms = (crossed_mark d c.kind ms.0.0 ms.0.1, crossed_marks d cs ms.1)

abbrev pub there : {A B : Type 0} → (A → B) → Option A → Option B
there f None = None
there f (Some x) = Some (f x)

abbrev mutual
  pub crossed : Side → (l : Level) → Marked l → Marked l
  crossed d (level cs is) m = (crossed_marks d cs m.0, crossed_inners d is m.1)

  pub crossed_inners : Side → (is : Inners) → MarkedInners is → MarkedInners is
  crossed_inners d no_inner ms = tt
  crossed_inners d (inner n m rq l is) ms = (there (crossed d l) ms.0, crossed_inners d is ms.1)
