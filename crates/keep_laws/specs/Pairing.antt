-- When a spoke's object and a hub's, with their entries, are a pair: each cell is in one of three states.
use Rattle.std.specs.Prelude.{◌≡◌, List, [], ◌∷◌, Option, Some, None}
use Rattle.hub_cells.specs.Side.{spoke, hub}
use Rattle.hub_cells.specs.Cell.{Kind, Tuple, Matches, Unmatched}
use Rattle.hub_cells.specs.Cross.{shown}
use Rattle.hub_cells.specs.Level.{Cell, Level, level, Inners, no_inner, inner}
use Rattle.keep_laws.specs.Marked.{Marks, Marked, MarkedInners}

-- the spoke's tuple s, which keeps ks of the hub, and the hub's tuple h, which keeps kh of the spoke
pub data State (k : Kind) (s : Tuple) (ks : Option Tuple) (h : Tuple) (kh : Option Tuple) : Type 0 where
  is_matched : Matches k s h → ks ≡ None → kh ≡ None → State k s ks h kh
  hub_kept : Unmatched hub k h → s ≡ shown hub k h → ks ≡ Some h → kh ≡ None → State k s ks h kh
  spoke_kept : Unmatched spoke k s → h ≡ shown spoke k s → kh ≡ Some s → ks ≡ None → State k s ks h kh

abbrev pub AllPaired : (cs : List Cell) → Marks cs → Marks cs → Type 0
AllPaired [] ms ns = Unit {0}
AllPaired (c ∷ cs) ms ns = State c.kind ms.0.0 ms.0.1 ns.0.0 ns.0.1 × AllPaired cs ms.1 ns.1

-- on both sides, or on neither
abbrev pub BothOrNeither : {A : Type 0} → (A → A → Type 0) → Option A → Option A → Type 0
BothOrNeither R None None = Unit {0}
BothOrNeither R (Some a) (Some b) = R a b
BothOrNeither R None (Some b) = ⊥
BothOrNeither R (Some a) None = ⊥

abbrev mutual
  pub Paired : (l : Level) → Marked l → Marked l → Type 0
  Paired (level cs is) m n = AllPaired cs m.0 n.0 × InnersPaired is m.1 n.1

  pub InnersPaired : (is : Inners) → MarkedInners is → MarkedInners is → Type 0
  InnersPaired no_inner ms ns = Unit {0}
  InnersPaired (inner a b rq l is) ms ns = BothOrNeither (Paired l) ms.0 ns.0 × InnersPaired is ms.1 ns.1
