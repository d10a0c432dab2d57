-- What links in memory are seen as.
use Rattle.std.specs.Prelude.{◌≡◌, ◌⊎◌, List, [], ◌∷◌, ◌++◌, Some}
use Rattle.edge_io.specs.Exchanges.{Exchange}
use Rattle.edge_io.specs.MemoryLink.{LinkState}
use Rattle.tcp_links.specs.Links.{Ending, Peer}

-- the links that are left to be made, the addresses that links were made to, and what was given back
pub record LinksState : Type 0 where
  pub waiting : List LinkState
  pub asked : List Peer
  pub returned : List Ending

-- what a link tells that was given back
abbrev pub ending_of : LinkState → Ending
ending_of l = record { exchanges = Some l.made; faults = l.calls.faults }

-- no exchange was made
abbrev pub IsUnused : LinkState → Type 0
IsUnused l = (l.made ≡ []) × (l.calls.faults ≡ 0)

-- a link that has no answers, so that each of its exchanges fails
abbrev pub mute : LinkState
mute = record { waiting = []; made = []; calls = record { made = 0; failing = []; faults = 0 } }

-- the first link that was left is made, or one that has no answers where none was left
abbrev pub Makes : LinksState → LinksState → LinkState → Type 0
Makes before now l = (now.returned ≡ before.returned)
    × ((before.waiting ≡ l ∷ now.waiting) ⊎ ((before.waiting ≡ []) × (now.waiting ≡ []) × (l ≡ mute)))

-- the last of these links made these exchanges
abbrev pub EndsMade : List Ending → List Exchange → Type 0
EndsMade endings made = (before : List Ending) × (last : Ending) × (endings ≡ before ++ last ∷ []) × (last.exchanges ≡ Some made)
