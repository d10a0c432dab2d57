-- What a link in memory is seen as.
use Rattle.std.specs.Prelude.{◌≡◌, ◌⊎◌, ℕ, List, [], ◌∷◌, Result, Ok, Err}
use Rattle.edge_io.specs.Calls.{Calls, IsListed, answered, failed}
use Rattle.edge_io.specs.Exchanges.{Exchange}
use Rattle.edge_io.specs.declared.link.LinkFault.{LinkFault}
use Rattle.edge_io.specs.declared.link.LinkFault.TheVariants.{Failed, NoMemory}

-- the answers that are left, the exchanges that were made, and the calls
pub record LinkState : Type 0 where
  pub waiting : List (List ℕ)
  pub made : List Exchange
  pub calls : Calls

-- the call is one of those that are to fail, or no answer is left
abbrev pub Breaks : LinkState → Type 0
Breaks s = IsListed s.calls ⊎ (s.waiting ≡ [])

-- the calls after one with that answer
abbrev pub after_call : {V : Type 0} → Calls → Result V LinkFault → Calls
after_call calls (Ok v) = answered calls
after_call calls (Err Failed) = failed calls
after_call calls (Err NoMemory) = answered calls

-- the answer that was next is given, and is left no longer
abbrev pub GivesNext : LinkState → LinkState → List ℕ → Type 0
GivesNext before now bytes = before.waiting ≡ bytes ∷ now.waiting
