-- What links tell: to where they were made, and what came of those that were given back.
use Rattle.std.specs.Prelude.{◌≡◌, ℕ, List, Option, Result, MatchResult}
use Rattle.edge_io.specs.Connections.{AddsOne}
use Rattle.edge_io.specs.Exchanges.{Exchange}

-- the address that a link is asked for: a host's name or IP address, as the asker spells it, and a port
pub record Peer : Type 0 where
  pub host : List ℕ
  pub port : ℕ

-- a link to that address was made, and none where there is none
abbrev pub AsksOne : {T E : Type 0} → Option (List Peer) → Option (List Peer) → Peer → Result T E → Type 0
AsksOne before now peer result = MatchResult result (λ _. AddsOne before now peer) (λ _. now ≡ before)

-- how often a link failed, and its exchanges, in order, where they are told
pub record Ending : Type 0 where
  pub exchanges : Option (List Exchange)
  pub faults : ℕ
