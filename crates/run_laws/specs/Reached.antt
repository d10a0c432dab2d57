-- Where a migration is between two pages, and what it knows there of the objects of its list.
use Rattle.std.specs.Prelude.{◌≡◌, ◌≤◌, List, [], ◌∷◌, ◌++◌, None, Some, length}
use Rattle.edge_io.specs.Exchanges.{Exchange}
use Rattle.api_calls.specs.Item.{Item}
use Rattle.api_calls.specs.Meaning.{Meaning}
use Rattle.api_calls.specs.Objects.{Stored}
use Rattle.api_calls.specs.State.{revision, state}
use Rattle.api_calls.specs.Token.{IsToken, token_text}
use Rattle.place.specs.Place.{Names}
use Rattle.far_migrate.specs.Pages.{Run, Step, first_limit}
use Rattle.far_laws.specs.Answering.{GoesOn}

-- from the one run these exchanges lead to the other, page by page
pub data Reaches (n : Names) : Run → List Exchange → Run → Type 0 where
  here : (a : Run) → Reaches n a [] a
  step : (a b c : Run) (es fs : List Exchange) → Step n a es b → Reaches n b fs c → Reaches n a (es ++ fs) c

-- the objects of a list up to one were listed: the list began at a history, at which that object stood, and goes on behind its key
pub record IsWithin (m : Meaning) (log : List Item) (a : Run) : Type 0 where
  pub start : List Item
  pub to : GoesOn start log
  pub front : List Stored
  pub last_seen : Stored
  pub rest : List Stored
  pub objects : (state m start).objects ≡ front ++ last_seen ∷ rest
  pub token_is : a.token ≡ token_text (revision start) last_seen.key
  pub is_token : IsToken (revision start) last_seen.key
  pub last_is : a.last ≡ Some last_seen.key
  pub listed : a.counts.listed ≡ length (front ++ last_seen ∷ [])

-- nothing of a list was listed yet
pub record IsBegun (a : Run) : Type 0 where
  pub token_is : a.token ≡ []
  pub last_is : a.last ≡ None
  pub listed : a.counts.listed ≡ 0

-- at this history a run is at the first page of a list, or goes on with one; and it asks for no more objects than a migration does
pub data IsAt (m : Meaning) (log : List Item) (a : Run) : Type 0 where
  begun : a.limit ≤ first_limit → IsBegun a → IsAt m log a
  within : a.limit ≤ first_limit → IsWithin m log a → IsAt m log a
