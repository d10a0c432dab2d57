-- What the other end of a client's exchanges tells: the exchanges, and, where it is a server whose history is known, that history.
use Rattle.std.specs.Prelude.{◌≡◌, ℕ, List, [], ◌∷◌, ◌++◌, Option, None, Some, Result, Ok, Err, option_map}
use Rattle.edge_io.specs.Exchanges.{Exchange}
use Rattle.edge_io.specs.declared.link.LinkFault.{LinkFault}
use Rattle.api_calls.specs.Item.{Item}

-- What a server is: which bytes it answers to the bytes of a request where its history is so, and which items it then adds to it.
pub record Server : Type 1 where
  pub answers : List Item → List ℕ → List ℕ → List Item → Type 0

-- A request was answered behind items of others, and its own items were added behind these.
pub record Served (s : Server) (log : List Item) (request answer : List ℕ) (next : List Item) : Type 0 where
  pub others : List Item
  pub own : List Item
  pub answers : s.answers (log ++ others) request answer own
  pub next_is : next ≡ (log ++ others) ++ own

-- One exchange with such a server. Where it has no answer, the request may have come to the server or not.
abbrev pub Serves : Server → List Item → List ℕ → Option (List ℕ) → List Item → Type 0
Serves s log request None next = (more : List Item) × (next ≡ log ++ more)
Serves s log request (Some answer) next = Served s log request answer next

-- the same, where the history is told; where it isn't, it isn't told afterwards
abbrev pub ServesTold : Server → Option (List Item) → List ℕ → Option (List ℕ) → Option (List Item) → Type 0
ServesTold s None request answer now = now ≡ None
ServesTold s (Some log) request answer now = (next : List Item) × (now ≡ Some next) × Serves s log request answer next

-- the bytes of an answer, where there is one
abbrev pub answered : {V : Type 0} → (V → List ℕ) → Result V LinkFault → Option (List ℕ)
answered bytes (Ok v) = Some (bytes v)
answered bytes (Err fault) = None

-- exchanges one after the other; behind the last one others may add items
unfoldable pub Chain : Server → List Item → List Exchange → List Item → Type 0
Chain s log [] next = (more : List Item) × (next ≡ log ++ more)
Chain s log (e ∷ es) next = (mid : List Item) × Serves s log e.request e.answer mid × Chain s mid es next

-- what is told at one time
pub record Told : Type 0 where
  pub exchanges : Option (List Exchange)
  pub log : Option (List Item)

-- These exchanges were made, one after the other, and no others.
pub record Made (s : Server) (before now : Told) (es : List Exchange) : Type 0 where
  pub exchanges : now.exchanges ≡ option_map (λ made. made ++ es) before.exchanges
  pub untold : before.log ≡ None → now.log ≡ None
  pub chain : (log : List Item) → before.log ≡ Some log → (next : List Item) × (now.log ≡ Some next) × Chain s log es next

-- nothing is known of what it answers
abbrev pub NoAnswers : Server
NoAnswers = record { answers = λ log request answer own. ⊥ }
