-- Requests that went out, and what came back.
use Rattle.std.specs.Prelude.{◌≡◌, ⊤, ℕ, List, [], ◌∷◌, ◌++◌, Option, Some, None, Result, Ok, Err}
use Rattle.edge_io.specs.declared.link.LinkFault.{LinkFault}
use Rattle.edge_io.specs.declared.link.LinkFault.TheVariants.{Failed, NoMemory}

-- a request, and what it was answered; nothing where the exchange failed
pub record Exchange : Type 0 where
  pub request : List ℕ
  pub answer : Option (List ℕ)

-- one more exchange, where they are told
abbrev pub one_more : Option (List Exchange) → List ℕ → Option (List ℕ) → Option (List Exchange)
one_more None request answer = None
one_more (Some es) request answer = Some (es ++ (record { request = request; answer = answer }) ∷ [])

-- the exchanges after a call with that answer: none was made where memory was wanted
abbrev pub after_exchange : Option (List Exchange) → List ℕ → Result (List ℕ) LinkFault → Option (List Exchange)
after_exchange told request (Ok bytes) = one_more told request (Some bytes)
after_exchange told request (Err Failed) = one_more told request None
after_exchange told request (Err NoMemory) = told

-- the bytes of an answer
abbrev pub answer_of : {V : Type 0} → (V → List ℕ) → Result V LinkFault → Result (List ℕ) LinkFault
answer_of bytes (Ok v) = Ok (bytes v)
answer_of bytes (Err fault) = Err fault

-- where the fault is that the outside failed, P holds
abbrev pub OnBroken : LinkFault → Type 0 → Type 0
OnBroken Failed P = P
OnBroken NoMemory P = ⊤
