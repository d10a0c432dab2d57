-- How a client's call ends: one exchange was made, whose answer came to what the call tells.
use Rattle.std.specs.Prelude.{◌≡◌, ⊤, ◌⊎◌, ℕ, List, [], ◌∷◌, Option, Some, None, decimal}
use Rattle.kj_value.specs.Json.{Json}
use Rattle.edge_io.specs.Exchanges.{Exchange}
use Rattle.place.specs.Place.{Names}
use Rattle.wire_client.specs.Far.{Server, Told, Made}
use Rattle.wire_client.specs.Calls.{Call, request_of}
use Rattle.wire_client.specs.Forms.{Path, fields_of, items_in, token_in, number_in}
use Rattle.wire_client.specs.Answers.{Reply, given, broken, long, gone, code, shape, Replies}
use Rattle.wire_client.specs.declared.end.WireEnd.{WireEnd}
use Rattle.wire_client.specs.declared.end.WireEnd.TheVariants as wire
use Rattle.wire_client.specs.declared.end.ListPage.{ListPage}

-- the one exchange of a call
abbrev pub exchange_of : Names → Call → Option (List ℕ) → Exchange
exchange_of n call answer = record { request = request_of n call; answer = answer }

-- the call's one exchange was made, and its answer comes to this reply
pub record Came (s : Server) (before now : Told) (n : Names) (call : Call) (reply : Reply) : Type 0 where
  pub answer : Option (List ℕ)
  pub made : Made s before now (exchange_of n call answer ∷ [])
  pub replies : Replies n call answer reply

-- Memory was wanted before the exchange was made, or once it was answered.
pub record Lacked (s : Server) (before now : Told) (n : Names) (call : Call) : Type 0 where
  pub made : Made s before now [] ⊎ ((bytes : List ℕ) × Made s before now (exchange_of n call (Some bytes) ∷ []))

-- how the call ended that gave nothing
abbrev pub Ended : Server → Told → Told → Names → Call → WireEnd → Type 0
Ended s before now n call wire.LinkFault = Came s before now n call broken
Ended s before now n call wire.TooLong = Came s before now n call long
Ended s before now n call wire.Gone = Came s before now n call gone
Ended s before now n call (wire.Code c) = Came s before now n call (code c)
Ended s before now n call (wire.Shape path) = Came s before now n call (shape path.bytes)
Ended s before now n call wire.NoMemory = Lacked s before now n call

-- P holds where the exchange failed
abbrev pub OnLinkFault : Type 0 → WireEnd → Type 0
OnLinkFault P wire.LinkFault = P
OnLinkFault P wire.TooLong = ⊤
OnLinkFault P wire.Gone = ⊤
OnLinkFault P (wire.Code c) = ⊤
OnLinkFault P (wire.Shape path) = ⊤
OnLinkFault P wire.NoMemory = ⊤

-- the page is what the body tells
pub record IsPage (j : Json) (p : ListPage) : Type 0 where
  pub items : items_in (fields_of j) ≡ Some p.items
  pub token : p.token.bytes ≡ token_in (fields_of j)
  pub rv : decimal p.rv ≡ number_in (fields_of j)
