-- Which requests a client can send so that they are read as they were meant, and what comes of a response.
use Rattle.std.specs.Prelude.{◌≡◌, ◌⊎◌, ℕ, ◌+◌, ◌<◌, ◌≤◌, Bool, true, ◌&&◌, nat_lt, List, length, drop, Option, Some, Result, MatchResult}
use Rattle.std.specs.Io.KnownBytes.{prepend_known}
use Rattle.httparse.specs.Ascii.{space, del}
use Rattle.httparse.specs.Grammar.{AllPass, IsToken}
use Rattle.http_wire.specs.declared.limits.TheConstants.{MOST_HEAD_BYTES}
use Rattle.http_wire.specs.declared.RequestParts.{RequestParts}
use Rattle.http_wire.specs.declared.ResponseParts.{ResponseParts}
use Rattle.http_wire.specs.declared.WireFault.{WireFault}
use Rattle.http_wire.specs.declared.WireFault.TheVariants.{BodyTooLong, ReadFault}
use Rattle.http_wire.specs.Head.{Request}
use Rattle.http_wire.specs.Inboxes.{Held, request_at}
use Rattle.http_wire.specs.Received.{Response, response_at}
use Rattle.http_wire.specs.Requesting.{asks_for}

-- a visible byte of ASCII
abbrev pub is_visible : ℕ → Bool
is_visible b = nat_lt space b && nat_lt b del

-- The method is a token, the target is visible ASCII and not empty, and what stands before the body is no longer than a head
-- may be.
pub record IsSendable (method target body : List ℕ) : Type 0 where
  pub token : IsToken method
  pub some : 0 < length target
  pub visible : AllPass is_visible target
  pub head : length (asks_for method target body) ≤ MOST_HEAD_BYTES + length body

-- the request that is read: it asks for closing
abbrev pub sent : List ℕ → List ℕ → List ℕ → Request
sent method target body = record { method = method; target = target; body = body; closing = true }

-- the response of a code and a body
abbrev pub replied : ℕ → List ℕ → Response
replied code body = record { code = code; body = body }

-- the parts are those of the request, and what follows it is left; or the source failed
abbrev pub IsTaken : Request → List ℕ → Held → Option (List ℕ) → Result RequestParts WireFault → Type 0
IsTaken r rest i left result = MatchResult result
    (λ p. (request_at i.bytes p ≡ r) × (prepend_known (drop i.request i.bytes) left ≡ Some rest))
    (λ f. f ≡ ReadFault)

-- the same of a response
abbrev pub IsGot : Response → List ℕ → Held → Option (List ℕ) → Result ResponseParts WireFault → Type 0
IsGot r rest i left result = MatchResult result
    (λ p. (response_at i.bytes p ≡ r) × (prepend_known (drop i.request i.bytes) left ≡ Some rest))
    (λ f. f ≡ ReadFault)

-- no response comes: its body is too long, or the source failed
abbrev pub IsTooLong : ℕ → Result ResponseParts WireFault → Type 0
IsTooLong n result = MatchResult result (λ p. ⊥) (λ f. (f ≡ BodyTooLong n) ⊎ (f ≡ ReadFault))
