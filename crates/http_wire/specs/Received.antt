-- The head of a response, and the response (RFC 9112, sections 4 and 6).
use Rattle.std.specs.Prelude.{◌≡◌, ◌⊎◌, ℕ, ◌<◌, ◌≤◌, List, [], length, take, drop, map, Option, Some, Result, MatchResult, Ok, Err}
use Rattle.std.specs.Io.KnownBytes.{IsAtEnd, prepend_known}
use Rattle.httparse.specs.Grammar.{ResponseHead, ReadsResponse, HasNoResponse, MayBecomeResponse, print_response, status_code}
use Rattle.httparse.specs.Spans.{ResponseOverflows, name_and_value}
use Rattle.http_wire.specs.declared.limits.TheConstants.{MOST_BODY_BYTES, MOST_HEAD_BYTES, MOST_FIELDS}
use Rattle.http_wire.specs.Fields.{IsFieldsFault, body_of_response}
use Rattle.http_wire.specs.Head.{window}
use Rattle.http_wire.specs.Inboxes.{Held, LiesIn, part_of}
use Rattle.http_wire.specs.declared.WireFault.{WireFault}
use Rattle.http_wire.specs.declared.WireFault.TheVariants.{Closed, Torn, ReadFault, BadHead, HeadTooLong, LengthRequired, BodyTooLong}
use Rattle.http_wire.specs.declared.ResponseParts.{ResponseParts}
use Rattle.http_wire.specs.declared.response_head.StatusParts.{StatusParts}
use Rattle.http_wire.specs.declared.response_head.StatusVerdict.{StatusVerdict}
use Rattle.http_wire.specs.declared.response_head.StatusVerdict.TheVariants as verdicts

pub record Response : Type 0 where
  pub code : ℕ
  pub body : List ℕ

-- a head within the limits, and what follows it
pub record IsStatusHead (b : List ℕ) (h : ResponseHead) (tail : List ℕ) : Type 0 where
  pub reads : ReadsResponse b h tail
  pub few : length h.fields ≤ MOST_FIELDS
  pub short : length (print_response h) ≤ MOST_HEAD_BYTES

-- the length of the body after a head
abbrev pub length_after : ResponseHead → Result ℕ WireFault
length_after h = body_of_response (map name_and_value h.fields)

-- the response of a head and its body
abbrev pub response_of : ResponseHead → List ℕ → Response
response_of h body = record { code = status_code h; body = body }

-- b is the response and then rest
unfoldable pub Receives : List ℕ → Response → List ℕ → Type 0
Receives b r rest = (h : ResponseHead) × (tail : List ℕ) × (n : ℕ) × IsStatusHead b h tail × (length_after h ≡ Ok n) × (n ≤ length tail)
    × (r ≡ response_of h (take n tail)) × (rest ≡ drop n tail)

-- no whole head is at the front of b
abbrev pub LacksHead : List ℕ → Type 0
LacksHead b = (h : ResponseHead) (tail : List ℕ) → IsStatusHead b h tail → ⊥

-- no whole response is at the front of b
abbrev pub LacksResponse : List ℕ → Type 0
LacksResponse b = (r : Response) (rest : List ℕ) → Receives b r rest → ⊥

-- the head isn't whole, and bytes can follow that make it whole
abbrev pub IsOpenStatus : List ℕ → Type 0
IsOpenStatus b = HasNoResponse b × MayBecomeResponse b

-- the head is whole, and its fields are refused
abbrev pub IsRefusedStatus : List ℕ → WireFault → Type 0
IsRefusedStatus b f = (h : ResponseHead) × (tail : List ℕ) × IsStatusHead b h tail × (length_after h ≡ Err f)

-- The head isn't whole, and can't be whole with so few fields, or so many bytes are there as it may have.
abbrev pub IsBadStatus : List ℕ → WireFault → Type 0
IsBadStatus b BadHead = ResponseOverflows MOST_FIELDS (window b)
IsBadStatus b HeadTooLong = (MOST_HEAD_BYTES ≤ length b) × IsOpenStatus (window b)
IsBadStatus b LengthRequired = ⊥
IsBadStatus b (BodyTooLong n) = ⊥
IsBadStatus b Closed = ⊥
IsBadStatus b (Torn held) = ⊥
IsBadStatus b ReadFault = ⊥

-- the faults of a response's head
unfoldable pub FaultyResponse : List ℕ → WireFault → Type 0
FaultyResponse b f = IsBadStatus b f ⊎ IsRefusedStatus b f

-- the bytes of a response have begun to come, and aren't whole
unfoldable pub IsPartOfResponse : List ℕ → Type 0
IsPartOfResponse b = ((length b < MOST_HEAD_BYTES) × IsOpenStatus b)
    ⊎ ((h : ResponseHead) × (tail : List ℕ) × (n : ℕ) × IsStatusHead b h tail × (length_after h ≡ Ok n) × (length tail < n))

-- the code is the head's, and the lengths are those of the head and of the body
pub record IsStatusOf (b : List ℕ) (p : StatusParts) (h : ResponseHead) (tail : List ℕ) : Type 0 where
  pub head : IsStatusHead b h tail
  pub len : p.len ≡ length (print_response h)
  pub code : p.code ≡ status_code h
  pub body : length_after h ≡ Ok p.body
  pub small : p.body ≤ MOST_BODY_BYTES
  pub within : p.len ≤ MOST_HEAD_BYTES

-- what the bytes that are held say of a response's head
abbrev pub JudgesStatus : List ℕ → StatusVerdict → Type 0
JudgesStatus b (verdicts.Whole p) = (h : ResponseHead) × (tail : List ℕ) × IsStatusOf b p h tail
JudgesStatus b verdicts.Open = IsOpenStatus (window b)
JudgesStatus b (verdicts.Refused f) = FaultyResponse b f × IsFieldsFault f

-- the response whose parts these are
abbrev pub response_at : List ℕ → ResponseParts → Response
response_at b p = record { code = p.code; body = part_of b p.body }

-- the parts are those of the response at the front
pub record AreResponseParts (i : Held) (p : ResponseParts) : Type 0 where
  pub reads : Receives i.bytes (response_at i.bytes p) (drop i.request i.bytes)
  pub within : i.request ≤ length i.bytes
  pub body : LiesIn (length i.bytes) p.body

-- why no response comes, where these bytes are held and `left` has not been read
abbrev pub IsLack : List ℕ → Option (List ℕ) → WireFault → Type 0
IsLack b left Closed = (b ≡ []) × IsAtEnd left
IsLack b left (Torn n) = (n ≡ length b) × (0 < n) × IsPartOfResponse b × IsAtEnd left
IsLack b left ReadFault = Unit {0}
IsLack b left BadHead = FaultyResponse b BadHead
IsLack b left HeadTooLong = FaultyResponse b HeadTooLong
IsLack b left LengthRequired = FaultyResponse b LengthRequired
IsLack b left (BodyTooLong n) = FaultyResponse b (BodyTooLong n)

-- the next response, or why there is none
abbrev pub IsNextResponse : Held → Option (List ℕ) → Result ResponseParts WireFault → Type 0
IsNextResponse i left result = MatchResult result (λ p. AreResponseParts i p) (λ f. IsLack i.bytes left f)

-- the same of the next head
abbrev pub IsNextStatus : List ℕ → Option (List ℕ) → Result StatusParts WireFault → Type 0
IsNextStatus b left result = MatchResult result (λ p. (h : ResponseHead) × (tail : List ℕ) × IsStatusOf b p h tail) (λ f. IsLack b left f)

-- The next response of all the bytes, of which those behind it are left, or why they have none.
abbrev pub Received : List ℕ → Held → Option (List ℕ) → Result ResponseParts WireFault → Type 0
Received b i left result = MatchResult result
    (λ p. (rest : List ℕ) × (prepend_known (drop i.request i.bytes) left ≡ Some rest) × Receives b (response_at i.bytes p) rest)
    (λ f. IsLack b (Some []) f)
