-- What a converter asks another program, and what it takes of the answer.
use Rattle.std.specs.Prelude.{◌≡◌, ◌⊎◌, ⊤, ℕ, ◌+◌, ◌≤◌, List, [], ◌∷◌, ◌++◌, Option, Some, None, codes, decimal}
use Rattle.kj_value.specs.Json.{Json}
use Rattle.kj_value.specs.Text.{text_of}
use Rattle.edge_io.specs.Exchanges.{Exchange, one_more}
use Rattle.http_wire.specs.Received.{Receives}
use Rattle.http_wire.specs.Requesting.{asks_for}
use Rattle.review_forms.specs.Request.{request_document}
use Rattle.review_forms.specs.Response.{Asked, IsTakenResponse, IsRefused, Refusal, remote_failed}
use Rattle.converters.specs.declared.converter.TurnFault.{TurnFault}
use Rattle.converters.specs.declared.converter.TurnFault.TheVariants as fault

-- the exchanges of its link, where they are told, and how often that failed; the target of its requests; how many reviews it began; and how
-- often it failed or its answers were rejected
pub record ConverterState : Type 0 where
  pub exchanges : Option (List Exchange)
  pub link_faults : ℕ
  pub target : List ℕ
  pub asked : ℕ
  pub faults : ℕ

-- ---- what is asked

-- the uid of the review of that number
abbrev pub uid_of : ℕ → List ℕ
uid_of n = codes "r" ++ decimal n

-- by the review of that number: the value of an object at a version, as GROUP/VERSION
abbrev pub asked_of : ℕ → Json → List ℕ → Asked
asked_of n j to = record { uid = uid_of n; desired = to; sent = j ∷ [] }

-- the body of the request: a review of that one object
abbrev pub review_of : Asked → List ℕ
review_of asked = text_of (request_document (record { uid = asked.uid; desired = asked.desired; objects = asked.sent }))

-- the next request
unfoldable pub question : ConverterState → Json → List ℕ → List ℕ
question c j to = asks_for (codes "POST") c.target (review_of (asked_of (c.asked + 1) j to))

-- one exchange was made, of the next request, and the number of its review is used
abbrev pub HasAsked : ConverterState → ConverterState → Json → List ℕ → Option (List ℕ) → Type 0
HasAsked before now j to answer = (now.exchanges ≡ one_more before.exchanges (question before j to) answer) × (now.asked ≡ before.asked + 1)

-- it was answered, by bytes of which P holds
abbrev pub WasAnswered : ConverterState → ConverterState → Json → List ℕ → (List ℕ → Type 0) → Type 0
WasAnswered before now j to P = (bytes : List ℕ) × HasAsked before now j to (Some bytes) × P bytes

-- no exchange was made; a number may have been used for nothing
abbrev pub AskedNothing : ConverterState → ConverterState → Type 0
AskedNothing before now = (now.exchanges ≡ before.exchanges) × (before.asked ≤ now.asked)

-- ---- what is taken of an answer

-- 200 OK
abbrev pub ok_code : ℕ
ok_code = 200

-- the bytes begin with a response of the code 200 with that body
abbrev pub HasBody : List ℕ → List ℕ → Type 0
HasBody bytes body = (rest : List ℕ) × Receives bytes (record { code = ok_code; body = body }) rest

-- the answer's body is a response to what was asked, of which that one object is taken
abbrev pub TakesBody : Asked → Json → List ℕ → Type 0
TakesBody asked y bytes = (body : List ℕ) × HasBody bytes body × IsTakenResponse body asked (y ∷ [])

-- the other side says that it failed
abbrev pub IsOwn : Refusal → Type 0
IsOwn r = (message : List ℕ) × (r ≡ remote_failed message)

-- why no object is taken of a body: the other side says that it failed, with its message, or it is refused for another reason
abbrev pub IsLeftOf : List ℕ → Asked → TurnFault → Type 0
IsLeftOf body asked (fault.Refused message) = IsRefused body asked (remote_failed message.bytes)
IsLeftOf body asked fault.Failed = (r : Refusal) × IsRefused body asked r × (IsOwn r → ⊥)
IsLeftOf body asked fault.NoMemory = ⊤

-- the answer has a body of which no object is taken, for that reason
abbrev pub LeavesBody : Asked → TurnFault → List ℕ → Type 0
LeavesBody asked f bytes = (body : List ℕ) × HasBody bytes body × IsLeftOf body asked f

-- The same of an answer, of which no response of the code 200 may be at the front.
abbrev pub IsLeft : Asked → List ℕ → TurnFault → Type 0
IsLeft asked bytes (fault.Refused message) = LeavesBody asked (fault.Refused message) bytes
IsLeft asked bytes fault.Failed = ((body : List ℕ) → HasBody bytes body → ⊥) ⊎ LeavesBody asked fault.Failed bytes
IsLeft asked bytes fault.NoMemory = ⊤

-- ---- a turn

-- of the answer to the next request that object is taken
abbrev pub Takes : ConverterState → Json → List ℕ → Json → List ℕ → Type 0
Takes c j to y = TakesBody (asked_of (c.asked + 1) j to) y

-- Each fault has its cause: it stands in the answer, or the link failed, or memory was wanted, before the exchange or behind it.
abbrev pub WasNotTaken : ConverterState → ConverterState → Json → List ℕ → Type 0 → TurnFault → Type 0
WasNotTaken before now j to rose (fault.Refused message) =
    WasAnswered before now j to (λ bytes. IsLeft (asked_of (before.asked + 1) j to) bytes (fault.Refused message))
WasNotTaken before now j to rose fault.Failed =
    (rose × HasAsked before now j to None)
    ⊎ WasAnswered before now j to (λ bytes. IsLeft (asked_of (before.asked + 1) j to) bytes fault.Failed)
WasNotTaken before now j to rose fault.NoMemory = AskedNothing before now ⊎ WasAnswered before now j to (λ bytes. ⊤)
