-- The server of a definition behind bytes: what it answers to a request that asks for closing.
use Rattle.std.specs.Prelude.{◌≡◌, ◌⊎◌, ◌<◌, ◌^◌, ℕ, List, [], ◌∷◌, Option, IsTrue, IsUtf8, length, true}
use Rattle.kube_meta.specs.Names.{is_name, is_namespace}
use Rattle.kube_meta.specs.declared.limits.Limits.{Limits}
use Rattle.http_wire.specs.Head.{Request, Reads}
use Rattle.http_wire.specs.Response.{says}
use Rattle.api_calls.specs.Item.{Item}
use Rattle.api_calls.specs.Legal.{In}
use Rattle.api_calls.specs.Meaning.{Meaning}
use Rattle.api_calls.specs.Reply.{ReplyView}
use Rattle.request_replies.specs.Replies.{Front, Replies}
use Rattle.place.specs.Place.{Names}
use Rattle.wire_client.specs.Far.{Server}
use Rattle.far_laws.specs.Answering.{all_of}

-- fewer than 10^18 bytes
abbrev pub IsShort : List ℕ → Type 0
IsShort text = length text < 10 ^ 18

-- The bytes begin with a request that asks for closing, which is answered at this history, and enters its item. The tool's faults may
-- have risen.
pub record AnswersIt (f : Front) (log : List Item) (bytes answer : List ℕ) (own : List Item) : Type 0 where
  pub request : Request
  pub rest : List ℕ
  pub reads : Reads bytes request rest
  pub few : IsShort bytes
  pub closing : request.closing ≡ true
  pub seen : List Item
  pub reply : ReplyView
  pub item : Option Item
  pub replies : Replies f (Unit {0}) seen log request reply item
  pub utf8 : IsUtf8 reply.text
  pub short : IsShort reply.text
  pub answer_is : answer ≡ says reply.code reply.text true
  pub own_is : own ≡ all_of item

-- the codes of a head that is refused
abbrev pub head_codes : List ℕ
head_codes = 400 ∷ 411 ∷ 413 ∷ 431 ∷ []

-- the head is refused, and nothing is entered
pub record RefusesIt (answer : List ℕ) (own : List Item) : Type 0 where
  pub code : ℕ
  pub text : List ℕ
  pub coded : In code head_codes
  pub short : IsShort text
  pub answer_is : answer ≡ says code text true
  pub nothing : own ≡ []

-- it is answered, or its head is refused, or nothing is said
abbrev pub Speaks : Front → List Item → List ℕ → List ℕ → List Item → Type 0
Speaks f log bytes answer own = AnswersIt f log bytes answer own ⊎ (RefusesIt answer own ⊎ ((answer ≡ []) × (own ≡ [])))

abbrev pub speaker : Front → Server
speaker f = record { answers = Speaks f }

-- of a definition, by the limits and the number of the server's start, and the clock's one stamp where the clock tells it
abbrev pub front : Meaning → Limits → ℕ → Option (List ℕ) → Front
front m limits boot told = record { server = record { meaning = m; limits = limits; boot = boot }; told = told }

-- names as the address of a place has them
pub record AreNames (n : Names) : Type 0 where
  pub group : IsTrue (is_name n.group)
  pub version : IsTrue (is_namespace n.version)
  pub plural : IsTrue (is_namespace n.plural)
