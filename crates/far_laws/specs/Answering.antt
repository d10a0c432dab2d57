-- What a client's calls come to at the server of a definition: which of its calls each is, and what the reply tells of the server's answer.
use Rattle.std.specs.Prelude.{◌≡◌, ◌⊎◌, ◌≤◌, ℕ, List, [], ◌∷◌, ◌++◌, Option, None, Some, Ok, Err}
use Rattle.kj_value.specs.Reading.{Reads}
use Rattle.kj_value.specs.Text.{text_of}
use Rattle.kj_value.specs.Json.{Json}
use Rattle.kube_meta.specs.Key.{KeyView}
use Rattle.api_calls.specs.Calls as calls
use Rattle.api_calls.specs.Calls.{Comes}
use Rattle.api_calls.specs.Item.{Item}
use Rattle.api_calls.specs.Pages.{Place}
use Rattle.api_calls.specs.Refusal as refusal
use Rattle.api_calls.specs.Replies as replies
use Rattle.api_calls.specs.Reply.{ReplyView}
use Rattle.api_calls.specs.Token.{IsToken, token_text}
use Rattle.http_routes.specs.Paths.{IsKey}
use Rattle.http_routes.specs.Actions.{IsVersion}
use Rattle.http_routes.specs.Queries as query
use Rattle.place.specs.Place.{Names}
use Rattle.wire_client.specs.Answers.{Reply, given, gone, broken, long, code, shape, Replies}
use Rattle.wire_client.specs.Calls.{Call, lists, gets, puts, posts, request_of}
use Rattle.wire_client.specs.Far.{Server}
use Rattle.far_migrate.specs.Pages.{first_limit}
use Rattle.wire_client.specs.declared.buffer.TheConstants.{ANSWER_LEVELS}

-- the one history goes on from the other
abbrev pub GoesOn : List Item → List Item → Type 0
GoesOn log next = (more : List Item) × (next ≡ log ++ more)

-- the bytes of a server answered the call at this history so, and the server added these items
pub record Answered (far : Server) (n : Names) (call : Call) (log own : List Item) (reply : Reply) : Type 0 where
  pub bytes : List ℕ
  pub answers : far.answers log (request_of n call) bytes own
  pub replies : Replies n call (Some bytes) reply

-- ---- the server's call

-- The call is this one of the server, at the version that the place names. A list goes on behind the token, and may have any limit.
abbrev pub IsCall : calls.Server → Names → Call → calls.Call → Type 0
IsCall s n (lists limit token) c =
    (v : ℕ) × (most : ℕ) × (from : Option Place) × IsVersion s.meaning n.version v × query.GoesOn None token from × (c ≡ calls.list v None most from)
IsCall s n (gets key) c = (v : ℕ) × IsVersion s.meaning n.version v × (c ≡ calls.get v key)
IsCall s n (puts key j) c = (v : ℕ) × IsVersion s.meaning n.version v
    × (c ≡ calls.replace (record { version = v; ns = key.ns; name = Some key.name; bytes = text_of j }) key)
IsCall s n (posts ns j) c = (v : ℕ) × IsVersion s.meaning n.version v
    × (c ≡ calls.create (record { version = v; ns = ns; name = None; bytes = text_of j }))

-- a success has a text that reads as what was given, and gone is what isn't found; the other replies tell nothing here
abbrev pub Tells : Reply → replies.Answer → Type 0
Tells (given j) a = (r : ReplyView) × (a ≡ Ok r) × Reads r.text ANSWER_LEVELS j
Tells gone a = (name : List ℕ) × (a ≡ Err (refusal.not_found name))
Tells broken a = Unit {0}
Tells long a = Unit {0}
Tells (code c) a = Unit {0}
Tells (shape path) a = Unit {0}

abbrev pub all_of : Option Item → List Item
all_of None = []
all_of (Some i) = i ∷ []

-- at this history the server came to that reply, and entered these items
pub record CameTo (s : calls.Server) (n : Names) (call : Call) (log own : List Item) (reply : Reply) : Type 0 where
  pub asked : calls.Call
  pub is : IsCall s n call asked
  pub stamp : List ℕ
  pub seen : List Item
  pub answer : replies.Answer
  pub item : Option Item
  -- the tool's faults may have risen
  pub comes : Comes s (Unit {0}) stamp seen log asked (calls.answered answer) item
  pub own_is : own ≡ all_of item
  pub tells : Tells reply answer

-- ---- the calls of a migration

-- a token that a server writes
pub record IsTold (text : List ℕ) : Type 0 where
  pub number : ℕ
  pub key : KeyView
  pub token : IsToken number key
  pub spelled : text ≡ token_text number key

-- a page of at most so many objects as a migration asks for, its first one or behind a token that a server writes; and a get or a put
-- of a key that an object may have
abbrev pub IsOfMigration : Call → Type 0
IsOfMigration (lists limit token) = (limit ≤ first_limit) × ((token ≡ []) ⊎ IsTold token)
IsOfMigration (gets key) = IsKey key
IsOfMigration (puts key j) = IsKey key
IsOfMigration (posts ns j) = ⊥

-- whatever is answered, the server entered these items for its call of the same meaning
pub record Entered (s : calls.Server) (n : Names) (call : Call) (log own : List Item) : Type 0 where
  pub asked : calls.Call
  pub is : IsCall s n call asked
  pub stamp : List ℕ
  pub seen : List Item
  pub answer : replies.Answer
  pub item : Option Item
  pub comes : Comes s (Unit {0}) stamp seen log asked (calls.answered answer) item
  pub own_is : own ≡ all_of item

-- Behind the bytes is the server of a definition: what such a call is given, and what is gone, is by what the server answers; and it
-- enters nothing but what the call enters.
pub record IsBehind (s : calls.Server) (n : Names) (far : Server) : Type 0 where
  pub gives : (call : Call) → IsOfMigration call → (log own : List Item) (j : Json) → Answered far n call log own (given j) → CameTo s n call log own (given j)
  pub misses : (call : Call) → IsOfMigration call → (log own : List Item) → Answered far n call log own gone → CameTo s n call log own gone
  pub enters : (call : Call) → IsOfMigration call → (log own : List Item) (bytes : List ℕ) → far.answers log (request_of n call) bytes own → (own ≡ []) ⊎ Entered s n call log own
