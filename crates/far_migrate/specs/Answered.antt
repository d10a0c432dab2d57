-- One exchange of a migration.
use Rattle.std.specs.Prelude.{◌≡◌, ◌≢◌, ℕ}
use Rattle.edge_io.specs.Exchanges.{Exchange}
use Rattle.place.specs.Place.{Names}
use Rattle.wire_client.specs.Calls.{Call, request_of}
use Rattle.wire_client.specs.Answers.{Reply, given, broken, long, gone, code, shape, Replies}
use Rattle.far_migrate.specs.Counts.{Fault, link, answer}

-- the exchange was made for the call, and was answered so
pub record Did (n : Names) (call : Call) (e : Exchange) (reply : Reply) : Type 0 where
  pub request : e.request ≡ request_of n call
  pub replies : Replies n call e.answer reply

-- the exchange was made for the call
abbrev pub Asked : Names → Call → Exchange → Type 0
Asked n call e = e.request ≡ request_of n call

-- Conflict: the object has changed
abbrev pub conflict : ℕ
conflict = 409

-- Gone: the token of a list is too old
abbrev pub expired : ℕ
expired = 410

-- Not Found
abbrev pub not_found : ℕ
not_found = 404

-- what an answer to a get comes to that gives no object, unless nothing is there
abbrev pub FailsGet : Reply → Fault → Type 0
FailsGet (given j) f = ⊥
FailsGet broken f = f ≡ link
FailsGet long f = f ≡ answer 0
FailsGet gone f = ⊥
FailsGet (code c) f = f ≡ answer c
FailsGet (shape path) f = f ≡ answer 0

-- the same of a put, which may be refused since the object has changed
abbrev pub FailsPut : Reply → Fault → Type 0
FailsPut (given j) f = ⊥
FailsPut broken f = f ≡ link
FailsPut long f = f ≡ answer 0
FailsPut gone f = ⊥
FailsPut (code c) f = (c ≢ conflict) × (f ≡ answer c)
FailsPut (shape path) f = f ≡ answer 0

-- the same of a list, which may be too long, or whose token may be too old
abbrev pub FailsList : Reply → Fault → Type 0
FailsList (given j) f = ⊥
FailsList broken f = f ≡ link
FailsList long f = ⊥
FailsList gone f = f ≡ answer not_found
FailsList (code c) f = (c ≢ expired) × (f ≡ answer c)
FailsList (shape path) f = f ≡ answer 0
