-- A server of a definition behind its bytes, whose converter doesn't fail, and what it may reply to the calls of a migration.
use Rattle.std.specs.Prelude.{◌≡◌, ◌≢◌, ◌⊎◌, ℕ, false, List, codes}
use Rattle.api_calls.specs.Item.{Create, Delete, Entry, Item, Mark, MarkSucceeded, Release, Replace, SetVersions, StartMigration, Touch, Trim, entry, note}
use Rattle.api_calls.specs.Meaning.{Meaning}
use Rattle.api_calls.specs.State.{served, state}
use Rattle.http_routes.specs.Actions.{IsVersion}
use Rattle.http_routes.specs.Paths.{IsKey}
use Rattle.place.specs.Place.{Names}
use Rattle.request_replies.specs.Replies.{Front}
use Rattle.wire_client.specs.Answers.{Reply, broken, code, given, gone, long, shape}
use Rattle.wire_client.specs.Calls.{Call, gets, lists, posts, puts}
use Rattle.wire_client.specs.Far.{Server}
use Rattle.far_laws.specs.Speaking.{AnswersIt}

-- ---- what is known of the server

-- Each request is answered by its reply: none is left without an answer, no head is refused, and the converter doesn't fail. What
-- `serve_one` does with a request that asks for closing is so, where the tool has no fault (`last_replies`).
abbrev pub replying : Front → Server
replying f = record { answers = λ log request answer own. (a : AnswersIt f log request answer own) × (a.reply.code ≢ 502) }

-- The place names the definition's group and plural and one of its versions. The group isn't that of migrations, whose path a list
-- of objects would have.
pub record IsPlaceOf (m : Meaning) (n : Names) : Type 0 where
  pub group : n.group ≡ m.group
  pub plural : n.plural ≡ m.plural
  pub v : ℕ
  pub version : IsVersion m n.version v
  pub other : n.group ≢ codes "storagemigration.k8s.io"

abbrev pub entry_named : Entry → Type 0
entry_named (Create key h w) = IsKey key
entry_named (Replace key over h w) = Unit {0}
entry_named (Mark key over stamp) = Unit {0}
entry_named (Release key over) = Unit {0}
entry_named (Touch key c) = Unit {0}
entry_named (Delete key) = Unit {0}
entry_named (SetVersions f) = Unit {0}
entry_named (Trim keep) = Unit {0}
entry_named (StartMigration name) = Unit {0}
entry_named MarkSucceeded = Unit {0}

-- an object is created under a namespace and a name
abbrev pub CreatesNamed : Item → Type 0
CreatesNamed (entry e) = entry_named e
CreatesNamed (note x) = Unit {0}

-- ---- what it may reply

-- the version that the place names isn't served at this history
pub record IsUnserved (m : Meaning) (n : Names) (log : List Item) : Type 0 where
  pub v : ℕ
  pub version : IsVersion m n.version v
  pub off : served (state m log).flags v ≡ false

-- 503: memory is wanted; 404: the version isn't served; 410: the token is too old; 409: the object has changed
abbrev pub MayRefuse : Meaning → Names → List Item → Call → ℕ → Type 0
MayRefuse m n log (lists limit token) c = (c ≡ 503) ⊎ (((c ≡ 404) × IsUnserved m n log) ⊎ (c ≡ 410))
MayRefuse m n log (gets key) c = (c ≡ 503) ⊎ ((c ≡ 404) × IsUnserved m n log)
MayRefuse m n log (puts key j) c = (c ≡ 503) ⊎ (((c ≡ 404) × IsUnserved m n log) ⊎ (c ≡ 409))
MayRefuse m n log (posts ns j) c = ⊥

-- a key may have no object
abbrev pub MayMiss : Call → Type 0
MayMiss (lists limit token) = ⊥
MayMiss (gets key) = Unit {0}
MayMiss (puts key j) = Unit {0}
MayMiss (posts ns j) = ⊥

-- a page of more than one object may have more bytes than a client reads
abbrev pub MayBeLong : Call → Type 0
MayBeLong (lists limit token) = limit ≢ 1
MayBeLong (gets key) = ⊥
MayBeLong (puts key j) = ⊥
MayBeLong (posts ns j) = ⊥

-- A success of the form that the client takes, too many bytes, or one of these refusals.
abbrev pub MayReply : Meaning → Names → List Item → Call → Reply → Type 0
MayReply m n log call (given j) = Unit {0}
MayReply m n log call broken = ⊥
MayReply m n log call long = MayBeLong call
MayReply m n log call gone = MayMiss call
MayReply m n log call (code c) = MayRefuse m n log call c
MayReply m n log call (shape path) = ⊥
