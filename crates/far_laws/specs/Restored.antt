-- What a restoring comes to in the history of a server to which nobody else writes meanwhile, and in its objects.
use Rattle.std.specs.Prelude.{◌≡◌, ◌+◌, ℕ, List, [], ◌∷◌, ◌++◌, length, Option, None}
use Rattle.kj_value.specs.Json.{Json}
use Rattle.kj_value.specs.Text.{text_of}
use Rattle.kube_meta.specs.Key.{KeyView}
use Rattle.kube_meta.specs.View.{ObjectView}
use Rattle.edge_io.specs.Exchanges.{Exchange}
use Rattle.api_calls.specs.Item.{Create, Item, entry}
use Rattle.api_calls.specs.Legal.{legal}
use Rattle.api_calls.specs.Meaning.{Meaning}
use Rattle.api_calls.specs.Objects.{Stored}
use Rattle.api_calls.specs.Values.{created_value}
use Rattle.http_routes.specs.Actions.{IsVersion}
use Rattle.request_replies.specs.Replies.{Front}
use Rattle.place.specs.Place.{Names}
use Rattle.wire_client.specs.Far.{Chain}
use Rattle.wire_client.specs.Forms.{fields_of, key_in}
use Rattle.record_dump.specs.Restores.{IsLine, Says}
use Rattle.record_dump.specs.Told.{IsPosted, joined}
use Rattle.far_laws.specs.Speaking.{speaker}
use Rattle.far_laws.specs.GivenBack.{unstamped}

-- The bytes were restored, line by line, over a server whose bytes answer by this front: each line was created, and between the two
-- histories nothing else was entered, since they differ by so many items as objects were created.
pub record Restoring (f : Front) (n : Names) (first last : List Item) (bytes : List ℕ) : Type 0 where
  pub exchanges : List Exchange
  pub created : ℕ
  pub posted : IsPosted n bytes exchanges created 0
  pub chain : Chain (speaker f) first exchanges last
  pub alone : length last ≡ length first + created
  pub legal : legal f.server.meaning f.server.limits last

-- ---- in the history

-- the key that a document tells
abbrev pub key_of : Json → KeyView
key_of j = key_in (fields_of j)

-- A create stores h for the document: what is admitted of its text, in its namespace and at the version of the place, with a stamp and generation 1.
pub record IsStoredFor (m : Meaning) (n : Names) (j : Json) (h : ObjectView) : Type 0 where
  pub v : ℕ
  pub version : IsVersion m n.version v
  pub admitted : ObjectView
  pub number : Option ℕ
  pub admits : m.admits (record { version = v; ns = (key_of j).ns; name = None; bytes = text_of j }) admitted number
  pub stamp : List ℕ
  pub value : h ≡ created_value stamp admitted

-- one create for each line, in order, under the line's key
pub data AreCreated (m : Meaning) (n : Names) : List (List ℕ) → List Item → Type 0 where
  none : AreCreated m n [] []
  line : (line : List ℕ) (lines : List (List ℕ)) (j : Json) (h : ObjectView) (w : ℕ) (items : List Item) → IsLine line → Says n line j → IsStoredFor m n j h → AreCreated m n lines items
      → AreCreated m n (line ∷ lines) (entry (Create (key_of j) h w) ∷ items)

-- The input was lines, and all that was entered between two histories is one create for each.
pub record IsRestored (m : Meaning) (n : Names) (first last : List Item) (bytes : List ℕ) : Type 0 where
  pub lines : List (List ℕ)
  pub input : bytes ≡ joined lines
  pub items : List Item
  pub entered : last ≡ first ++ items
  pub created : AreCreated m n lines items

-- ---- in the objects

-- f has the key of e, and its value but for stamps and generation
pub record IsSame (e f : Stored) : Type 0 where
  pub key : f.key ≡ e.key
  pub value : unstamped f.h ≡ unstamped e.h

-- the same objects one after the other: none is missing, and there are no others
abbrev pub AreSame : List Stored → List Stored → Type 0
AreSame [] [] = Unit {0}
AreSame (e ∷ es) (f ∷ fs) = IsSame e f × AreSame es fs
AreSame [] (f ∷ fs) = ⊥
AreSame (e ∷ es) [] = ⊥
