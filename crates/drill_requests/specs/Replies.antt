-- What is read of the texts of replies.
use Rattle.std.specs.Prelude.{◌≡◌, ℕ, List, [], length, Option, Some, None, Ok, Err, codes, unwrap_or}
use Rattle.kj_value.specs.Fields.{Pairs, field, with_field}
use Rattle.kj_value.specs.Json.{Json, null, boolean, whole, text, list, object, members_of}
use Rattle.kj_value.specs.Kinds.{pairs_of}
use Rattle.kj_value.specs.Reading.{Reads}
use Rattle.kj_value.specs.Text.{text_of}
use Rattle.kj_value.specs.declared.reading.TheConstants.{MAX_JSON_LEVELS}
use Rattle.object_reading.specs.Fields.{object_at, list_at, text_at}
use Rattle.api_calls.specs.Replies.{Answer}
use Rattle.drill_requests.specs.Bodies.{other_port}

-- a text reads as a value of which P holds, or as none, and then Q holds
pub data AsRead (bytes : List ℕ) (P : Json → Type 0) (Q : Type 0) : Type 0 where
  value : (j : Json) → Reads bytes MAX_JSON_LEVELS j → P j → AsRead bytes P Q
  no_value : ((j : Json) → Reads bytes MAX_JSON_LEVELS j → ⊥) → Q → AsRead bytes P Q

-- ---- an object that is put back

-- the object with another `hostPort`; what is no object stays
abbrev pub edited : ℕ → Json → Json
edited t (object ms) = object (members_of (with_field (codes "hostPort") (text (other_port t)) (pairs_of ms)))
edited t null = null
edited t (boolean b) = boolean b
edited t (whole z) = whole z
edited t (text s) = text s
edited t (list js) = list js

-- the body that is put back of the text of a reply: that of the object with another `hostPort`. A text that is no JSON is put
-- back as it is
abbrev pub IsEdited : ℕ → List ℕ → List ℕ → Type 0
IsEdited t got body = AsRead got (λ j. body ≡ text_of (edited t j)) (body ≡ got)

-- ---- a list

-- how many items a list has; what is no list has none
abbrev pub items_in : Json → ℕ
items_in j = length (list_at (field (codes "items") (object_at (Some j))))

-- its resource version; what is no list has the empty one
abbrev pub version_in : Json → List ℕ
version_in j = unwrap_or (text_at (field (codes "resourceVersion") (object_at (field (codes "metadata") (object_at (Some j)))))) []

-- an answer shows so many objects and this resource version; a refusal, and a text that is no JSON, show none
abbrev pub Shows : Answer → ℕ → List ℕ → Type 0
Shows (Ok r) objects revision = AsRead r.text (λ j. (objects ≡ items_in j) × (revision ≡ version_in j)) ((objects ≡ 0) × (revision ≡ []))
Shows (Err e) objects revision = (objects ≡ 0) × (revision ≡ [])
