-- What a client's call is answered.
use Rattle.std.specs.Prelude.{◌≡◌, ◌==◌, ℕ, Bool, true, false, ◌&&◌, List, [], Option, None, Some, is_some, codes, if◌then◌else◌}
use Rattle.kj_value.specs.Json.{Json}
use Rattle.kj_value.specs.Fields.{field}
use Rattle.kj_value.specs.Reading.{Reads}
use Rattle.http_wire.specs.Received.{Response, Receives, IsLack}
use Rattle.http_wire.specs.declared.WireFault.{WireFault}
use Rattle.http_wire.specs.declared.WireFault.TheVariants.{Closed, Torn, ReadFault, BadHead, HeadTooLong, LengthRequired, BodyTooLong}
use Rattle.object_reading.specs.Fields.{text_at}
use Rattle.place.specs.Place.{Names}
use Rattle.wire_client.specs.declared.buffer.TheConstants.{ANSWER_LEVELS}
use Rattle.wire_client.specs.Calls.{Call, lists, gets, puts, posts}
use Rattle.wire_client.specs.Forms.{Path, Wanted, this_one, api_version, fields_of, meta_field, object_fault, page_fault}

-- ---- the bytes of an answer

-- a body that is longer than a client reads; no response for another reason; or a response, with its body's value where it has one
pub data Answer : Type 0 where
  too_long : Answer
  no_response : Answer
  coded : ℕ → Option Json → Answer

-- the value of a body, within the levels of an answer
abbrev pub IsValue : List ℕ → Option Json → Type 0
IsValue body None = (j : Json) → Reads body ANSWER_LEVELS j → ⊥
IsValue body (Some j) = Reads body ANSWER_LEVELS j

-- a fault of bytes, not of reading them, other than a body that is too long
abbrev pub IsOtherFault : WireFault → Type 0
IsOtherFault Closed = Unit {0}
IsOtherFault (Torn held) = Unit {0}
IsOtherFault BadHead = Unit {0}
IsOtherFault HeadTooLong = Unit {0}
IsOtherFault LengthRequired = Unit {0}
IsOtherFault (BodyTooLong n) = ⊥
IsOtherFault ReadFault = ⊥

-- the bytes come to this
abbrev pub IsAnswer : List ℕ → Answer → Type 0
IsAnswer bytes too_long = (n : ℕ) × IsLack bytes (Some []) (BodyTooLong n)
IsAnswer bytes no_response = (f : WireFault) × IsOtherFault f × IsLack bytes (Some []) f
IsAnswer bytes (coded n value) = (r : Response) × (rest : List ℕ) × Receives bytes r rest × (r.code ≡ n) × IsValue r.body value

-- ---- what it says to the call

pub data Reply : Type 0 where
  -- the call's success, with a body of its form
  given : Json → Reply
  -- the exchange failed
  broken : Reply
  long : Reply
  -- nothing of that name is there
  gone : Reply
  -- another code than that of success
  code : ℕ → Reply
  -- no response, or a body of another form, from that path on
  shape : Path → Reply

abbrev pub success_of : Call → ℕ
success_of (lists limit token) = 200
success_of (gets key) = 200
success_of (puts key body) = 200
success_of (posts ns body) = 201

abbrev pub has_details : Option Json → Bool
has_details None = false
has_details (Some j) = is_some (field (codes "details") (fields_of j))

-- 404 with details is what a server says of a name; without them it says so of the path
abbrev pub refused : ℕ → Option Json → Reply
refused n value = if (n == 404) && has_details value then gone else code n

-- success with a body that is read
abbrev pub read_value : Option Json → Reply
read_value None = shape []
read_value (Some j) = given j

-- by the code alone
abbrev pub reply_by_code : ℕ → Answer → Reply
reply_by_code success too_long = long
reply_by_code success no_response = shape []
reply_by_code success (coded n value) = if n == success then read_value value else refused n value

-- the object that a call is to be answered with: of the namespace and the name that it names
abbrev pub wanted_of : Call → Wanted
wanted_of (lists limit token) = record { ns = None; name = None }
wanted_of (gets key) = this_one key
wanted_of (puts key body) = this_one key
wanted_of (posts ns body) = record { ns = Some ns; name = text_at (meta_field (codes "name") (fields_of body)) }

abbrev pub form_fault : List ℕ → Call → Json → Option Path
form_fault version (lists limit token) j = page_fault version j
form_fault version (gets key) j = object_fault version (wanted_of (gets key)) j
form_fault version (puts key body) j = object_fault version (wanted_of (puts key body)) j
form_fault version (posts ns body) j = object_fault version (wanted_of (posts ns body)) j

abbrev pub shaped : Option Path → Json → Reply
shaped None j = given j
shaped (Some path) j = shape path

-- a success has to have its form
abbrev pub formed : List ℕ → Call → Reply → Reply
formed version call (given j) = shaped (form_fault version call j) j
formed version call broken = broken
formed version call long = long
formed version call gone = gone
formed version call (code n) = code n
formed version call (shape path) = shape path

abbrev pub reply_of : Names → Call → Answer → Reply
reply_of n call a = formed (api_version n) call (reply_by_code (success_of call) a)

-- the call was answered so by these bytes, or by none
abbrev pub Replies : Names → Call → Option (List ℕ) → Reply → Type 0
Replies n call None reply = reply ≡ broken
Replies n call (Some bytes) reply = (a : Answer) × IsAnswer bytes a × (reply ≡ reply_of n call a)
