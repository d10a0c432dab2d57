-- The one response to a head that is refused (RFC 9112; status codes of RFC 9110 and RFC 6585).
use Rattle.std.specs.Prelude.{ℕ, List, [], None, true, codes}
use Rattle.kj_value.specs.Text.{text_of}
use Rattle.api_calls.specs.Status.{status, code_bad_request}
use Rattle.api_calls.specs.Reply.{ReplyView}
use Rattle.http_wire.specs.Response.{says}
use Rattle.http_wire.specs.Stream.{End, closed, closing, spent, torn, refused}
use Rattle.http_wire.specs.declared.WireFault.{WireFault}
use Rattle.http_wire.specs.declared.WireFault.TheVariants.{Closed, Torn, BadHead, HeadTooLong, LengthRequired, BodyTooLong, ReadFault}

-- further status codes of RFC 9110, and that of RFC 6585 for a head that is too long
abbrev pub code_length_required : ℕ
code_length_required = 411

abbrev pub code_too_large : ℕ
code_too_large = 413

abbrev pub code_head_too_long : ℕ
code_head_too_long = 431

unfoldable pub failure_text : ℕ → List ℕ → List ℕ → List ℕ
failure_text code reason message = text_of (status code None message reason)

abbrev pub failure : ℕ → List ℕ → List ℕ → ReplyView
failure code reason message = record { code = code; text = failure_text code reason message }

abbrev pub bad_head : ReplyView
bad_head = failure code_bad_request (codes "BadRequest") (codes "bad request: BadHead")

abbrev pub length_required : ReplyView
length_required = failure code_length_required (codes "LengthRequired") (codes "a length is required")

abbrev pub body_too_long : ReplyView
body_too_long = failure code_too_large (codes "RequestEntityTooLarge") (codes "the body is longer than 1048576 bytes")

abbrev pub head_too_long : ReplyView
head_too_long = failure code_head_too_long (codes "HeadTooLong") (codes "the head is longer than 16384 bytes")

-- the response to a fault of a head, which asks for closing; the other faults have none
abbrev pub fault_words : WireFault → List ℕ
fault_words BadHead = says bad_head.code bad_head.text true
fault_words LengthRequired = says length_required.code length_required.text true
fault_words (BodyTooLong n) = says body_too_long.code body_too_long.text true
fault_words HeadTooLong = says head_too_long.code head_too_long.text true
fault_words Closed = []
fault_words (Torn held) = []
fault_words ReadFault = []

-- what is written where the input ends so
unfoldable pub last_words : End → List ℕ
last_words (refused f) = fault_words f
last_words closed = []
last_words closing = []
last_words (torn held) = []
last_words spent = []

-- a fault of a head, which has a response
abbrev pub IsHeadFault : WireFault → Type 0
IsHeadFault BadHead = Unit {0}
IsHeadFault HeadTooLong = Unit {0}
IsHeadFault LengthRequired = Unit {0}
IsHeadFault (BodyTooLong n) = Unit {0}
IsHeadFault Closed = ⊥
IsHeadFault (Torn held) = ⊥
IsHeadFault ReadFault = ⊥
