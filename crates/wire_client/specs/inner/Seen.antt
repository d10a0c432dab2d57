-- For private clauses: what is seen of an answer in memory, and of a call on its way.
use Rattle.std.specs.Prelude.{◌≡◌, ◌≤◌, ⊤, ◌⊎◌, ℕ, false, List, [], ◌∷◌, Option, None, Some, option_map, option_copied, is_none, unwrap_or, decimal}
use Rattle.kj_value.specs.Fields.{Pairs}
use Rattle.kj_value.specs.Json.{depth}
use Rattle.kj_value.specs.Json.{Json}
use Rattle.kj_value.specs.Seen.{json}
use Rattle.kj_value.specs.declared.value.JVal.{JVal}
use Rattle.wire_client.specs.Answers as spec
use Rattle.wire_client.specs.Forms.{Wanted, page_fields_fault, items_in, token_in, number_in}
use Rattle.wire_client.specs.Keys.{AreKeyed}
use Rattle.wire_client.specs.Far.{Server, Told, Made}
use Rattle.wire_client.specs.declared.buffer.TheConstants.{ANSWER_LEVELS}
use Rattle.wire_client.specs.declared.end.WireEnd.{WireEnd}
use Rattle.wire_client.specs.declared.end.WireEnd.TheVariants as wire
use Rattle.wire_client.specs.declared.objects.Wants.{Wants}
use Rattle.wire_client.specs.declared.page_form.PageHead.{PageHead}
use Rattle.wire_client.specs.declared.answer.Answer.{Answer}
use Rattle.wire_client.specs.declared.answer.Answer.TheVariants.{TooLong, NoResponse, Coded}

abbrev pub value_of : Option JVal → Option Json
value_of v = option_map json v

abbrev pub answer_of : Answer → spec.Answer
answer_of TooLong = spec.too_long
answer_of NoResponse = spec.no_response
answer_of (Coded code body) = spec.coded code (value_of body)

-- the body's value is within the levels of an answer
abbrev pub IsLow : Answer → Type 0
IsLow TooLong = ⊤
IsLow NoResponse = ⊤
IsLow (Coded code None) = ⊤
IsLow (Coded code (Some v)) = depth (json v) ≤ ANSWER_LEVELS

-- what an exchange of a call with that code of success comes to, whatever the form of its body
abbrev pub ByCode : ℕ → Option (List ℕ) → spec.Reply → Type 0
ByCode success None reply = reply ≡ spec.broken
ByCode success (Some bytes) reply = (a : spec.Answer) × spec.IsAnswer bytes a × (reply ≡ spec.reply_by_code success a)

pub record Asked (s : Server) (before now : Told) (request : List ℕ) (success : ℕ) (reply : spec.Reply) : Type 0 where
  pub answer : Option (List ℕ)
  pub made : Made s before now ((record { request = request; answer = answer }) ∷ [])
  pub by_code : ByCode success answer reply

-- memory was wanted before the exchange, or once it was answered
abbrev pub Starved : Server → Told → Told → List ℕ → Type 0
Starved s before now request = Made s before now [] ⊎ ((bytes : List ℕ) × Made s before now ((record { request = request; answer = Some bytes }) ∷ []))

abbrev pub AskedEnd : Server → Told → Told → List ℕ → ℕ → WireEnd → Type 0
AskedEnd s before now request success wire.LinkFault = Asked s before now request success spec.broken
AskedEnd s before now request success wire.TooLong = Asked s before now request success spec.long
AskedEnd s before now request success wire.Gone = Asked s before now request success spec.gone
AskedEnd s before now request success (wire.Code c) = Asked s before now request success (spec.code c)
AskedEnd s before now request success (wire.Shape path) = Asked s before now request success (spec.shape path.bytes)
AskedEnd s before now request success wire.NoMemory = Starved s before now request

-- the same of an answer alone
abbrev pub JudgedEnd : ℕ → spec.Answer → WireEnd → Type 0
JudgedEnd success a wire.LinkFault = ⊥
JudgedEnd success a wire.TooLong = spec.reply_by_code success a ≡ spec.long
JudgedEnd success a wire.Gone = spec.reply_by_code success a ≡ spec.gone
JudgedEnd success a (wire.Code c) = spec.reply_by_code success a ≡ spec.code c
JudgedEnd success a (wire.Shape path) = spec.reply_by_code success a ≡ spec.shape path.bytes
JudgedEnd success a wire.NoMemory = ⊤

-- P holds of the path at which another form begins; want of memory says nothing
abbrev pub OnShape : (List ℕ → Type 0) → WireEnd → Type 0
OnShape P wire.LinkFault = ⊥
OnShape P wire.TooLong = ⊥
OnShape P wire.Gone = ⊥
OnShape P (wire.Code c) = ⊥
OnShape P (wire.Shape path) = P path.bytes
OnShape P wire.NoMemory = ⊤

-- what is found of a page but its items: nothing has another form
pub record HasHead (version : List ℕ) (fs : Pairs) (h : PageHead) : Type 0 where
  pub form : page_fields_fault version fs ≡ None
  pub items : is_none (items_in fs) ≡ false
  pub keyed : AreKeyed (unwrap_or (items_in fs) [])
  pub token : h.token.bytes ≡ token_in fs
  pub rv : decimal h.rv ≡ number_in fs

abbrev pub wanted_view : Wants → Wanted
wanted_view w = record { ns = option_copied w.ns; name = option_copied w.name }

-- what another code than that of success comes to
abbrev pub IsRefusal : ℕ → Option Json → WireEnd → Type 0
IsRefusal n value wire.LinkFault = ⊥
IsRefusal n value wire.TooLong = ⊥
IsRefusal n value wire.Gone = spec.refused n value ≡ spec.gone
IsRefusal n value (wire.Code c) = spec.refused n value ≡ spec.code c
IsRefusal n value (wire.Shape path) = ⊥
IsRefusal n value wire.NoMemory = ⊥
