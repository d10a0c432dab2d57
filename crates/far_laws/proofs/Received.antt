-- What a client reads of an answer in bytes.
use Rattle.std.proofs.Common.{◌≡◌, ◌∙◌, refl, sym, ap, subst, inl, inr, ℕ, ◌<◌, ◌≤◌, Bool, true, false, ◌==◌, ◌&&◌, List, [], ◌++◌, length, Option, None, Some, Result, Ok, Err, arith}
use Rattle.std.specs.Prelude.{◌⊎◌, if◌then◌else◌}
use Rattle.std.proofs.lemmas.Bool.{cases_lt}
use Rattle.std.proofs.lemmas.Bool.Decides.{nat_tests}
use Rattle.std.proofs.lemmas.List.{append-nil}
use Rattle.httparse.proofs.GrammarLemmas.{response_unique}
use Rattle.kj_value.specs.Json.{Json}
use Rattle.kj_value.specs.Reading.{Reads}
use Rattle.http_wire.specs.declared.limits.TheConstants.{MOST_BODY_BYTES}
use Rattle.http_wire.specs.declared.WireFault.{WireFault}
use Rattle.http_wire.specs.declared.WireFault.TheVariants.{BodyTooLong}
use Rattle.http_wire.specs.Received.{FaultyResponse, Receives, Response, length_after}
use Rattle.http_wire.specs.Response.{HasPhrase, says}
use Rattle.http_wire.proofs.ReceivingLemmas.{print_some, response_one}
use Rattle.http_wire.proofs.StatusLemmas.{head_long}
use Rattle.wire_laws.specs.Sendable.{replied}
use Rattle.wire_laws.proofs.Responses.{faulty_it, receives_it}
use Rattle.place.specs.Place.{Names}
use Rattle.wire_client.specs.Answers.{Answer, IsAnswer, IsValue, Replies, code, coded, form_fault, formed, given, gone, has_details, no_response, read_value, refused, reply_of, shaped, success_of, too_long}
use Rattle.wire_client.specs.Calls.{Call}
use Rattle.wire_client.specs.Forms.{Path, api_version}
use Rattle.wire_client.specs.declared.buffer.TheConstants.{ANSWER_LEVELS}
use Rattle.far_laws.specs.Speaking.{IsShort}

-- ---- the response

never_both : (h : WireFault) (n : ℕ) (r : Result ℕ WireFault) → r ≡ Ok n → r ≡ Err h → ⊥
never_both h n r is fault = let both : Ok n ≡ Err h = sym is ∙ fault in cc

-- a response isn't received whose length is refused
refused_no : (b : List ℕ) (n : ℕ) (r : Response) (rest : List ℕ) → FaultyResponse b (BodyTooLong n) → Receives b r rest → ⊥
unfolding FaultyResponse Receives
refused_no b n r rest faulty reads = elim faulty [
  | inl bad ↦ bad
  | inr is ↦
      let same = response_unique b reads.0 is.0 reads.1 is.1 reads.3.reads is.2.reads in
      never_both (BodyTooLong n) reads.2 (length_after reads.0) reads.4 (ap length_after same.0 ∙ is.3)
]

-- what is received of what a server writes
pub received_is : (c : ℕ) (text rest : List ℕ) (r : Response) → HasPhrase c → IsShort text → Receives (says c text true) r rest → r ≡ replied c text
received_is c text rest r has short reads = by (cases_lt MOST_BODY_BYTES (length text))
  where
    whole : says c text true ++ [] ≡ says c text true
    whole = append-nil (says c text true)

    by : (MOST_BODY_BYTES < length text) ⊎ (length text ≤ MOST_BODY_BYTES) → r ≡ replied c text
    by (inl many) = absurd (refused_no (says c text true) (length text) r rest
        (subst (λ (b : List ℕ). FaultyResponse b (BodyTooLong (length text))) whole (faulty_it c text [] true has many short)) reads)
    by (inr few) = (response_one (says c text true) r (replied c text) rest [] reads (subst (λ (b : List ℕ). Receives b (replied c text) []) whole (receives_it c text [] true has few))).0

-- ---- what a reply tells of it

-- the answer has this code, and its body's value
record HasCode (bytes : List ℕ) (c : ℕ) (v : Option Json) : Type 0 where
  response : Response
  rest : List ℕ
  receives : Receives bytes response rest
  is : response.code ≡ c
  value : IsValue response.body v

number_is : (m n : ℕ) → (m == n) ≡ true → m ≡ n
number_is m n e = grind (arith, nat_tests)

given_is : (j k : Json) → given j ≡ given k → j ≡ k
given_is j k e = cc

first_true : (a b : Bool) → (a && b) ≡ true → a ≡ true
first_true true b e = refl
first_true false b e = e

second_true : (a b : Bool) → (a && b) ≡ true → b ≡ true
second_true true b e = e
second_true false b e = absurd (cc)

-- what is given is the value of a success
given_value : (version : List ℕ) (call : Call) (v : Option Json) (j : Json) → given j ≡ formed version call (read_value v) → v ≡ Some j
given_value version call None j is = cc
given_value version call (Some k) j is = by (form_fault version call k) is
  where
    by : (o : Option Path) → given j ≡ shaped o k → Some k ≡ Some j
    by None e = ap (λ (q : Json). Some q) (sym (given_is j k e))
    by (Some path) e = cc

given_not_refused : (version : List ℕ) (call : Call) (m : ℕ) (v : Option Json) (j : Json) → given j ≡ formed version call (refused m v) → ⊥
given_not_refused version call m v j is = by ((m == 404) && has_details v) is
  where
    by : (b : Bool) → given j ≡ formed version call (if b then gone else code m) → ⊥
    by true e = cc
    by false e = cc

gone_not_read : (version : List ℕ) (call : Call) (v : Option Json) → gone ≡ formed version call (read_value v) → ⊥
gone_not_read version call None is = cc
gone_not_read version call (Some k) is = by (form_fault version call k) is
  where
    by : (o : Option Path) → gone ≡ shaped o k → ⊥
    by None e = cc
    by (Some path) e = cc

gone_value : (version : List ℕ) (call : Call) (m : ℕ) (v : Option Json) → gone ≡ formed version call (refused m v) → (m ≡ 404) × (has_details v ≡ true)
gone_value version call m v is = by ((m == 404) && has_details v) refl is
  where
    by : (b : Bool) → ((m == 404) && has_details v) ≡ b → gone ≡ formed version call (if b then gone else code m) → (m ≡ 404) × (has_details v ≡ true)
    by true test e = (number_is m 404 (first_true (m == 404) (has_details v) test), second_true (m == 404) (has_details v) test)
    by false test e = cc

given_answer : (n : Names) (call : Call) (bytes : List ℕ) (a : Answer) (j : Json) → IsAnswer bytes a → given j ≡ reply_of n call a → HasCode bytes (success_of call) (Some j)
given_answer n call bytes too_long j is reply = cc
given_answer n call bytes no_response j is reply = cc
given_answer n call bytes (coded m v) j is reply = by (m == success_of call) refl reply
  where
    by : (b : Bool) → (m == success_of call) ≡ b → given j ≡ formed (api_version n) call (if b then read_value v else refused m v) → HasCode bytes (success_of call) (Some j)
    by true test e = record {
      response = is.0;
      rest = is.1;
      receives = is.2;
      is = is.3 ∙ number_is m (success_of call) test;
      value = subst (λ (w : Option Json). IsValue is.0.body w) (given_value (api_version n) call v j e) is.4;
    }
    by false test e = absurd (given_not_refused (api_version n) call m v j e)

gone_answer : (n : Names) (call : Call) (bytes : List ℕ) (a : Answer) → IsAnswer bytes a → gone ≡ reply_of n call a → (v : Option Json) × HasCode bytes 404 v × (has_details v ≡ true)
gone_answer n call bytes too_long is reply = cc
gone_answer n call bytes no_response is reply = cc
gone_answer n call bytes (coded m v) is reply = by (m == success_of call) reply
  where
    by : (b : Bool) → gone ≡ formed (api_version n) call (if b then read_value v else refused m v) → (w : Option Json) × HasCode bytes 404 w × (has_details w ≡ true)
    by true e = absurd (gone_not_read (api_version n) call v e)
    by false e =
        let told = gone_value (api_version n) call m v e in
        (v, record { response = is.0; rest = is.1; receives = is.2; is = is.3 ∙ told.0; value = is.4 }, told.1)

-- ---- of what a server writes

-- a success that is given has this text
pub given_says : (n : Names) (call : Call) (bytes text : List ℕ) (c : ℕ) (j : Json) → HasPhrase c → IsShort text → bytes ≡ says c text true → Replies n call (Some bytes) (given j)
    → (c ≡ success_of call) × Reads text ANSWER_LEVELS j
given_says n call bytes text c j has short is replies =
    let got = given_answer n call bytes replies.0 j replies.1 replies.2 in
    let same : got.response ≡ replied c text = received_is c text got.rest got.response has short (subst (λ (b : List ℕ). Receives b got.response got.rest) is got.receives) in (
      sym (ap (λ (r : Response). r.code) same) ∙ got.is,
      subst (λ (r : Response). Reads r.body ANSWER_LEVELS j) same got.value,
    )

-- what is gone has a text with details
pub gone_says : (n : Names) (call : Call) (bytes text : List ℕ) (c : ℕ) → HasPhrase c → IsShort text → bytes ≡ says c text true → Replies n call (Some bytes) gone
    → (c ≡ 404) × (v : Option Json) × IsValue text v × (has_details v ≡ true)
gone_says n call bytes text c has short is replies =
    let got = gone_answer n call bytes replies.0 replies.1 replies.2 in
    let same : got.1.response ≡ replied c text =
    received_is c text got.1.rest got.1.response has short (subst (λ (b : List ℕ). Receives b got.1.response got.1.rest) is got.1.receives) in (
      sym (ap (λ (r : Response). r.code) same) ∙ got.1.is,
      got.0,
      subst (λ (r : Response). IsValue r.body got.0) same got.1.value,
      got.2,
    )

-- ---- nothing said

nothing_received : (r : Response) (rest : List ℕ) → Receives [] r rest → ⊥
unfolding Receives
nothing_received r rest reads =
    let long = head_long [] reads.0 reads.1 reads.3 in
    let some = print_some reads.0 in
    omega (arith, long, some)

pub given_nothing : (n : Names) (call : Call) (j : Json) → Replies n call (Some []) (given j) → ⊥
given_nothing n call j replies =
    let got = given_answer n call [] replies.0 j replies.1 replies.2 in
    nothing_received got.response got.rest got.receives

pub gone_nothing : (n : Names) (call : Call) → Replies n call (Some []) gone → ⊥
gone_nothing n call replies =
    let got = gone_answer n call [] replies.0 replies.1 replies.2 in
    nothing_received got.1.response got.1.rest got.1.receives
