-- What a client takes an answer for, by the code and the text that a server says.
use Rattle.std.proofs.Common.{◌≡◌, ◌∙◌, refl, sym, ap, subst, inl, inr, ℕ, ◌<◌, ◌≤◌, Bool, true, false, ◌==◌, ◌&&◌, List, [], ◌++◌, length, Option, None, Some, Result, Err, arith}
use Rattle.std.specs.Prelude.{◌⊎◌, IsUtf8, if◌then◌else◌}
use Rattle.std.proofs.lemmas.Bool.{cases_lt}
use Rattle.std.proofs.lemmas.Bool.Decides.{nat_tests}
use Rattle.std.proofs.lemmas.List.{append-nil}
use Rattle.kj_value.specs.Json.{Json, depth}
use Rattle.kj_value.specs.Reading.{Reads}
use Rattle.kj_value.specs.Sound.{IsSoundJson}
use Rattle.kj_value.specs.Text.{text_of}
use Rattle.http_wire.specs.declared.limits.TheConstants.{MOST_BODY_BYTES}
use Rattle.http_wire.specs.declared.ResponseParts.{ResponseParts}
use Rattle.http_wire.specs.declared.WireFault.{WireFault}
use Rattle.http_wire.specs.declared.WireFault.TheVariants.{BodyTooLong, ReadFault}
use Rattle.http_wire.specs.Inboxes.{Held}
use Rattle.http_wire.specs.Received.{IsLack, Response}
use Rattle.http_wire.specs.Response.{HasPhrase, says}
use Rattle.wire_laws.specs.Sendable.{replied}
use Rattle.wire_laws.proofs.Responses.{gets_it, too_long_it}
use Rattle.place.specs.Place.{Names}
use Rattle.wire_client.specs.Answers.{Answer, IsAnswer, IsOtherFault, IsValue, Reply, Replies, code, coded, form_fault, formed, given, gone, has_details, long, no_response, read_value, refused, reply_of, shaped, success_of, too_long}
use Rattle.wire_client.specs.Calls.{Call}
use Rattle.wire_client.specs.Forms.{Path, api_version}
use Rattle.wire_client.specs.declared.buffer.TheConstants.{ANSWER_LEVELS}
use Rattle.far_laws.proofs.PageForms.{OneReading, TextReads}
use Rattle.far_laws.specs.Speaking.{IsShort}
use Rattle.far_laws.proofs.Received.{received_is}

-- ---- why no response comes

abbrev nothing_held : Held
nothing_held = record { bytes = []; request = 0 }

-- the text is above a megabyte, and the client says so
abbrev pub TooMuch : List ℕ → Reply → Type 0
TooMuch text r = (MOST_BODY_BYTES < length text) × (r ≡ long)

other_not_read : (f : WireFault) → IsOtherFault f → f ≡ ReadFault → ⊥
other_not_read f other is = subst IsOtherFault is other

other_not_long : (f : WireFault) (n : ℕ) → IsOtherFault f → f ≡ BodyTooLong n → ⊥
other_not_long f n other is = subst IsOtherFault is other

long_not_read : (n : ℕ) → BodyTooLong n ≡ ReadFault → ⊥
long_not_read n is = cc

module _ (c : ℕ) (text : List ℕ) (has : HasPhrase c) (short : IsShort text) where
  whole_is : says c text true ++ [] ≡ says c text true
  whole_is = append-nil (says c text true)

  lacks : (f : WireFault) → IsLack (says c text true) (Some []) f → IsLack (says c text true ++ []) (Some []) f
  lacks f lack = subst (λ (b : List ℕ). IsLack b (Some []) f) (sym whole_is) lack

  failed : WireFault → Result ResponseParts WireFault
  failed f = Err f

  -- a text of at most a megabyte is received
  few_read : (f : WireFault) → length text ≤ MOST_BODY_BYTES → IsLack (says c text true) (Some []) f → f ≡ ReadFault
  few_read f few lack = gets_it c text [] true nothing_held None (Err f) has few (lacks f lack)

  many_long : (f : WireFault) → MOST_BODY_BYTES < length text → IsLack (says c text true) (Some []) f → (f ≡ BodyTooLong (length text)) ⊎ (f ≡ ReadFault)
  many_long f many lack = too_long_it c text [] true nothing_held None (Err f) has many short (lacks f lack)

  never_other : (f : WireFault) → IsOtherFault f → IsLack (says c text true) (Some []) f → ⊥
  never_other f other lack = by (cases_lt MOST_BODY_BYTES (length text))
    where
      by : (MOST_BODY_BYTES < length text) ⊎ (length text ≤ MOST_BODY_BYTES) → ⊥
      by (inl many) = elim (many_long f many lack) [
        | inl is ↦ other_not_long f (length text) other is
        | inr is ↦ other_not_read f other is
      ]
      by (inr few) = other_not_read f other (few_read f few lack)

  is_long : (n : ℕ) → IsLack (says c text true) (Some []) (BodyTooLong n) → MOST_BODY_BYTES < length text
  is_long n lack = by (cases_lt MOST_BODY_BYTES (length text))
    where
      by : (MOST_BODY_BYTES < length text) ⊎ (length text ≤ MOST_BODY_BYTES) → MOST_BODY_BYTES < length text
      by (inl many) = many
      by (inr few) = absurd (long_not_read n (few_read (BodyTooLong n) few lack))

  -- ---- what is said

  -- what the client takes it for: too much, or a response of that code with the value of the text
  pub data IsSaid (n : Names) (call : Call) (r : Reply) : Type 0 where
    much : TooMuch text r → IsSaid n call r
    whole : (v : Option Json) → IsValue text v → r ≡ reply_of n call (coded c v) → IsSaid n call r

  pub said : (n : Names) (call : Call) (bytes : List ℕ) (r : Reply) → bytes ≡ says c text true → Replies n call (Some bytes) r → IsSaid n call r
  said n call bytes r is replies = by replies.0 (subst (λ (b : List ℕ). IsAnswer b replies.0) is replies.1) replies.2
    where
      by : (a : Answer) → IsAnswer (says c text true) a → r ≡ reply_of n call a → IsSaid n call r
      by too_long lack same = much (is_long lack.0 lack.1, same)
      by no_response lack same = absurd (never_other lack.0 lack.1 lack.2)
      by (coded k v) got same =
          let response : got.0 ≡ replied c text = received_is c text got.1 got.0 has short got.2 in
          let number : k ≡ c = sym got.3 ∙ ap (λ (q : Response). q.code) response in
          whole v (subst (λ (q : Response). IsValue q.body v) response got.4) (same ∙ ap (λ (d : ℕ). reply_of n call (coded d v)) number)

-- ---- a refusal

not_success : (c d : ℕ) → (c ≡ d → ⊥) → (c == d) ≡ false
not_success c d other = by (c == d) refl
  where
    by : (b : Bool) → (c == d) ≡ b → (c == d) ≡ false
    by true test = absurd (other (grind (arith, nat_tests)))
    by false test = test

refused_by : (n : Names) (call : Call) (c : ℕ) (v : Option Json) → (c ≡ success_of call → ⊥) → reply_of n call (coded c v) ≡ formed (api_version n) call (refused c v)
refused_by n call c v other =
    ap (λ (b : Bool). formed (api_version n) call (if b then read_value v else refused c v)) (not_success c (success_of call) other)

-- of another code than that of what isn't found
pub said_code : (n : Names) (call : Call) (bytes text : List ℕ) (c : ℕ) (r : Reply) → HasPhrase c → IsShort text → bytes ≡ says c text true → (c ≡ success_of call → ⊥) → (c ≡ 404 → ⊥)
    → Replies n call (Some bytes) r → TooMuch text r ⊎ (r ≡ code c)
said_code n call bytes text c r has short is no_success no_missing replies = by (said c text has short n call bytes r is replies)
  where
    by : IsSaid c text has short n call r → TooMuch text r ⊎ (r ≡ code c)
    by (much m) = inl m
    by (whole v value same) =
        inr (same ∙ refused_by n call c v no_success
        ∙ ap (λ (b : Bool). formed (api_version n) call (if b && has_details v then gone else code c)) (not_success c 404 no_missing))

-- of the code of what isn't found, whose text has no details
pub said_unfound : (n : Names) (call : Call) (bytes text : List ℕ) (r : Reply) → HasPhrase 404 → IsShort text → bytes ≡ says 404 text true → success_of call ≡ 200
    → ((v : Option Json) → IsValue text v → has_details v ≡ true → ⊥) → Replies n call (Some bytes) r → TooMuch text r ⊎ (r ≡ code 404)
said_unfound n call bytes text r has short is success bare replies = by (said 404 text has short n call bytes r is replies)
  where
    other : 404 ≡ success_of call → ⊥
    other e = let same = e ∙ success in omega (arith, same)

    by_details : (v : Option Json) (b : Bool) → has_details v ≡ b → (has_details v ≡ true → ⊥) → formed (api_version n) call (if b then gone else code 404) ≡ code 404
    by_details v true e none = absurd (none e)
    by_details v false e none = refl

    by : IsSaid 404 text has short n call r → TooMuch text r ⊎ (r ≡ code 404)
    by (much m) = inl m
    by (whole v value same) = inr (same ∙ refused_by n call 404 v other ∙ by_details v (has_details v) refl (bare v value))

-- the same whose text has them
pub said_gone : (n : Names) (call : Call) (bytes text : List ℕ) (r : Reply) → HasPhrase 404 → IsShort text → bytes ≡ says 404 text true → success_of call ≡ 200
    → ((v : Option Json) → IsValue text v → has_details v ≡ true) → Replies n call (Some bytes) r → TooMuch text r ⊎ (r ≡ gone)
said_gone n call bytes text r has short is success detailed replies = by (said 404 text has short n call bytes r is replies)
  where
    other : 404 ≡ success_of call → ⊥
    other e = let same = e ∙ success in omega (arith, same)

    by : IsSaid 404 text has short n call r → TooMuch text r ⊎ (r ≡ gone)
    by (much m) = inl m
    by (whole v value same) =
        inr (same ∙ refused_by n call 404 v other ∙ ap (λ (b : Bool). formed (api_version n) call (if b then gone else code 404)) (detailed v value))

-- ---- a text of a sound document

-- it reads within the levels of an answer
pub reads_within : (j : Json) (text : List ℕ) → TextReads → IsSoundJson j → depth j ≤ ANSWER_LEVELS → IsUtf8 text → text ≡ text_of j → Reads text ANSWER_LEVELS j
reads_within j text text_reads sound levels utf8 is =
    let back = text_reads j sound (omega (arith, levels)) (subst (λ (b : List ℕ). IsUtf8 b) is utf8) in
    subst (λ (b : List ℕ). Reads b ANSWER_LEVELS j) (sym is) (back.0, back.1, (let deep = back.2 in omega (arith, deep, levels)), back.3)

-- and as no other value
pub value_is : (j : Json) (text : List ℕ) (v : Option Json) → TextReads → OneReading → IsSoundJson j → depth j ≤ ANSWER_LEVELS → IsUtf8 text → text ≡ text_of j → IsValue text v → v ≡ Some j
value_is j text None text_reads one_reading sound levels utf8 is value = absurd (value j (reads_within j text text_reads sound levels utf8 is))
value_is j text (Some k) text_reads one_reading sound levels utf8 is value =
    ap (λ (q : Json). Some q) (one_reading text ANSWER_LEVELS ANSWER_LEVELS k j value (reads_within j text text_reads sound levels utf8 is))

-- a success of the form that the client takes
pub said_given : (n : Names) (call : Call) (bytes text : List ℕ) (r : Reply) (j : Json) → HasPhrase 200 → IsShort text → bytes ≡ says 200 text true → success_of call ≡ 200
    → TextReads → OneReading → IsSoundJson j → depth j ≤ ANSWER_LEVELS → IsUtf8 text → text ≡ text_of j → form_fault (api_version n) call j ≡ None
    → Replies n call (Some bytes) r → TooMuch text r ⊎ (r ≡ given j)
said_given n call bytes text r j has short is success text_reads one_reading sound levels utf8 spelled form replies = by (said 200 text has short n call bytes r is replies)
  where
    read : reply_of n call (coded 200 (Some j)) ≡ formed (api_version n) call (given j)
    read = ap (λ (s : ℕ). formed (api_version n) call (if 200 == s then given j else refused 200 (Some j))) success

    by : IsSaid 200 text has short n call r → TooMuch text r ⊎ (r ≡ given j)
    by (much m) = inl m
    by (whole v value same) =
        let is_j : v ≡ Some j = value_is j text v text_reads one_reading sound levels utf8 spelled value in
        inr (same ∙ ap (λ (w : Option Json). reply_of n call (coded 200 w)) is_j ∙ read ∙ ap (λ (o : Option Path). shaped o j) form)
