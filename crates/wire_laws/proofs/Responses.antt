-- What a server writes is received as the response that it meant.
use Rattle.std.proofs.Common.{◌≡◌, ◌∙◌, refl, sym, ap, subst, inl, inr, ℕ, ◌+◌, ◌-◌, ◌^◌, ◌<◌, ◌≤◌, Bool, List, [], ◌++◌, length, take, map, decimal, Option, Some, Result, Ok, Err, arith, append_assoc, length-append}
use Rattle.std.specs.Prelude.{◌⊎◌, ◌==◌}
use Rattle.std.specs.Char.{is_ascii_digit}
use Rattle.std.proofs.Math.Seq.{drop-append_seam, take-append_seam}
use Rattle.std.proofs.lemmas.List.{append-nil}
use Rattle.std.proofs.lemmas.Fmt.{length-decimal-le}
use Rattle.httparse.specs.Grammar.{IsResponseHead, ReadsResponse, ResponseHead, print_response}
use Rattle.httparse.specs.Spans.{name_and_value}
use Rattle.httparse.proofs.GrammarLemmas.{response_unique}
use Rattle.http_wire.specs.declared.limits.TheConstants.{MOST_BODY_BYTES, MOST_FIELDS, MOST_HEAD_BYTES}
use Rattle.http_wire.specs.declared.ResponseParts.{ResponseParts}
use Rattle.http_wire.specs.declared.WireFault.{WireFault}
use Rattle.http_wire.specs.declared.WireFault.TheVariants.{BadHead, BodyTooLong, Closed, HeadTooLong, LengthRequired, ReadFault, Torn}
use Rattle.http_wire.specs.Fields.{within_most}
use Rattle.http_wire.specs.Head.{window}
use Rattle.http_wire.specs.Inboxes.{Held}
use Rattle.http_wire.specs.Received.{FaultyResponse, IsBadStatus, IsLack, IsPartOfResponse, IsStatusHead, Received, Receives, Response, length_after, response_at, response_of}
use Rattle.http_wire.specs.Response.{HasPhrase, method_not_allowed, phrase, says}
use Rattle.http_wire.proofs.ReceivingLemmas.{open_no_head, print_some, response_one, window_head}
use Rattle.http_wire.proofs.StatusLemmas.{head_long}
use Rattle.wire_laws.specs.Sendable.{IsGot, IsTooLong, replied}
use Rattle.wire_laws.proofs.Digits.{all_digits, passes, raw_bytes}
use Rattle.wire_laws.proofs.Heads.{code_is, few_lines, head_of, response_bytes, response_encodings, response_lengths, response_lines, response_lines_are, short_head, three_digits}
use Rattle.wire_laws.proofs.Phrases.{phrase_fits}
use Rattle.wire_laws.proofs.Requests.{accepted, declared, refused}

-- ---- the head

head_is : (code len : ℕ) (closing : Bool) → HasPhrase code → len < 10 ^ 18 → IsResponseHead (head_of code len closing)
unfolding HasPhrase
head_is code len closing has small =
    let least : 100 ≤ code = has.0.0 in
    let most : code < 1000 = has.0.1 in
    record {
      minor = omega arith;
      digits = (three_digits code least most, passes is_ascii_digit (decimal code) (all_digits code (omega arith)));
      reason = (phrase_fits code most).1;
      fields = response_lines_are (code == method_not_allowed) (decimal len) closing (raw_bytes len (omega arith));
    }

-- the head of what is written, and the body and what follows behind it
head_read : (code : ℕ) (body rest : List ℕ) (closing : Bool) → HasPhrase code → length body < 10 ^ 18
    → IsStatusHead (says code body closing ++ rest) (head_of code (length body) closing) (body ++ rest)
unfolding HasPhrase
head_read code body rest closing has small =
    let h = head_of code (length body) closing in
    let digits : length (decimal (length body)) ≤ 18 = length-decimal-le 18 (length body) (omega arith) small (omega arith) in
    record {
      reads = (head_is code (length body) closing has small, ap (λ (xs : List ℕ). xs ++ rest) (response_bytes code body closing) ∙ append_assoc (print_response h) body rest);
      few = omega (arith, few_lines (code == method_not_allowed) (decimal (length body)) closing);
      short = short_head (decimal code) (phrase code) (code == method_not_allowed) (decimal (length body)) closing (three_digits code has.0.0 has.0.1) (phrase_fits code has.0.1).0 digits;
    }

length_read : (code len : ℕ) (closing : Bool) → len < 10 ^ 18 → length_after (head_of code len closing) ≡ within_most (Some len)
length_read code len closing small =
    let bare = code == method_not_allowed in
    declared (map name_and_value (response_lines bare (decimal len) closing)) (Err LengthRequired) len (response_encodings bare (decimal len) closing)
    (response_lengths bare (decimal len) closing) small

-- ---- the response

pub receives_it : (code : ℕ) (body rest : List ℕ) (closing : Bool) → HasPhrase code → length body ≤ MOST_BODY_BYTES
    → Receives (says code body closing ++ rest) (replied code body) rest
unfolding Receives HasPhrase
receives_it code body rest closing has few =
    let h = head_of code (length body) closing in
    let small : length body < 10 ^ 18 = omega arith in (
      h,
      body ++ rest,
      length body,
      head_read code body rest closing has small,
      length_read code (length body) closing small ∙ accepted (length body) few,
      omega (arith, length-append body rest),
      ap (λ (n : ℕ). replied n body) (sym (code_is code has.0.1)) ∙ ap (λ (xs : List ℕ). response_of h xs) (sym (take-append_seam body rest)),
      sym (drop-append_seam body rest),
    )

pub faulty_it : (code : ℕ) (body rest : List ℕ) (closing : Bool) → HasPhrase code → MOST_BODY_BYTES < length body → length body < 10 ^ 18
    → FaultyResponse (says code body closing ++ rest) (BodyTooLong (length body))
unfolding FaultyResponse
faulty_it code body rest closing has many small = inr (
  head_of code (length body) closing,
  body ++ rest,
  head_read code body rest closing has small,
  length_read code (length body) closing small ∙ refused (length body) many,
)

-- ---- why no response comes where a head stands

bad_no_head : (b : List ℕ) (f : WireFault) (h : ResponseHead) (tail : List ℕ) → IsBadStatus b f → IsStatusHead b h tail → ⊥
bad_no_head b BadHead h tail bad head =
    let w = window_head b h tail head in
    let behind = take (MOST_HEAD_BYTES - length (print_response h)) tail in
    let more : ReadsResponse (window b ++ []) h behind = subst (λ (xs : List ℕ). ReadsResponse xs h behind) (sym (append-nil (window b))) w in
    let many : MOST_FIELDS < length h.fields = bad [] h behind more in
    omega (arith, head.few)
bad_no_head b HeadTooLong h tail bad head = open_no_head b h tail bad.1 head
bad_no_head b LengthRequired h tail bad head = bad
bad_no_head b (BodyTooLong n) h tail bad head = bad
bad_no_head b Closed h tail bad head = bad
bad_no_head b (Torn held) h tail bad head = bad
bad_no_head b ReadFault h tail bad head = bad

faulty_by : (b : List ℕ) (f : WireFault) (h : ResponseHead) (tail : List ℕ) → IsStatusHead b h tail → FaultyResponse b f → length_after h ≡ Err f
unfolding FaultyResponse
faulty_by b f h tail head faulty = elim faulty [
  | inl bad ↦ absurd (bad_no_head b f h tail bad head)
  | inr is ↦ ap length_after (response_unique b h is.0 tail is.1 head.reads is.2.reads).0 ∙ is.3
]

nil_no_head : (b : List ℕ) (h : ResponseHead) (tail : List ℕ) → IsStatusHead b h tail → b ≡ [] → ⊥
nil_no_head b h tail head none =
    let long = head_long b h tail head in
    let some = print_some h in
    let e : length b ≡ 0 = ap (λ (xs : List ℕ). length xs) none in
    omega arith

-- fewer bytes stand behind the head than it says
IsCut : ResponseHead → List ℕ → Type 0
IsCut h tail = (n : ℕ) × (length_after h ≡ Ok n) × (length tail < n)

cut : (b : List ℕ) (h : ResponseHead) (tail : List ℕ) → IsStatusHead b h tail → IsPartOfResponse b → IsCut h tail
unfolding IsPartOfResponse IsCut
cut b h tail head part = elim part [
  | inl open_ ↦ absurd (open_.1.0 h tail head.reads)
  | inr is ↦
      let same = response_unique b h is.0 tail is.1 head.reads is.3.reads in
      (is.2, ap length_after same.0 ∙ is.4, subst (λ (xs : List ℕ). length xs < is.2) (sym same.1) is.5)
]

Why : ResponseHead → List ℕ → WireFault → Type 0
Why h tail f = (f ≡ ReadFault) ⊎ ((length_after h ≡ Err f) ⊎ IsCut h tail)

why : (b : List ℕ) (h : ResponseHead) (tail : List ℕ) (f : WireFault) → IsStatusHead b h tail → IsLack b (Some []) f → Why h tail f
unfolding Why
why b h tail ReadFault head lack = inl refl
why b h tail Closed head lack = absurd (nil_no_head b h tail head lack.0)
why b h tail (Torn n) head lack = inr (inr (cut b h tail head lack.2))
why b h tail BadHead head lack = inr (inl (faulty_by b BadHead h tail head lack))
why b h tail HeadTooLong head lack = inr (inl (faulty_by b HeadTooLong h tail head lack))
why b h tail LengthRequired head lack = inr (inl (faulty_by b LengthRequired h tail head lack))
why b h tail (BodyTooLong n) head lack = inr (inl (faulty_by b (BodyTooLong n) h tail head lack))

whole_why : (h : ResponseHead) (tail : List ℕ) (f : WireFault) (n : ℕ) → length_after h ≡ Ok n → n ≤ length tail → Why h tail f → f ≡ ReadFault
unfolding Why IsCut
whole_why h tail f n is fits y = elim y [
  | inl read ↦ read
  | inr other ↦ elim other [
    | inl fault ↦ let e : Ok n ≡ Err f = sym is ∙ fault in cc
    | inr short ↦
        let e : Ok n ≡ Ok short.0 = sym is ∙ short.1 in
        let same : n ≡ short.0 = cc in
        absurd (omega (arith, short.2))
  ]
]

long_why : (h : ResponseHead) (tail : List ℕ) (f : WireFault) (n : ℕ) → length_after h ≡ Err (BodyTooLong n) → Why h tail f → (f ≡ BodyTooLong n) ⊎ (f ≡ ReadFault)
unfolding Why IsCut
long_why h tail f n is y = elim y [
  | inl read ↦ inr read
  | inr other ↦ elim other [
    | inl fault ↦ let e : Err (BodyTooLong n) ≡ Err f = sym is ∙ fault in let same : f ≡ BodyTooLong n = cc in inl same
    | inr short ↦ let e : Err (BodyTooLong n) ≡ Ok short.0 = sym is ∙ short.1 in cc
  ]
]

-- ---- what a reading gives

gets : (b rest : List ℕ) (r : Response) (i : Held) (left : Option (List ℕ)) (result : Result ResponseParts WireFault) → Receives b r rest → Received b i left result
    → IsGot r rest i left result
unfolding Receives
gets b rest r i left (Ok p) receives received =
    let same = response_one b (response_at i.bytes p) r received.0 rest received.2 receives in
    (same.0, received.1 ∙ ap (λ (xs : List ℕ). Some xs) same.1)
gets b rest r i left (Err f) receives received =
    whole_why receives.0 receives.1 f receives.2 receives.4 receives.5 (why b receives.0 receives.1 f receives.3 received)

pub gets_it : (code : ℕ) (body rest : List ℕ) (closing : Bool) (i : Held) (left : Option (List ℕ)) (result : Result ResponseParts WireFault)
    → HasPhrase code → length body ≤ MOST_BODY_BYTES → Received (says code body closing ++ rest) i left result → IsGot (replied code body) rest i left result
gets_it code body rest closing i left result has few received =
    gets (says code body closing ++ rest) rest (replied code body) i left result (receives_it code body rest closing has few) received

too_long : (b : List ℕ) (h : ResponseHead) (tail : List ℕ) (n : ℕ) (i : Held) (left : Option (List ℕ)) (result : Result ResponseParts WireFault)
    → IsStatusHead b h tail → length_after h ≡ Err (BodyTooLong n) → Received b i left result → IsTooLong n result
unfolding Receives
too_long b h tail n i left (Ok p) head is received =
    let reads = received.2 in
    let same = response_unique b h reads.0 tail reads.1 head.reads reads.3.reads in
    let e : Err (BodyTooLong n) ≡ Ok reads.2 = sym is ∙ ap length_after same.0 ∙ reads.4 in
    cc
too_long b h tail n i left (Err f) head is received = long_why h tail f n is (why b h tail f head received)

pub too_long_it : (code : ℕ) (body rest : List ℕ) (closing : Bool) (i : Held) (left : Option (List ℕ)) (result : Result ResponseParts WireFault)
    → HasPhrase code → MOST_BODY_BYTES < length body → length body < 10 ^ 18 → Received (says code body closing ++ rest) i left result → IsTooLong (length body) result
too_long_it code body rest closing i left result has many small received =
    too_long (says code body closing ++ rest) (head_of code (length body) closing) (body ++ rest) (length body) i left result (head_read code body rest closing has small)
    (length_read code (length body) closing small ∙ refused (length body) many) received
