-- What a client writes is read as the request that it meant.
use Rattle.std.proofs.Common.{◌≡◌, ◌∙◌, refl, sym, ap, inl, inr, ℕ, ◌+◌, ◌-◌, ◌^◌, ◌<◌, ◌≤◌, Bool, true, false, nat_le, ◌||◌, List, [], ◌∷◌, ◌++◌, length, take, drop, map, get_or, codes, decimal, Option, Some, Result, Ok, Err, arith, append_assoc, length-append}
use Rattle.std.specs.List.{list_any}
use Rattle.std.specs.Io.KnownBytes.{prepend_known}
use Rattle.std.proofs.Math.Seq.{drop-append_seam, take-append_seam}
use Rattle.std.proofs.lemmas.Bool.{MatchBool-at_true, cases_lt, cond-false, cond-true, le-leb, lt-leb}
use Rattle.std.proofs.lemmas.Bool.Decides.{nat_tests}
use Rattle.std.proofs.lemmas.List.{get_or_past}
use Rattle.std.proofs.lemmas.Fmt.{length-decimal-le}
use Rattle.std.proofs.lemmas.Str.{IsUtf8-from_ascii}
use Rattle.httparse.specs.Grammar.{AllPass, IsRequestHead, is_uri_byte, print_request, trim_ows}
use Rattle.httparse.specs.Spans.{name_and_value}
use Rattle.http_wire.specs.declared.limits.TheConstants.{MOST_BODY_BYTES, MOST_HEAD_BYTES}
use Rattle.http_wire.specs.declared.RequestParts.{RequestParts}
use Rattle.http_wire.specs.declared.WireFault.{WireFault}
use Rattle.http_wire.specs.declared.WireFault.TheVariants.{BadHead, BodyTooLong, Closed, HeadTooLong, LengthRequired, ReadFault, Torn}
use Rattle.http_wire.specs.laws.Asking.{asks_last}
use Rattle.http_wire.specs.Fields.{Fields, absent_length, asks_closing, body_by, body_or, has_close, length_in, values, within_most}
use Rattle.http_wire.specs.Head.{Faulty, IsHead, Reads, Request, body_after, closes, request_of}
use Rattle.http_wire.specs.Inboxes.{Asked, EndsBy, Held, request_at}
use Rattle.http_wire.specs.Requesting.{asks_for, closing_lines, host_and_type, request_line}
use Rattle.http_wire.specs.Response.{length_field}
use Rattle.http_wire.specs.Stream.{Asks, End, closing}
use Rattle.http_wire.proofs.Unique.{reads_one, stops_no}
use Rattle.wire_laws.specs.Sendable.{IsSendable, IsTaken, is_visible, sent}
use Rattle.wire_laws.proofs.Digits.{length_is, raw_bytes, trimmed}
use Rattle.wire_laws.proofs.Heads.{request_bytes, request_connections, request_encodings, request_head, request_lengths, request_lines, request_lines_are}

-- ---- the length that the fields give

-- the one length of a list of fields
pub declared : (fs : Fields) (absent : Result ℕ WireFault) (n : ℕ) → values (codes "transfer-encoding") fs ≡ [] → values (codes "content-length") fs ≡ trim_ows (32 ∷ decimal n) ∷ []
    → n < 10 ^ 18 → body_or fs absent ≡ within_most (Some n)
unfolding body_or
declared fs absent n none one small =
    ap (λ (es : List (List ℕ)). body_by es (values (codes "content-length") fs) absent) none ∙ ap (λ (ls : List (List ℕ)). body_by [] ls absent) one
    ∙ ap (λ (v : List ℕ). within_most (length_in v)) (trimmed n (omega arith)) ∙ ap within_most (length_is n small)

pub accepted : (n : ℕ) → n ≤ MOST_BODY_BYTES → within_most (Some n) ≡ Ok n
accepted n few = cond-true (nat_le n MOST_BODY_BYTES) (Ok n) (Err (BodyTooLong n)) (le-leb n MOST_BODY_BYTES few)

pub refused : (n : ℕ) → MOST_BODY_BYTES < n → within_most (Some n) ≡ Err (BodyTooLong n)
refused n many = cond-false (nat_le n MOST_BODY_BYTES) (Ok n) (Err (BodyTooLong n)) (lt-leb n MOST_BODY_BYTES many)

-- ---- the head

uri_byte : (b : ℕ) → is_visible b ≡ true → is_uri_byte b ≡ true
uri_byte b is = grind (arith, nat_tests)

ascii_byte : (b : ℕ) → is_visible b ≡ true → b < 128
ascii_byte b is = grind (arith, nat_tests)

ascii : (target : List ℕ) → AllPass is_visible target → (i : ℕ) → get_or target i 0 < 128
ascii target visible i = elim (cases_lt i (length target)) [
  | inl inside ↦ ascii_byte (get_or target i 0) (visible i 0 inside)
  | inr outside ↦ rw (get_or_past target i 0 outside) (omega arith)
]

head_is : (method target body : List ℕ) → IsSendable method target body → length body < 10 ^ 18 → IsRequestHead (request_head method target (decimal (length body)))
head_is method target body s small = record {
  method = s.token;
  target = (s.some, λ k d inside. uri_byte (get_or target k d) (s.visible k d inside));
  target_text = IsUtf8-from_ascii target (ascii target s.visible);
  minor = omega arith;
  fields = request_lines_are (decimal (length body)) (raw_bytes (length body) (omega arith));
}

-- the head of what is written, and the body and what follows behind it
head_read : (method target body rest : List ℕ) → IsSendable method target body → length body < 10 ^ 18
    → IsHead (asks_for method target body ++ rest) (request_head method target (decimal (length body))) (body ++ rest)
head_read method target body rest s small =
    let h = request_head method target (decimal (length body)) in
    let long : length (asks_for method target body) ≡ length (print_request h) + length body =
    ap (λ (xs : List ℕ). length xs) (request_bytes method target body) ∙ length-append (print_request h) body in
    record {
      reads = (head_is method target body s small, ap (λ (xs : List ℕ). xs ++ rest) (request_bytes method target body) ∙ append_assoc (print_request h) body rest);
      few = omega arith;
      short = omega (arith, s.head);
    }

body_is : (method target : List ℕ) (n : ℕ) → n < 10 ^ 18 → body_after (request_head method target (decimal n)) ≡ within_most (Some n)
body_is method target n small =
    declared (map name_and_value (request_lines (decimal n))) (absent_length method) n (request_encodings (decimal n)) (request_lengths (decimal n)) small

asks_to_close : has_close (trim_ows (codes " close")) ≡ true
unfolding has_close trim_ows
asks_to_close = refl

closes_it : (method target number : List ℕ) → closes (request_head method target number) ≡ true
unfolding asks_closing
closes_it method target number =
    ap (λ (vs : List (List ℕ)). list_any has_close vs) (request_connections number) ∙ ap (λ (b : Bool). b || false) asks_to_close

-- ---- the request

abbrev asking : List ℕ → List ℕ → List ℕ → Bool → Request
asking method target body closing_ = record { method = method; target = target; body = body; closing = closing_ }

pub reads_it : (method target body rest : List ℕ) → IsSendable method target body → length body ≤ MOST_BODY_BYTES
    → Reads (asks_for method target body ++ rest) (sent method target body) rest
unfolding Reads
reads_it method target body rest s few =
    let h = request_head method target (decimal (length body)) in
    let small : length body < 10 ^ 18 = omega arith in (
      h,
      body ++ rest,
      length body,
      head_read method target body rest s small,
      body_is method target (length body) small ∙ accepted (length body) few,
      omega (arith, length-append body rest),
      ap (λ (c : Bool). asking method target body c) (sym (closes_it method target (decimal (length body))))
          ∙ ap (λ (xs : List ℕ). request_of h xs) (sym (take-append_seam body rest)),
      sym (drop-append_seam body rest),
    )

pub spells_it : (budget : ℕ) (method target body rest : List ℕ) → IsSendable method target body → length body ≤ MOST_BODY_BYTES → 0 < budget
    → Asks budget (asks_for method target body ++ rest) (sent method target body ∷ []) closing
spells_it budget method target body rest s few some =
    asks_last budget (asks_for method target body ++ rest) rest (sent method target body) some (reads_it method target body rest s few) refl

-- a request that asks for closing is the only one of its bytes
only : (budget : ℕ) (b rest : List ℕ) (r : Request) (rs : List Request) (end : End) → 0 < budget → Reads b r rest → r.closing ≡ true → Asks budget b rs end
    → (rs ≡ r ∷ []) × (end ≡ closing)
unfolding Asks
only budget b rest r [] end some reads closes_ asks = absurd (stops_no budget b end r rest some asks reads)
only budget b rest r (q ∷ qs) end some reads closes_ asks =
    let same = reads_one b q r asks.1 rest asks.2 reads in
    let last = MatchBool-at_true ((qs ≡ []) × (end ≡ closing)) (Asks (budget - 1) asks.1 qs end) (ap (λ (u : Request). u.closing) same.0 ∙ closes_) asks.3 in
    (ap (λ (u : Request). u ∷ qs) same.0 ∙ ap (λ (us : List Request). r ∷ us) last.0, last.1)

pub alone : (budget : ℕ) (method target body rest : List ℕ) (rs : List Request) (end : End) → IsSendable method target body → length body ≤ MOST_BODY_BYTES
    → 0 < budget → Asks budget (asks_for method target body ++ rest) rs end → (rs ≡ sent method target body ∷ []) × (end ≡ closing)
alone budget method target body rest rs end s few some asks =
    only budget (asks_for method target body ++ rest) rest (sent method target body) rs end some (reads_it method target body rest s few) refl asks

-- no end is answered where a request stands
no_end : (b rest : List ℕ) (r : Request) (f : WireFault) → Reads b r rest → EndsBy b f → f ≡ ReadFault
no_end b rest r ReadFault reads ends = refl
no_end b rest r Closed reads ends = absurd (stops_no 1 b _ r rest (omega arith) (ends 1 (omega arith)) reads)
no_end b rest r (Torn n) reads ends = absurd (stops_no 1 b _ r rest (omega arith) (ends 1 (omega arith)) reads)
no_end b rest r BadHead reads ends = absurd (stops_no 1 b _ r rest (omega arith) (ends 1 (omega arith)) reads)
no_end b rest r HeadTooLong reads ends = absurd (stops_no 1 b _ r rest (omega arith) (ends 1 (omega arith)) reads)
no_end b rest r LengthRequired reads ends = absurd (stops_no 1 b _ r rest (omega arith) (ends 1 (omega arith)) reads)
no_end b rest r (BodyTooLong n) reads ends = absurd (stops_no 1 b _ r rest (omega arith) (ends 1 (omega arith)) reads)

taken : (b rest : List ℕ) (r : Request) (i : Held) (left : Option (List ℕ)) (result : Result RequestParts WireFault) → Reads b r rest → Asked b i left result
    → IsTaken r rest i left result
taken b rest r i left (Ok p) reads asked =
    let same = reads_one b (request_at i.bytes p) r asked.0 rest asked.2 reads in
    (same.0, asked.1 ∙ ap (λ (xs : List ℕ). Some xs) same.1)
taken b rest r i left (Err f) reads asked = no_end b rest r f reads asked

pub takes_it : (method target body rest : List ℕ) (i : Held) (left : Option (List ℕ)) (result : Result RequestParts WireFault) → IsSendable method target body
    → length body ≤ MOST_BODY_BYTES → Asked (asks_for method target body ++ rest) i left result → IsTaken (sent method target body) rest i left result
takes_it method target body rest i left result s few asked =
    taken (asks_for method target body ++ rest) rest (sent method target body) i left result (reads_it method target body rest s few) asked

pub refuses_it : (method target body rest : List ℕ) → IsSendable method target body → MOST_BODY_BYTES < length body → length body < 10 ^ 18
    → Faulty (asks_for method target body ++ rest) (BodyTooLong (length body))
unfolding Faulty
refuses_it method target body rest s many small = inr (
  request_head method target (decimal (length body)),
  body ++ rest,
  head_read method target body rest s small,
  body_is method target (length body) small ∙ refused (length body) many,
)

-- ---- how long it is

pub short_enough : (method target body : List ℕ) → length method + length target ≤ 16_278 → length body ≤ MOST_BODY_BYTES
    → length (asks_for method target body) ≤ MOST_HEAD_BYTES + length body
unfolding asks_for request_line host_and_type length_field closing_lines
short_enough method target body short few =
    let digits : length (decimal (length body)) ≤ 7 = length-decimal-le 7 (length body) (omega arith) (omega arith) (omega arith) in
    simp length-append (omega arith)
