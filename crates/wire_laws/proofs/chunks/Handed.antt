-- A head with a length in a field's place, and what it is read as.
use Rattle.std.proofs.Common.{◌≡◌, ℕ, zero, suc, ◌+◌, ◌-◌, ◌<◌, ◌≤◌, false, IsTrue, List, [], ◌∷◌, ◌++◌, length, take, drop, map, refl, sym, ap, ◌∙◌, arith, codes, decimal, Ok, length-append, length-drop, length-take-le, get_or-take, get_or-drop, take_all}
use Rattle.std.specs.Char.{is_ascii_digit}
use Rattle.std.proofs.lemmas.List.{map-append, length-map, drop_all}
use Rattle.std.proofs.lemmas.List.Elements.{All-take, All-drop, All-append, All-cons, All-weaker}
use Rattle.std.proofs.lemmas.List.Sums.{AllPass-from_list_all}
use Rattle.httparse.specs.Grammar.{ResponseHead, IsResponseHead, print_response, status_code, Field, IsField, IsToken, is_token_byte, is_value_byte}
use Rattle.httparse.specs.Spans.{name_and_value}
use Rattle.http_wire.specs.declared.limits.TheConstants.{MOST_BODY_BYTES, MOST_HEAD_BYTES}
use Rattle.http_wire.specs.Fields.{values, body_or, body_of_response}
use Rattle.http_wire.specs.Received.{Receives}
use Rattle.chunked_bodies.specs.Chunks.{content}
use Rattle.chunked_bodies.specs.Response.{Pair, at, frames, IsChunkedAt, length_line, head_with_length, ChunkedResponse, ReadsChunked, with_length}
use Rattle.wire_laws.proofs.chunks.Fields.{HasNone, values_none, values_behind, neither}
use Rattle.wire_laws.proofs.chunks.Lengths.{trimmed, length_is, within_body, value_bytes, digit_is_value}

-- ---- the fields

abbrev transfer_encoding : List ℕ
transfer_encoding = codes "transfer-encoding"

abbrev content_length : List ℕ
content_length = codes "content-length"

-- the field's name and value
pair_is : (n : ℕ) → n ≤ MOST_BODY_BYTES → name_and_value (length_line n) ≡ (codes "Content-Length", decimal n)
pair_is n few = ap (λ (v : List ℕ). (codes "Content-Length", v)) (trimmed n few)

before_none : (ps : List Pair) (k : ℕ) → IsChunkedAt ps k → (i : ℕ) → i < length (take k ps) → frames (at (take k ps) i) ≡ false
before_none ps k is i inside =
    let long : length (take k ps) ≡ k = length-take-le k ps (omega (arith, is.within)) in
    ap frames (get_or-take k ps i ([], []) (omega (arith, inside, long))) ∙ is.only i (omega (arith, inside, long, is.within)) (λ e. omega (arith, inside, long, e))

behind_none : (ps : List Pair) (k : ℕ) → IsChunkedAt ps k → (i : ℕ) → i < length (drop (k + 1) ps) → frames (at (drop (k + 1) ps) i) ≡ false
behind_none ps k is i inside =
    let long = length-drop (k + 1) ps in
    ap frames (get_or-drop (k + 1) ps i ([], [])) ∙ is.only ((k + 1) + i) (omega (arith, inside, long)) (λ e. omega (arith, e))

-- no field of a list of which none says how the body ends is of one of the two names
none_coding : (ps : List Pair) → ((i : ℕ) → i < length ps → frames (at ps i) ≡ false) → HasNone transfer_encoding ps
none_coding ps none = λ i inside. (neither (at ps i) (none i inside)).0

none_length : (ps : List Pair) → ((i : ℕ) → i < length ps → frames (at ps i) ≡ false) → HasNone content_length ps
none_length ps none = λ i inside. (neither (at ps i) (none i inside)).1

codings : (ps qs : List Pair) (v : List ℕ) → ((i : ℕ) → i < length ps → frames (at ps i) ≡ false) → ((i : ℕ) → i < length qs → frames (at qs i) ≡ false)
    → values transfer_encoding (ps ++ (codes "Content-Length", v) ∷ qs) ≡ []
unfolding values
codings ps qs v before behind =
    values_behind transfer_encoding ps ((codes "Content-Length", v) ∷ qs) (none_coding ps before) ∙ other qs v ∙ values_none transfer_encoding qs (none_coding qs behind)
  where
    other : (qs : List Pair) (v : List ℕ) → values transfer_encoding ((codes "Content-Length", v) ∷ qs) ≡ values transfer_encoding qs
    other qs v = refl

lengths : (ps qs : List Pair) (v : List ℕ) → ((i : ℕ) → i < length ps → frames (at ps i) ≡ false) → ((i : ℕ) → i < length qs → frames (at qs i) ≡ false)
    → values content_length (ps ++ (codes "Content-Length", v) ∷ qs) ≡ v ∷ []
unfolding values
lengths ps qs v before behind =
    values_behind content_length ps ((codes "Content-Length", v) ∷ qs) (none_length ps before) ∙ here qs v ∙ ap (λ (vs : List (List ℕ)). v ∷ vs) (values_none content_length qs (none_length qs behind))
  where
    here : (qs : List Pair) (v : List ℕ) → values content_length ((codes "Content-Length", v) ∷ qs) ≡ v ∷ values content_length qs
    here qs v = refl

body_is : (ps qs : List Pair) (n : ℕ) → n ≤ MOST_BODY_BYTES → ((i : ℕ) → i < length ps → frames (at ps i) ≡ false) → ((i : ℕ) → i < length qs → frames (at qs i) ≡ false)
    → body_of_response (ps ++ (codes "Content-Length", decimal n) ∷ qs) ≡ Ok n
unfolding body_or
body_is ps qs n few before behind =
    rw (codings ps qs (decimal n) before behind, lengths ps qs (decimal n) before behind, length_is n few, within_body n few) refl

-- ---- the head

name_is : IsToken (codes "Content-Length")
unfolding is_token_byte
name_is = (omega arith, AllPass-from_list_all is_token_byte (codes "Content-Length") refl)

value_of_digit : (b : ℕ) → IsTrue (is_ascii_digit b) → IsTrue (is_value_byte b)
value_of_digit b is = digit_is_value b is

line_is : (n : ℕ) → n ≤ MOST_BODY_BYTES → IsField (length_line n)
line_is n few = record {
  name = name_is;
  raw = All-cons (λ b. IsTrue (is_value_byte b)) 32 (decimal n) refl
      (All-weaker (λ b. IsTrue (is_ascii_digit b)) (λ b. IsTrue (is_value_byte b)) value_of_digit (decimal n) (AllPass-from_list_all is_ascii_digit (decimal n) (value_bytes n few)));
}

head_is : (h : ResponseHead) (k n : ℕ) → n ≤ MOST_BODY_BYTES → IsResponseHead h → IsResponseHead (head_with_length h k n)
head_is h k n few is = record {
  minor = is.minor;
  digits = is.digits;
  reason = is.reason;
  fields = All-append IsField (take k h.fields) (length_line n ∷ drop (k + 1) h.fields) (All-take IsField k h.fields is.fields)
      (All-cons IsField (length_line n) (drop (k + 1) h.fields) (line_is n few) (All-drop IsField (k + 1) h.fields is.fields));
}

few_fields : (h : ResponseHead) (k n : ℕ) → k < length h.fields → length (head_with_length h k n).fields ≡ length h.fields
few_fields h k n within =
    let all = length-append (take k h.fields) (length_line n ∷ drop (k + 1) h.fields) in
    let front = length-take-le k h.fields (omega (arith, within)) in
    let back = length-drop (k + 1) h.fields in
    omega (arith, all, front, back, within)

fields_are : (h : ResponseHead) (k n : ℕ) → n ≤ MOST_BODY_BYTES
    → map name_and_value (head_with_length h k n).fields ≡ take k (map name_and_value h.fields) ++ (codes "Content-Length", decimal n) ∷ drop (k + 1) (map name_and_value h.fields)
fields_are h k n few =
    map-append name_and_value (take k h.fields) (length_line n ∷ drop (k + 1) h.fields)
    ∙ ap (λ (p : Pair). map name_and_value (take k h.fields) ++ p ∷ map name_and_value (drop (k + 1) h.fields)) (pair_is n few)
    ∙ ap (λ (ps : List Pair). ps ++ (codes "Content-Length", decimal n) ∷ map name_and_value (drop (k + 1) h.fields)) (sym (take-map k h.fields))
    ∙ ap (λ (ps : List Pair). take k (map name_and_value h.fields) ++ (codes "Content-Length", decimal n) ∷ ps) (sym (drop-map (k + 1) h.fields))
  where
    take-map : (k : ℕ) (fs : List Field) → take k (map name_and_value fs) ≡ map name_and_value (take k fs)
    take-map zero fs = refl
    take-map (suc k) [] = refl
    take-map (suc k) (f ∷ fs) = ap (λ (ps : List Pair). name_and_value f ∷ ps) (take-map k fs)

    drop-map : (k : ℕ) (fs : List Field) → drop k (map name_and_value fs) ≡ map name_and_value (drop k fs)
    drop-map zero fs = refl
    drop-map (suc k) [] = refl
    drop-map (suc k) (f ∷ fs) = drop-map k fs

pub joined_read : (bytes rest : List ℕ) (r : ChunkedResponse) → ReadsChunked bytes r rest
    → length (print_response (head_with_length r.head r.coding (length (content r.body)))) ≤ MOST_HEAD_BYTES
    → length (content r.body) ≤ MOST_BODY_BYTES
    → Receives (with_length r) (record { code = status_code r.head; body = content r.body }) []
unfolding Receives
joined_read bytes rest r reads short few =
    let h = r.head in
    let k = r.coding in
    let n = length (content r.body) in
    let ps = map name_and_value h.fields in
    let coding = reads.chunked.coding in
    let within : k < length h.fields = omega (arith, coding.within, length-map h.fields name_and_value) in (
      head_with_length h k n,
      content r.body,
      n,
      record {
        reads = (head_is h k n few reads.reads.0, refl);
        few = omega (arith, few_fields h k n within, reads.chunked.few);
        short = short;
      },
      ap body_of_response (fields_are h k n few) ∙ body_is (take k ps) (drop (k + 1) ps) n few (before_none ps k coding) (behind_none ps k coding),
      omega arith,
      ap (λ (body : List ℕ). record { code = status_code h; body = body }) (sym (take_all n (content r.body) (omega arith))),
      sym (drop_all n (content r.body) (omega arith)),
    )
