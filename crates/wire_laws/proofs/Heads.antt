-- The heads that the writers write, as heads of the grammar.
use Rattle.std.proofs.Common.{◌≡◌, ◌∙◌, refl, sym, ap, ℕ, ◌+◌, ◌/◌, ◌%◌, ◌^◌, ◌<◌, ◌≤◌, Bool, true, false, List, [], ◌∷◌, ◌++◌, length, map, codes, decimal, Option, Some, IsTrue, All, append_assoc, length-append, arith}
use Rattle.std.specs.Prelude.{if◌then◌else◌, ◌==◌}
use Rattle.std.specs.List.{flat_map}
use Rattle.std.specs.Str.Parse.{digits_value}
use Rattle.std.proofs.lemmas.List.{append-nil}
use Rattle.std.proofs.lemmas.List.Elements.{All-cons, All-nil}
use Rattle.std.proofs.lemmas.Fmt.{decimal_digit, decimal_step, decimal_is_IsNumeral}
use Rattle.httparse.specs.Grammar.{AllPass, Field, IsField, IsRequestHead, IsResponseHead, RequestHead, ResponseHead, crlf, is_token_byte, is_value_byte, print_field, print_request, print_response, print_section, trim_ows}
use Rattle.httparse.specs.Spans.{name_and_value}
use Rattle.httparse.proofs.GrammarLemmas.{print_request-append, print_response-append}
use Rattle.http_wire.specs.Fields.{values}
use Rattle.http_wire.specs.Requesting.{asks_for, closing_lines, host_and_type, request_line}
use Rattle.http_wire.specs.Response.{last_lines, length_field, method_not_allowed, phrase, says, status_line, type_field}
use Rattle.wire_laws.proofs.Digits.{passes}

-- ---- fields

abbrev pub line_of : List ℕ → List ℕ → Field
line_of name raw = record { name = name; raw = raw; end = crlf }

abbrev pub host_line : Field
host_line = line_of (codes "Host") (codes " kubeconv")

abbrev pub type_line : Field
type_line = line_of (codes "Content-Type") (codes " application/json")

abbrev pub length_line : List ℕ → Field
length_line number = line_of (codes "Content-Length") (32 ∷ number)

abbrev pub close_line : Field
close_line = line_of (codes "Connection") (codes " close")

host_is : IsField host_line
unfolding is_token_byte
host_is = record { name = (omega arith, passes is_token_byte (codes "Host") refl); raw = passes is_value_byte (codes " kubeconv") refl }

type_is : IsField type_line
unfolding is_token_byte
type_is = record { name = (omega arith, passes is_token_byte (codes "Content-Type") refl); raw = passes is_value_byte (codes " application/json") refl }

length_is : (number : List ℕ) → AllPass is_value_byte (32 ∷ number) → IsField (length_line number)
unfolding is_token_byte
length_is number raw = record { name = (omega arith, passes is_token_byte (codes "Content-Length") refl); raw = raw }

close_is : IsField close_line
unfolding is_token_byte
close_is = record { name = (omega arith, passes is_token_byte (codes "Connection") refl); raw = passes is_value_byte (codes " close") refl }

-- ---- requests

abbrev pub request_lines : List ℕ → List Field
request_lines number = host_line ∷ type_line ∷ length_line number ∷ close_line ∷ []

abbrev pub request_head : List ℕ → List ℕ → List ℕ → RequestHead
request_head method target number = record { blank = []; method = method; target = target; minor = 1; line_end = crlf; fields = request_lines number; last = crlf }

pub request_lines_are : (number : List ℕ) → AllPass is_value_byte (32 ∷ number) → All IsField (request_lines number)
request_lines_are number raw =
    All-cons IsField host_line (type_line ∷ length_line number ∷ close_line ∷ []) host_is
    (All-cons IsField type_line (length_line number ∷ close_line ∷ []) type_is
    (All-cons IsField (length_line number) (close_line ∷ []) (length_is number raw) (All-cons IsField close_line [] close_is (All-nil IsField))))

-- the written pieces, regrouped
written : (m a t b h c n e z r : List ℕ) → (m ++ (a ++ (t ++ b))) ++ (h ++ ((c ++ (n ++ e)) ++ (z ++ r)))
    ≡ m ++ (a ++ (t ++ (b ++ (h ++ (c ++ (n ++ (e ++ (z ++ r))))))))
written m a t b h c n e z r = simp append_assoc

-- the printed fields, regrouped
printed : (p q c n e s z r : List ℕ) → ((p ++ (q ++ ((c ++ (n ++ e)) ++ (s ++ [])))) ++ z) ++ r ≡ p ++ (q ++ (c ++ (n ++ (e ++ (s ++ (z ++ r))))))
printed p q c n e s z r = simp (append_assoc, append-nil)

pub request_bytes : (method target body : List ℕ) → asks_for method target body ≡ print_request (request_head method target (decimal (length body))) ++ body
unfolding asks_for request_line host_and_type length_field closing_lines
request_bytes method target body =
    let n = decimal (length body) in
    written method (codes " ") target (codes " HTTP/1.1\r\n") (codes "Host: kubeconv\r\nContent-Type: application/json\r\n") (codes "Content-Length: ") n (codes "\r\n") (codes "Connection: close\r\n\r\n") body
    ∙ sym (print_request-append (request_head method target n) body
    ∙ ap (λ (xs : List ℕ). method ++ (32 ∷ (target ++ (codes " HTTP/1.1\r\n" ++ xs))))
    (printed (print_field host_line) (print_field type_line) (codes "Content-Length: ") n (codes "\r\n") (print_field close_line) (codes "\r\n") body))

pub request_encodings : (number : List ℕ) → values (codes "transfer-encoding") (map name_and_value (request_lines number)) ≡ []
unfolding values
request_encodings number = refl

pub request_lengths : (number : List ℕ) → values (codes "content-length") (map name_and_value (request_lines number)) ≡ trim_ows (32 ∷ number) ∷ []
unfolding values
request_lengths number = refl

pub request_connections : (number : List ℕ) → values (codes "connection") (map name_and_value (request_lines number)) ≡ trim_ows (codes " close") ∷ []
unfolding values
request_connections number = refl

-- ---- responses

-- the type, where there is one
abbrev pub type_lines : Bool → List Field
type_lines true = []
type_lines false = type_line ∷ []

abbrev pub last_fields : Bool → List Field
last_fields true = close_line ∷ []
last_fields false = []

abbrev pub response_lines : Bool → List ℕ → Bool → List Field
response_lines bare number closing = type_lines bare ++ (length_line number ∷ last_fields closing)

abbrev pub response_head : List ℕ → List ℕ → Bool → List ℕ → Bool → ResponseHead
response_head digits reason bare number closing = record {
  blank = [];
  minor = 1;
  digits = digits;
  reason = Some reason;
  line_end = crlf;
  fields = response_lines bare number closing;
  last = crlf;
}

last_fields_are : (closing : Bool) → All IsField (last_fields closing)
last_fields_are true = All-cons IsField close_line [] close_is (All-nil IsField)
last_fields_are false = All-nil IsField

pub response_lines_are : (bare : Bool) (number : List ℕ) (closing : Bool) → AllPass is_value_byte (32 ∷ number) → All IsField (response_lines bare number closing)
response_lines_are true number closing raw = All-cons IsField (length_line number) (last_fields closing) (length_is number raw) (last_fields_are closing)
response_lines_are false number closing raw =
    All-cons IsField type_line (length_line number ∷ last_fields closing) type_is
    (All-cons IsField (length_line number) (last_fields closing) (length_is number raw) (last_fields_are closing))

pub few_lines : (bare : Bool) (number : List ℕ) (closing : Bool) → length (response_lines bare number closing) ≤ 3
few_lines true number true = omega arith
few_lines true number false = omega arith
few_lines false number true = omega arith
few_lines false number false = omega arith

pub response_encodings : (bare : Bool) (number : List ℕ) (closing : Bool) → values (codes "transfer-encoding") (map name_and_value (response_lines bare number closing)) ≡ []
unfolding values
response_encodings true number true = refl
response_encodings true number false = refl
response_encodings false number true = refl
response_encodings false number false = refl

pub response_lengths : (bare : Bool) (number : List ℕ) (closing : Bool)
    → values (codes "content-length") (map name_and_value (response_lines bare number closing)) ≡ trim_ows (32 ∷ number) ∷ []
unfolding values
response_lengths true number true = refl
response_lengths true number false = refl
response_lengths false number true = refl
response_lengths false number false = refl

-- the lines of the fields, and the empty one
lines_of : Bool → List ℕ → Bool → List ℕ
lines_of bare number closing =
    (if bare then [] else codes "Content-Type: application/json\r\n") ++ ((codes "Content-Length: " ++ (number ++ codes "\r\n")) ++ last_lines closing)

print_lines : (bare : Bool) (number : List ℕ) (closing : Bool) → lines_of bare number closing ≡ print_section (response_lines bare number closing) crlf
unfolding lines_of last_lines
print_lines true number true =
    ap (λ (xs : List ℕ). codes "Content-Length: " ++ xs) (sym (append_assoc (number ++ codes "\r\n") (codes "Connection: close\r\n") (codes "\r\n")))
print_lines true number false = ap (λ (xs : List ℕ). codes "Content-Length: " ++ (xs ++ codes "\r\n")) (sym (append-nil (number ++ codes "\r\n")))
print_lines false number true =
    ap (λ (xs : List ℕ). codes "Content-Type: application/json\r\nContent-Length: " ++ xs)
    (sym (append_assoc (number ++ codes "\r\n") (codes "Connection: close\r\n") (codes "\r\n")))
print_lines false number false =
    ap (λ (xs : List ℕ). codes "Content-Type: application/json\r\nContent-Length: " ++ (xs ++ codes "\r\n")) (sym (append-nil (number ++ codes "\r\n")))

regrouped : (v d s p e t l z r : List ℕ) → (v ++ (d ++ (s ++ (p ++ e)))) ++ (t ++ (l ++ (z ++ r))) ≡ v ++ (d ++ (s ++ (p ++ (e ++ ((t ++ (l ++ z)) ++ r)))))
regrouped v d s p e t l z r = simp append_assoc

-- the head of a response of this code, length and closing
abbrev pub head_of : ℕ → ℕ → Bool → ResponseHead
head_of code len closing = response_head (decimal code) (phrase code) (code == method_not_allowed) (decimal len) closing

pub response_bytes : (code : ℕ) (body : List ℕ) (closing : Bool) → says code body closing ≡ print_response (head_of code (length body) closing) ++ body
unfolding says status_line type_field length_field lines_of
response_bytes code body closing =
    let n = decimal (length body) in
    let bare = code == method_not_allowed in
    regrouped (codes "HTTP/1.1 ") (decimal code) (codes " ") (phrase code) (codes "\r\n") (if bare then [] else codes "Content-Type: application/json\r\n")
    (codes "Content-Length: " ++ (n ++ codes "\r\n")) (last_lines closing) body
    ∙ ap (λ (xs : List ℕ). codes "HTTP/1.1 " ++ (decimal code ++ (codes " " ++ (phrase code ++ (codes "\r\n" ++ (xs ++ body)))))) (print_lines bare n closing)
    ∙ sym (print_response-append (head_of code (length body) closing) body)

-- a code has three digits
three : (code : ℕ) → 100 ≤ code → code < 1000 → decimal code ≡ ((48 + code / 10 / 10) ∷ (48 + code / 10 % 10) ∷ (48 + code % 10) ∷ [])
three code least most =
    let first = decimal_step code (omega arith) (omega arith) in
    let second = decimal_step (code / 10) (omega arith) (omega arith) in
    let third = decimal_digit (code / 10 / 10) (omega arith) in
    first ∙ ap (λ (xs : List ℕ). xs ++ ((48 + code % 10) ∷ [])) (second ∙ ap (λ (xs : List ℕ). xs ++ ((48 + code / 10 % 10) ∷ [])) third)

pub three_digits : (code : ℕ) → 100 ≤ code → code < 1000 → length (decimal code) ≡ 3
three_digits code least most = ap (λ (xs : List ℕ). length xs) (three code least most)

pub code_is : (code : ℕ) → code < 1000 → digits_value 10 (decimal code) ≡ code
code_is code most = (decimal_is_IsNumeral code (omega arith)).1

lines_long : (bare : Bool) (number : List ℕ) (closing : Bool) → length (flat_map print_field (response_lines bare number closing)) ≤ length number + 78
lines_long true number true = simp length-append (omega arith)
lines_long true number false = simp length-append (omega arith)
lines_long false number true = simp length-append (omega arith)
lines_long false number false = simp length-append (omega arith)

-- a head is short
pub short_head : (digits reason : List ℕ) (bare : Bool) (number : List ℕ) (closing : Bool) → length digits ≡ 3 → length reason ≤ 40 → length number ≤ 18
    → length (print_response (response_head digits reason bare number closing)) ≤ 16_384
unfolding print_response
short_head digits reason bare number closing digits_long few some =
    let lines : length (flat_map print_field (response_head digits reason bare number closing).fields) ≤ length number + 78 = lines_long bare number closing in
    simp length-append (omega arith)
