-- The lines of a head.
use Rattle.std.proofs.Common.{◌≡◌, ◌≢◌, ℕ, ◌+◌, ◌-◌, ◌<◌, ◌≤◌, true, false, IsTrue, Option, Some, None, List, [], ◌∷◌, ◌++◌, length, map, take, drop, get_or, slice_range, true≢false, refl, sym, ap, ◌∙◌, subst, arith, inl, inr, append_assoc, append-nil, length-append, take-append-drop, get_or-drop, get_or-append-add, length-drop, zero-add, length-take-le}
use Rattle.std.proofs.lemmas.Bool.{cases_lt}
use Rattle.std.proofs.lemmas.List.{get_or_append_left, drop_more, take_more, length-map}
use Rattle.std.proofs.lemmas.List.Concat.{flat_map-append}
use Rattle.std.proofs.lemmas.List.Elements.{All-get_or, All-weaker, All-append, All-cons, All-nil}
use Rattle.std.specs.List.{flat_map}
use Rattle.std.specs.Char.{is_ascii_digit}
use Rattle.httparse.specs.Grammar.{ResponseHead, IsResponseHead, ReadsResponse, print_response, print_blank, print_version, print_reason, reason_phrase, print_end, print_field, print_section, Field, IsField, LineEnd, crlf, lf, AllPass, is_token_byte, is_value_byte}
use Rattle.httparse.specs.declared.spans.HeaderSpan.{HeaderSpan}
use Rattle.httparse.specs.declared.spans.ResponseSpans.{ResponseSpans}
use Rattle.httparse.specs.Spans.{IsResponseAt, IsResponseWithin, header_bytes, name_and_value}
use Rattle.httparse.proofs.GrammarLemmas.{cons-append, print_response-append, response_unique}
use Rattle.chunked_bodies.specs.declared.TheConstants.{MOST_FIELDS}
use Rattle.chunked_bodies.specs.declared.head.ChunkedHead.{ChunkedHead}
use Rattle.chunked_bodies.specs.Response.{Pair, IsChunkedAt, IsChunkedHead, length_line, head_with_length}
use Rattle.chunked_bodies.specs.inner.Walk.{IsInLine, IsNowhere, IsHeadAt, status_line, before_field}
use lib.Seq.{take-append_seam, drop-append_seam}

-- ---- the first line feed

pub first_feed : (bytes line more : List ℕ) (from i : ℕ) → drop from bytes ≡ line ++ 10 ∷ more → IsInLine line → from ≤ i → get_or bytes i 0 ≡ 10
    → ((k : ℕ) → from ≤ k → k < i → get_or bytes k 0 ≢ 10) → i ≡ from + length line
first_feed bytes line more from i e inside after here none =
    let at : (j : ℕ) → get_or bytes (from + j) 0 ≡ get_or (line ++ 10 ∷ more) j 0 =
    λ j. sym (get_or-drop from bytes j 0) ∙ ap (λ (xs : List ℕ). get_or xs j 0) e in
    elim (cases_lt i (from + length line)) [
      | inl less ↦
          let j : from + (i - from) ≡ i = omega arith in
          let short : i - from < length line = omega arith in
          let b : get_or line (i - from) 0 ≡ 10 = sym (get_or_append_left line (10 ∷ more) 0 (i - from) short) ∙ sym (at (i - from)) ∙ ap (λ (n : ℕ). get_or bytes n 0) j ∙ here in
          absurd (All-get_or (λ v. v ≢ 10) line (i - from) 0 short inside b)
      | inr more_ ↦ elim (cases_lt (from + length line) i) [
        | inl less ↦
            let none_ : length line + 0 ≡ length line = omega arith in
            let b : get_or bytes (from + length line) 0 ≡ 10 = at (length line) ∙ ap (λ (n : ℕ). get_or (line ++ 10 ∷ more) n 0) (sym none_) ∙ get_or-append-add line (10 ∷ more) 0 0 in
            absurd (none (from + length line) (omega arith) less b)
        | inr same ↦ omega arith
      ]
    ]

pub no_feed : (bytes line more : List ℕ) (from : ℕ) → drop from bytes ≡ line ++ 10 ∷ more
    → ((k : ℕ) → from ≤ k → k < length bytes → get_or bytes k 0 ≢ 10) → ⊥
no_feed bytes line more from e none =
    let none_ : length line + 0 ≡ length line = omega arith in
    let b : get_or bytes (from + length line) 0 ≡ 10 = sym (get_or-drop from bytes (length line) 0) ∙ ap (λ (xs : List ℕ). get_or xs (length line) 0) e
    ∙ ap (λ (n : ℕ). get_or (line ++ 10 ∷ more) n 0) (sym none_) ∙ get_or-append-add line (10 ∷ more) 0 0 in
    let long : length (drop from bytes) ≡ length line + length (10 ∷ more) = ap (λ (xs : List ℕ). length xs) e ∙ length-append line (10 ∷ more) in
    none (from + length line) (omega arith) (omega (arith, length-drop from bytes)) b

-- ---- a line of the grammar is bytes without a line feed, and one

record IsLine (bytes : List ℕ) : Type 0 where
  pub line : List ℕ
  pub inside : IsInLine line
  pub is : bytes ≡ line ++ 10 ∷ []

no_feed_in : ℕ → Type 0
no_feed_in b = b ≢ 10

token_no_feed : (b : ℕ) → IsTrue (is_token_byte b) → b ≢ 10
unfolding is_token_byte
token_no_feed b is e = true≢false (sym (subst (λ (n : ℕ). IsTrue (is_token_byte n)) e is))

value_no_feed : (b : ℕ) → IsTrue (is_value_byte b) → b ≢ 10
value_no_feed b is e = true≢false (sym (subst (λ (n : ℕ). IsTrue (is_value_byte n)) e is))

digit_no_feed : (b : ℕ) → IsTrue (is_ascii_digit b) → b ≢ 10
digit_no_feed b is e = true≢false (sym (subst (λ (n : ℕ). IsTrue (is_ascii_digit n)) e is))

ends_line : (front : List ℕ) (end : LineEnd) → IsInLine front → IsLine (front ++ print_end end)
ends_line front crlf inside = record {
  line = front ++ 13 ∷ [];
  inside = All-append (λ b. b ≢ 10) front (13 ∷ []) inside (All-cons (λ b. b ≢ 10) 13 [] (λ e. omega arith) (All-nil (λ b. b ≢ 10)));
  is = sym (append_assoc front (13 ∷ []) (10 ∷ []));
}
ends_line front lf inside = record { line = front; inside = inside; is = refl }

field_front : (f : Field) → IsField f → IsInLine (f.name ++ 58 ∷ f.raw)
field_front f is =
    All-append (λ b. b ≢ 10) f.name (58 ∷ f.raw) (All-weaker (λ b. IsTrue (is_token_byte b)) (λ b. b ≢ 10) token_no_feed f.name is.name.1)
    (All-cons (λ b. b ≢ 10) 58 f.raw (λ e. omega arith) (All-weaker (λ b. IsTrue (is_value_byte b)) (λ b. b ≢ 10) value_no_feed f.raw is.raw))

field_is : (f : Field) → IsField f → IsLine (print_field f)
field_is f is = ends_line (f.name ++ 58 ∷ f.raw) f.end (field_front f is)

reason_front : (r : Option (List ℕ)) → AllPass is_value_byte (reason_phrase r) → IsInLine (print_reason r)
reason_front None is = All-nil (λ b. b ≢ 10)
reason_front (Some phrase) is =
    All-cons (λ b. b ≢ 10) 32 phrase (λ e. omega arith) (All-weaker (λ b. IsTrue (is_value_byte b)) (λ b. b ≢ 10) value_no_feed phrase is)

version_front : (minor : ℕ) → IsInLine (print_version minor)
version_front minor =
    let P : ℕ → Type 0 = λ b. b ≢ 10 in
    All-cons P 72 (84 ∷ 84 ∷ 80 ∷ 47 ∷ 49 ∷ 46 ∷ (48 + minor) ∷ []) (λ e. omega arith)
    (All-cons P 84 (84 ∷ 80 ∷ 47 ∷ 49 ∷ 46 ∷ (48 + minor) ∷ []) (λ e. omega arith)
    (All-cons P 84 (80 ∷ 47 ∷ 49 ∷ 46 ∷ (48 + minor) ∷ []) (λ e. omega arith)
    (All-cons P 80 (47 ∷ 49 ∷ 46 ∷ (48 + minor) ∷ []) (λ e. omega arith)
    (All-cons P 47 (49 ∷ 46 ∷ (48 + minor) ∷ []) (λ e. omega arith)
    (All-cons P 49 (46 ∷ (48 + minor) ∷ []) (λ e. omega arith)
    (All-cons P 46 ((48 + minor) ∷ []) (λ e. omega arith)
    (All-cons P (48 + minor) [] (λ e. omega arith) (All-nil P))))))))

status_is : (h : ResponseHead) → IsResponseHead h → IsLine (status_line h)
status_is h is =
    let P : ℕ → Type 0 = λ b. b ≢ 10 in
    let digits : IsInLine h.digits = All-weaker (λ b. IsTrue (is_ascii_digit b)) P digit_no_feed h.digits is.digits.1 in
    let front : IsInLine (print_version h.minor ++ 32 ∷ h.digits ++ print_reason h.reason) =
    All-append P (print_version h.minor ++ 32 ∷ h.digits) (print_reason h.reason)
    (All-append P (print_version h.minor) (32 ∷ h.digits) (version_front h.minor) (All-cons P 32 h.digits (λ e. omega arith) digits))
    (reason_front h.reason is.reason) in
    ends_line (print_version h.minor ++ 32 ∷ h.digits ++ print_reason h.reason) h.line_end front

-- ---- where the fields stand

-- a head that begins with its status line, cut before a field
pub head_cut : (h : ResponseHead) (k : ℕ) → h.blank ≡ [] → print_response h ≡ before_field h k ++ (flat_map print_field (drop k h.fields) ++ print_end h.last)
unfolding print_response
head_cut h k begins =
    ap (λ (blank : List LineEnd). print_blank blank ++ print_version h.minor ++ 32 ∷ h.digits ++ print_reason h.reason ++ print_end h.line_end ++ print_section h.fields h.last) begins
    ∙ ap (λ (xs : List ℕ). print_version h.minor ++ 32 ∷ h.digits ++ print_reason h.reason ++ print_end h.line_end ++ (xs ++ print_end h.last))
    (ap (flat_map print_field) (sym (take-append-drop k h.fields)) ∙ flat_map-append print_field (take k h.fields) (drop k h.fields))
    ∙ group (print_version h.minor) h.digits (print_reason h.reason) (print_end h.line_end) (flat_map print_field (take k h.fields)) (flat_map print_field (drop k h.fields)) (print_end h.last)
  where
    group : (v d r e a b l : List ℕ) → v ++ 32 ∷ d ++ r ++ e ++ ((a ++ b) ++ l) ≡ ((v ++ 32 ∷ d ++ r ++ e) ++ a) ++ (b ++ l)
    group v d r e a b l = simp (append_assoc, cons-append)

pub bytes_cut : (bytes after : List ℕ) (h : ResponseHead) (k : ℕ) → ReadsResponse bytes h after → h.blank ≡ []
    → bytes ≡ before_field h k ++ ((flat_map print_field (drop k h.fields) ++ print_end h.last) ++ after)
bytes_cut bytes after h k reads begins =
    reads.1 ∙ ap (λ (xs : List ℕ). xs ++ after) (head_cut h k begins) ∙ append_assoc (before_field h k) (flat_map print_field (drop k h.fields) ++ print_end h.last) after

pub behind : (bytes after : List ℕ) (h : ResponseHead) (k : ℕ) → ReadsResponse bytes h after → h.blank ≡ []
    → drop (length (before_field h k)) bytes ≡ (flat_map print_field (drop k h.fields) ++ print_end h.last) ++ after
behind bytes after h k reads begins =
    ap (λ (xs : List ℕ). drop (length (before_field h k)) xs) (bytes_cut bytes after h k reads begins) ∙ drop-append_seam (before_field h k) _

pub front : (bytes after : List ℕ) (h : ResponseHead) (k : ℕ) → ReadsResponse bytes h after → h.blank ≡ []
    → take (length (before_field h k)) bytes ≡ before_field h k
front bytes after h k reads begins =
    ap (λ (xs : List ℕ). take (length (before_field h k)) xs) (bytes_cut bytes after h k reads begins) ∙ take-append_seam (before_field h k) _

-- what the end of a line comes to
abbrev pub EndsLine : List ℕ → ℕ → ℕ → Type 0
EndsLine bytes from end = (line more : List ℕ) → drop from bytes ≡ line ++ 10 ∷ more → IsInLine line → end ≡ from + (length line + 1)

ends_at : (bytes rest text : List ℕ) (from end : ℕ) → EndsLine bytes from end → IsLine text → drop from bytes ≡ text ++ rest → end ≡ from + length text
ends_at bytes rest text from end ends is e =
    let long : length text ≡ length is.line + 1 = ap (λ (xs : List ℕ). length xs) is.is ∙ length-append is.line (10 ∷ []) in
    let at = ends is.line rest (e ∙ ap (λ (xs : List ℕ). xs ++ rest) is.is ∙ append_assoc is.line (10 ∷ []) rest) is.inside in
    omega arith

-- the first field stands behind the status line
pub first_field : (bytes after : List ℕ) (h : ResponseHead) (end : ℕ) → EndsLine bytes 0 end → ReadsResponse bytes h after → h.blank ≡ []
    → end ≡ length (before_field h 0)
first_field bytes after h end ends reads begins =
    let cut = bytes_cut bytes after h 0 reads begins in
    let none : before_field h 0 ≡ status_line h = append-nil (status_line h) in
    let e : bytes ≡ status_line h ++ ((flat_map print_field h.fields ++ print_end h.last) ++ after) =
    cut ∙ ap (λ (xs : List ℕ). xs ++ ((flat_map print_field h.fields ++ print_end h.last) ++ after)) none in
    ends_at bytes _ (status_line h) 0 end ends (status_is h reads.0) e ∙ zero-add (length (status_line h)) ∙ ap (λ (xs : List ℕ). length xs) (sym none)

no_field : Field
no_field = record { name = []; raw = []; end = lf }

before_more : (h : ResponseHead) (k : ℕ) → k < length h.fields → before_field h (k + 1) ≡ before_field h k ++ print_field (get_or h.fields k no_field)
before_more h k inside =
    ap (λ (fs : List Field). status_line h ++ flat_map print_field fs) (take_more h.fields k no_field inside)
    ∙ ap (λ (xs : List ℕ). status_line h ++ xs) (flat_map-append print_field (take k h.fields) (get_or h.fields k no_field ∷ []))
    ∙ ap (λ (xs : List ℕ). status_line h ++ (flat_map print_field (take k h.fields) ++ xs)) (append-nil (print_field (get_or h.fields k no_field)))
    ∙ sym (append_assoc (status_line h) (flat_map print_field (take k h.fields)) (print_field (get_or h.fields k no_field)))

-- the next field stands behind that field
pub next_field : (bytes after : List ℕ) (h : ResponseHead) (k at end : ℕ) → EndsLine bytes at end → ReadsResponse bytes h after → h.blank ≡ [] → k < length h.fields
    → at ≡ length (before_field h k) → end ≡ length (before_field h (k + 1))
next_field bytes after h k at end ends reads begins inside is =
    let f = get_or h.fields k no_field in
    let field : IsField f = All-get_or IsField h.fields k no_field inside reads.0.fields in
    let rest : drop at bytes ≡ print_field f ++ ((flat_map print_field (drop (k + 1) h.fields) ++ print_end h.last) ++ after) =
    ap (λ (n : ℕ). drop n bytes) is ∙ behind bytes after h k reads begins
    ∙ ap (λ (fs : List Field). (flat_map print_field fs ++ print_end h.last) ++ after) (drop_more h.fields k no_field inside)
    ∙ group (print_field f) (flat_map print_field (drop (k + 1) h.fields)) (print_end h.last) after in
    let e = ends_at bytes _ (print_field f) at end ends (field_is f field) rest in
    let long : length (before_field h (k + 1)) ≡ length (before_field h k) + length (print_field f) =
    ap (λ (xs : List ℕ). length xs) (before_more h k inside) ∙ length-append (before_field h k) (print_field f) in
    omega arith
  where
    group : (p m l r : List ℕ) → ((p ++ m) ++ l) ++ r ≡ p ++ ((m ++ l) ++ r)
    group p m l r = simp append_assoc

-- ---- the head with a length in a field's place

pub with_line : (h : ResponseHead) (k n : ℕ) → h.blank ≡ []
    → print_response (head_with_length h k n) ≡ before_field h k ++ (print_field (length_line n) ++ (flat_map print_field (drop (k + 1) h.fields) ++ print_end h.last))
unfolding print_response
with_line h k n begins =
    ap (λ (blank : List LineEnd). print_blank blank ++ print_version h.minor ++ 32 ∷ h.digits ++ print_reason h.reason ++ print_end h.line_end ++ print_section (take k h.fields ++ length_line n ∷ drop (k + 1) h.fields) h.last) begins
    ∙ ap (λ (xs : List ℕ). print_version h.minor ++ 32 ∷ h.digits ++ print_reason h.reason ++ print_end h.line_end ++ (xs ++ print_end h.last))
    (flat_map-append print_field (take k h.fields) (length_line n ∷ drop (k + 1) h.fields))
    ∙ group (print_version h.minor) h.digits (print_reason h.reason) (print_end h.line_end) (flat_map print_field (take k h.fields)) (print_field (length_line n)) (flat_map print_field (drop (k + 1) h.fields)) (print_end h.last)
  where
    group : (v d r e a p b l : List ℕ) → v ++ 32 ∷ d ++ r ++ e ++ ((a ++ (p ++ b)) ++ l) ≡ ((v ++ 32 ∷ d ++ r ++ e) ++ a) ++ (p ++ (b ++ l))
    group v d r e a p b l = simp (append_assoc, cons-append)

-- what is written of a head: the bytes before the field, the length, and the bytes behind the field's line
pub assembled : (bytes : List ℕ) (after : List ℕ) (h : ResponseHead) (k n start end len : ℕ) (out : List ℕ) → ReadsResponse bytes h after → h.blank ≡ []
    → start ≡ length (before_field h k) → end ≡ length (before_field h (k + 1)) → len ≡ length (print_response h)
    → out ≡ (take start bytes ++ print_field (length_line n)) ++ slice_range bytes end len → out ≡ print_response (head_with_length h k n)
assembled bytes after h k n start end len out reads begins starts ends long is =
    let rest = flat_map print_field (drop (k + 1) h.fields) ++ print_end h.last in
    let before : take start bytes ≡ before_field h k = ap (λ (m : ℕ). take m bytes) starts ∙ front bytes after h k reads begins in
    let tail : drop end bytes ≡ rest ++ after = ap (λ (m : ℕ). drop m bytes) ends ∙ behind bytes after h (k + 1) reads begins in
    let whole : length (print_response h) ≡ length (before_field h (k + 1)) + length rest =
    ap (λ (xs : List ℕ). length xs) (head_cut h (k + 1) begins) ∙ length-append (before_field h (k + 1)) rest in
    let few : len - end ≡ length rest = omega arith in
    let slice : slice_range bytes end len ≡ rest =
    ap (λ (xs : List ℕ). take (len - end) xs) tail ∙ ap (λ (m : ℕ). take m (rest ++ after)) few ∙ take-append_seam rest after in
    is ∙ ap (λ (xs : List ℕ). (xs ++ print_field (length_line n)) ++ slice_range bytes end len) before
    ∙ ap (λ (xs : List ℕ). (before_field h k ++ print_field (length_line n)) ++ xs) slice
    ∙ append_assoc (before_field h k) (print_field (length_line n)) rest ∙ sym (with_line h k n begins)

-- the field's line ends inside of the head
pub ends_within : (h : ResponseHead) (k end len : ℕ) → h.blank ≡ [] → end ≡ length (before_field h (k + 1)) → len ≡ length (print_response h) → end ≤ len
ends_within h k end len begins ends long =
    let rest = flat_map print_field (drop (k + 1) h.fields) ++ print_end h.last in
    let whole : length (print_response h) ≡ length (before_field h (k + 1)) + length rest =
    ap (λ (xs : List ℕ). length xs) (head_cut h (k + 1) begins) ∙ length-append (before_field h (k + 1)) rest in
    omega arith

-- ---- the first byte

begins_blank : (blank : List LineEnd) (rest : List ℕ) → get_or (print_blank blank ++ rest) 0 0 ≡ 72 → blank ≡ []
begins_blank [] rest first = refl
begins_blank (crlf ∷ blank) rest first = absurd (omega (arith, first))
begins_blank (lf ∷ blank) rest first = absurd (omega (arith, first))

pub begins_status : (bytes after : List ℕ) (h : ResponseHead) → ReadsResponse bytes h after → get_or bytes 0 0 ≡ 72 → h.blank ≡ []
begins_status bytes after h reads first =
    begins_blank h.blank _ (sym (ap (λ (xs : List ℕ). get_or xs 0 0) (reads.1 ∙ print_response-append h after)) ∙ first)

pub first_is : (bytes after : List ℕ) (h : ResponseHead) → ReadsResponse bytes h after → h.blank ≡ [] → get_or bytes 0 0 ≡ 72
first_is bytes after h reads begins =
    ap (λ (xs : List ℕ). get_or xs 0 0) (bytes_cut bytes after h 0 reads begins)

pub nonempty : (bytes : List ℕ) → get_or bytes 0 0 ≡ 72 → 0 < length bytes
nonempty [] first = absurd (omega (arith, first))
nonempty (b ∷ bytes) first = omega arith

-- ---- the head that the parser found

pub found_few : (bytes : List ℕ) (headers : List HeaderSpan) (found : ResponseSpans) (h : ResponseHead) → IsResponseAt bytes headers found h → IsResponseWithin bytes headers found
    → length headers ≤ MOST_FIELDS → length h.fields ≤ MOST_FIELDS
found_few bytes headers found h at within few =
    let n : length (map (header_bytes bytes) (take found.headers headers)) ≡ length (map name_and_value h.fields) = ap (λ (xs : List (List ℕ × List ℕ)). length xs) at.fields in
    let m : length (take found.headers headers) ≡ length h.fields = sym (length-map (take found.headers headers) (header_bytes bytes)) ∙ n ∙ length-map h.fields name_and_value in
    let k : length (take found.headers headers) ≡ found.headers = length-take-le found.headers headers within.section.count_fits in
    omega (arith, within.section.count_fits, few)

pub found_head : (bytes : List ℕ) (headers : List HeaderSpan) (found : ResponseSpans) (h : ResponseHead) (k : ℕ) → IsResponseAt bytes headers found h → IsResponseWithin bytes headers found
    → length headers ≤ MOST_FIELDS → get_or bytes 0 0 ≡ 72 → found.version ≡ 1 → IsChunkedAt (map (header_bytes bytes) (take found.headers headers)) k
    → IsHeadAt bytes (record { len = found.len; coding = k }) h
found_head bytes headers found h k at within few first minor coding = record {
  reads = at.reads;
  len = at.len;
  chunked = record {
    begins = begins_status bytes (drop found.len bytes) h at.reads first;
    minor = sym at.version ∙ minor;
    few = found_few bytes headers found h at within few;
    coding = subst (λ (ps : List Pair). IsChunkedAt ps k) at.fields coding;
  };
}

pub no_coding : (bytes after : List ℕ) (headers : List HeaderSpan) (found : ResponseSpans) (h g : ResponseHead) (k : ℕ) → IsResponseAt bytes headers found h
    → IsNowhere (map (header_bytes bytes) (take found.headers headers)) → ReadsResponse bytes g after → IsChunkedHead g k → ⊥
no_coding bytes after headers found h g k at none reads chunked =
    let same = response_unique bytes h g _ after at.reads reads in
    none k (subst (λ (ps : List Pair). IsChunkedAt ps k) (sym (at.fields ∙ ap (λ (x : ResponseHead). map name_and_value x.fields) same.0)) chunked.coding)

pub other_minor : (bytes after : List ℕ) (headers : List HeaderSpan) (found : ResponseSpans) (h g : ResponseHead) (k : ℕ) → IsResponseAt bytes headers found h
    → (found.version ≡ 1 → ⊥) → ReadsResponse bytes g after → IsChunkedHead g k → ⊥
other_minor bytes after headers found h g k at other reads chunked =
    let same = response_unique bytes h g _ after at.reads reads in
    other (at.version ∙ ap (λ (x : ResponseHead). x.minor) same.0 ∙ chunked.minor)

-- ---- both ends of the field's line

pub place_within : (h : ResponseHead) (k : ℕ) → IsChunkedHead h k → k < length h.fields
place_within h k is = omega (arith, is.coding.within, length-map h.fields name_and_value)

-- where the field of that place stands
abbrev pub StartsField : List ℕ → ℕ → ℕ → Type 0
StartsField bytes k start = (h : ResponseHead) (after : List ℕ) → ReadsResponse bytes h after → h.blank ≡ [] → k ≤ length h.fields → start ≡ length (before_field h k)

pub starts_at : (bytes : List ℕ) (p : ChunkedHead) (h : ResponseHead) (start : ℕ) → IsHeadAt bytes p h → StartsField bytes p.coding start → start ≡ length (before_field h p.coding)
starts_at bytes p h start at starts = starts h (drop p.len bytes) at.reads at.chunked.begins (omega (arith, place_within h p.coding at.chunked))

pub ends_at_next : (bytes : List ℕ) (p : ChunkedHead) (h : ResponseHead) (start end : ℕ) → IsHeadAt bytes p h → StartsField bytes p.coding start → EndsLine bytes start end
    → end ≡ length (before_field h (p.coding + 1))
ends_at_next bytes p h start end at starts ends =
    next_field bytes (drop p.len bytes) h p.coding start end ends at.reads at.chunked.begins (place_within h p.coding at.chunked) (starts_at bytes p h start at starts)

pub line_within : (bytes : List ℕ) (p : ChunkedHead) (h : ResponseHead) (start end : ℕ) → IsHeadAt bytes p h → StartsField bytes p.coding start → EndsLine bytes start end → end ≤ p.len
line_within bytes p h start end at starts ends = ends_within h p.coding end p.len at.chunked.begins (ends_at_next bytes p h start end at starts ends) at.len

pub head_assembled : (bytes out : List ℕ) (p : ChunkedHead) (h : ResponseHead) (n start end : ℕ) → IsHeadAt bytes p h → StartsField bytes p.coding start → EndsLine bytes start end
    → out ≡ (take start bytes ++ print_field (length_line n)) ++ slice_range bytes end p.len → out ≡ print_response (head_with_length h p.coding n)
head_assembled bytes out p h n start end at starts ends is =
    assembled bytes (drop p.len bytes) h p.coding n start end p.len out at.reads at.chunked.begins (starts_at bytes p h start at starts) (ends_at_next bytes p h start end at starts ends) at.len is
