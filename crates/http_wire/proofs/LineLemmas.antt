-- A head ends in an empty line behind a line that isn't empty.
use Rattle.std.proofs.Common.{◌≡◌, ℕ, ◌+◌, ◌-◌, ◌<◌, ◌≤◌, Bool, false, IsTrue, ◌↔◌, List, [], ◌∷◌, ◌++◌, length, get_or, take, All, Option, Some, None, suc, refl, ap, sym, ◌∙◌, subst, arith, append_assoc, add-one}
use Rattle.std.proofs.Math.Seq.{take-suc}
use Rattle.std.proofs.lemmas.List.{same_from_push, append_cancel_right, append-nil, take_all}
use Rattle.std.specs.List.{flat_map}
use Rattle.std.specs.Char.{is_ascii_digit}
use Rattle.std.proofs.lemmas.Bool.Decides.{nat_tests}
use Rattle.std.specs.Prelude.{codes}
use Rattle.httparse.proofs.GrammarLemmas.{print_request-append, print_response-append, cons-append}
use Rattle.httparse.specs.Ascii.{line_feed, colon, space, digit_zero}
use Rattle.httparse.specs.Grammar.{LineEnd, crlf, lf, print_end, print_blank, print_version, Field, print_field, IsField, AllPass, is_value_byte, RequestHead, IsRequestHead, print_request, ResponseHead, IsResponseHead, print_response, print_reason, reason_phrase}
use Rattle.http_wire.specs.Lines.{IsInside, EndsIn, EndsInEmptyLine}

pub no_false : IsTrue false → ⊥
no_false is = cc

-- all but the last byte, and that
last_apart : (f : List ℕ) → 0 < length f → f ≡ take (length f - 1) f ++ get_or f (length f - 1) 0 ∷ []
last_apart f some =
    let n : suc (length f - 1) ≡ length f = omega arith in
    sym (ap (λ (k : ℕ). take k f) n ∙ take_all (length f) f (omega arith)) ∙ take-suc f (length f - 1) 0 (omega arith)

-- the last byte before the line ends stands in a line
pub ends_yes : (b f ends : List ℕ) (r : Bool) → b ≡ f ++ ends → 0 < length f
    → (IsTrue r ↔ IsInside (get_or f (length f - 1) 0)) → (IsTrue r ↔ EndsIn ends b)
ends_yes b f ends r is some inside =
    let last = get_or f (length f - 1) 0 in
    let front = take (length f - 1) f in (
      λ yes. (front, last, inside.0 yes, is ∙ ap (λ (xs : List ℕ). xs ++ ends) (last_apart f some)),
      λ found. let same : f ≡ found.0 ++ found.1 ∷ [] = append_cancel_right f (found.0 ++ found.1 ∷ []) ends (sym is ∙ found.3) in
          let one = same_from_push front found.0 last found.1 (sym (last_apart f some) ∙ same) in
          inside.1 (subst (λ (y : ℕ). IsInside y) (sym one.1) found.2),
    )

pub ends_none : (b ends : List ℕ) → ((front : List ℕ) → b ≡ front ++ ends → ⊥) → (IsTrue false ↔ EndsIn ends b)
ends_none b ends none = (λ no. absurd (no_false no), λ found. absurd (none (found.0 ++ found.1 ∷ []) found.3))

pub empty_crlf_crlf : (b : List ℕ) → EndsIn (print_end crlf ++ print_end crlf) b → EndsInEmptyLine b
unfolding EndsInEmptyLine
empty_crlf_crlf b ends = (crlf, crlf, ends)

pub empty_lf_lf : (b : List ℕ) → EndsIn (print_end lf ++ print_end lf) b → EndsInEmptyLine b
unfolding EndsInEmptyLine
empty_lf_lf b ends = (lf, lf, ends)

pub empty_lf_crlf : (b : List ℕ) → EndsIn (print_end lf ++ print_end crlf) b → EndsInEmptyLine b
unfolding EndsInEmptyLine
empty_lf_crlf b ends = (lf, crlf, ends)

pub empty_crlf_lf : (b : List ℕ) → EndsIn (print_end crlf ++ print_end lf) b → EndsInEmptyLine b
unfolding EndsInEmptyLine
empty_crlf_lf b ends = (crlf, lf, ends)

by_ends : (b : List ℕ) (first second : LineEnd) → EndsIn (print_end first ++ print_end second) b
    → (EndsIn (print_end crlf ++ print_end crlf) b → ⊥) → (EndsIn (print_end lf ++ print_end lf) b → ⊥)
    → (EndsIn (print_end lf ++ print_end crlf) b → ⊥) → EndsIn (print_end crlf ++ print_end lf) b
by_ends b crlf crlf ends one two three = absurd (one ends)
by_ends b lf lf ends one two three = absurd (two ends)
by_ends b lf crlf ends one two three = absurd (three ends)
by_ends b crlf lf ends one two three = ends

-- the fourth pair of line ends is left
pub empty_else : (b : List ℕ) (r : Bool)
    → (EndsIn (print_end crlf ++ print_end crlf) b → IsTrue false) → (EndsIn (print_end lf ++ print_end lf) b → IsTrue false)
    → (EndsIn (print_end lf ++ print_end crlf) b → IsTrue false) → (IsTrue r ↔ EndsIn (print_end crlf ++ print_end lf) b)
    → (IsTrue r ↔ EndsInEmptyLine b)
unfolding EndsInEmptyLine
empty_else b r one two three four = (
  λ yes. (crlf, lf, four.0 yes),
  λ found. four.1 (by_ends b found.0 found.1 found.2 (λ e. no_false (one e)) (λ e. no_false (two e)) (λ e. no_false (three e))),
)

ends_last : (b front : List ℕ) (first second : LineEnd) → b ≡ front ++ (print_end first ++ print_end second)
    → (xs : List ℕ) × (b ≡ xs ++ line_feed ∷ [])
ends_last b front crlf crlf is = (front ++ (13 ∷ 10 ∷ 13 ∷ []), is ∙ sym (append_assoc front (13 ∷ 10 ∷ 13 ∷ []) (10 ∷ [])))
ends_last b front lf lf is = (front ++ (10 ∷ []), is ∙ sym (append_assoc front (10 ∷ []) (10 ∷ [])))
ends_last b front lf crlf is = (front ++ (10 ∷ 13 ∷ []), is ∙ sym (append_assoc front (10 ∷ 13 ∷ []) (10 ∷ [])))
ends_last b front crlf lf is = (front ++ (13 ∷ 10 ∷ []), is ∙ sym (append_assoc front (13 ∷ 10 ∷ []) (10 ∷ [])))

-- an empty line ends in a line feed
pub empty_last : (b : List ℕ) (at : ℕ) → at < length b → EndsInEmptyLine (take (at + 1) b) → get_or b at 0 ≡ line_feed
unfolding EndsInEmptyLine
empty_last b at within ends =
    let last = ends_last (take (at + 1) b) (ends.2.0 ++ ends.2.1 ∷ []) ends.0 ends.1 ends.2.3 in
    let grown : take (at + 1) b ≡ take at b ++ get_or b at 0 ∷ [] = rw add-one (take-suc b at 0 within) in
    (same_from_push (take at b) last.0 (get_or b at 0) line_feed (sym grown ∙ last.1)).1

-- the text ends in a line that isn't empty
pub record EndsInLine (text : List ℕ) : Type 0 where
  pub front : List ℕ
  pub byte : ℕ
  pub end : LineEnd
  pub inside : IsInside byte
  pub is : text ≡ (front ++ byte ∷ []) ++ print_end end

line_behind : (before text : List ℕ) → EndsInLine text → EndsInLine (before ++ text)
line_behind before text line = record {
  front = before ++ line.front;
  byte = line.byte;
  end = line.end;
  inside = line.inside;
  is = ap (λ (xs : List ℕ). before ++ xs) line.is ∙ simp append_assoc;
}

value_inside : (b : ℕ) → IsTrue (is_value_byte b) → IsInside b
value_inside b value = (
  λ is. no_false (subst (λ (x : ℕ). IsTrue (is_value_byte x)) is value),
  λ is. no_false (subst (λ (x : ℕ). IsTrue (is_value_byte x)) is value),
)

colon_inside : IsInside colon
colon_inside = (λ is. cc, λ is. cc)

-- the last byte of a field, which may be the colon
raw_line : (before raw : List ℕ) (x : ℕ) (end : LineEnd) → IsInside x → AllPass is_value_byte raw → EndsInLine ((before ++ x ∷ raw) ++ print_end end)
raw_line before [] x end inside all = record { front = before; byte = x; end = end; inside = inside; is = refl }
raw_line before (y ∷ raw) x end inside all =
    subst (λ (xs : List ℕ). EndsInLine (xs ++ print_end end)) (append_assoc before (x ∷ []) (y ∷ raw))
    (raw_line (before ++ x ∷ []) raw y end (value_inside y (all 0 y (omega arith))) (λ k d within. all (suc k) d (omega (arith, within))))

field_line : (f : Field) → IsField f → EndsInLine (print_field f)
field_line f is = raw_line f.name f.raw colon f.end colon_inside is.raw

fields_line : (before : List ℕ) (fs : List Field) → EndsInLine before → All IsField fs → EndsInLine (before ++ flat_map print_field fs)
fields_line before [] line all = subst (λ (xs : List ℕ). EndsInLine xs) (sym (append-nil before)) line
fields_line before (f ∷ fs) line all =
    subst (λ (xs : List ℕ). EndsInLine xs) (append_assoc before (print_field f) (flat_map print_field fs))
    (fields_line (before ++ print_field f) fs (line_behind before (print_field f) (field_line f (all 0 f (omega arith)))) (λ k d within. all (suc k) d (omega (arith, within))))

byte_behind : (before v e : List ℕ) (x : ℕ) → before ++ ((v ++ x ∷ []) ++ e) ≡ ((before ++ v) ++ x ∷ []) ++ e
byte_behind before v e x = simp append_assoc

version_line : (before : List ℕ) (minor : ℕ) (end : LineEnd) → minor ≤ 1 → EndsInLine (before ++ (print_version minor ++ print_end end))
version_line before minor end small = record {
  front = before ++ codes "HTTP/1.";
  byte = digit_zero + minor;
  end = end;
  inside = (λ is. omega arith, λ is. omega arith);
  is = byte_behind before (codes "HTTP/1.") (print_end end) (digit_zero + minor);
}

-- an empty line behind such a text
empty_behind : (text : List ℕ) (last : LineEnd) → EndsInLine text → EndsInEmptyLine (text ++ print_end last)
unfolding EndsInEmptyLine
empty_behind text last line = (
  line.end,
  last,
  (
    line.front,
    line.byte,
    line.inside,
    ap (λ (xs : List ℕ). xs ++ print_end last) line.is ∙ append_assoc (line.front ++ line.byte ∷ []) (print_end line.end) (print_end last),
  ),
)

regroup : (a m t v e s l : List ℕ) → a ++ (m ++ 32 ∷ (t ++ 32 ∷ (v ++ (e ++ ((s ++ l) ++ [])))))
    ≡ (((a ++ (m ++ 32 ∷ (t ++ 32 ∷ []))) ++ (v ++ e)) ++ s) ++ l
regroup a m t v e s l = simp (append_assoc, cons-append, append-nil)

pub head_ends : (h : RequestHead) → IsRequestHead h → EndsInEmptyLine (print_request h)
head_ends h is =
    let before = print_blank h.blank ++ (h.method ++ 32 ∷ (h.target ++ 32 ∷ [])) in
    let fields = flat_map print_field h.fields in
    let whole : print_request h ≡ ((before ++ (print_version h.minor ++ print_end h.line_end)) ++ fields) ++ print_end h.last =
    sym (append-nil (print_request h)) ∙ print_request-append h []
    ∙ regroup (print_blank h.blank) h.method h.target (print_version h.minor) (print_end h.line_end) fields (print_end h.last) in
    let line = fields_line (before ++ (print_version h.minor ++ print_end h.line_end)) h.fields (version_line before h.minor h.line_end is.minor) is.fields in
    subst (λ (xs : List ℕ). EndsInEmptyLine xs) (sym whole) (empty_behind ((before ++ (print_version h.minor ++ print_end h.line_end)) ++ fields) h.last line)

digit_is_value : (b : ℕ) → IsTrue (is_ascii_digit b) → IsTrue (is_value_byte b)
digit_is_value b digit = grind (arith, nat_tests)

space_inside : IsInside space
space_inside = (λ is. cc, λ is. cc)

-- the code and the phrase, which may be empty or missing
code_line : (before digits : List ℕ) (reason : Option (List ℕ)) (end : LineEnd) → AllPass is_ascii_digit digits
    → AllPass is_value_byte (reason_phrase reason) → EndsInLine ((before ++ space ∷ (digits ++ print_reason reason)) ++ print_end end)
code_line before digits None end all phrase =
    subst (λ (xs : List ℕ). EndsInLine ((before ++ space ∷ xs) ++ print_end end)) (sym (append-nil digits))
    (raw_line before digits space end space_inside (λ i d within. digit_is_value (get_or digits i d) (all i d within)))
code_line before digits (Some text) end all phrase =
    subst (λ (xs : List ℕ). EndsInLine (xs ++ print_end end)) (append_assoc before (space ∷ digits) (space ∷ text))
    (raw_line (before ++ space ∷ digits) text space end space_inside phrase)

regroup_status : (a v d r e s l : List ℕ) → a ++ (v ++ 32 ∷ (d ++ (r ++ (e ++ ((s ++ l) ++ [])))))
    ≡ ((((a ++ v) ++ 32 ∷ (d ++ r)) ++ e) ++ s) ++ l
regroup_status a v d r e s l = simp (append_assoc, cons-append, append-nil)

-- so does the head of a response
pub status_ends : (h : ResponseHead) → IsResponseHead h → EndsInEmptyLine (print_response h)
status_ends h is =
    let before = print_blank h.blank ++ print_version h.minor in
    let fields = flat_map print_field h.fields in
    let start = (before ++ space ∷ (h.digits ++ print_reason h.reason)) ++ print_end h.line_end in
    let whole : print_response h ≡ (start ++ fields) ++ print_end h.last =
    sym (append-nil (print_response h)) ∙ print_response-append h []
    ∙ regroup_status (print_blank h.blank) (print_version h.minor) h.digits (print_reason h.reason) (print_end h.line_end) fields (print_end h.last) in
    let line = fields_line start h.fields (code_line before h.digits h.reason h.line_end is.digits.1 is.reason) is.fields in
    subst (λ (xs : List ℕ). EndsInEmptyLine xs) (sym whole) (empty_behind (start ++ fields) h.last line)
