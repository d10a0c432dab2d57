-- The text of a value has no line feed, so that lines that are joined are told apart in one way.
use Rattle.std.proofs.Common.{◌≡◌, ◌≢◌, ◌∙◌, refl, sym, ap, ℕ, suc, ◌+◌, ◌/◌, ◌%◌, ◌==◌, nat_lt, cond, Bool, true, false, not, List, [], ◌∷◌, ◌++◌, flat_map, codes, decimal, pos, negsuc, arith}
use Rattle.std.specs.Prelude.{ℤ, FitsSigned, if◌then◌else◌}
use Rattle.std.specs.Int.{w64}
use Rattle.std.specs.Char.{digit_char, is_ascii_digit}
use Rattle.std.specs.Fmt.{signed_decimal}
use Rattle.std.specs.List.{list_all}
use Rattle.std.proofs.lemmas.Bool.{and_parts}
use Rattle.std.proofs.lemmas.Bool.Decides.{nat_tests}
use Rattle.kj_value.specs.Characters.{backslash, backspace, begin_list, begin_object, carriage_return, colon, comma, end_list, end_object, form_feed, line_feed, quote, space, tab}
use Rattle.kj_value.specs.Json.{Items, Json, Members, boolean, item, list, member, no_items, no_members, null, object, text, whole}
use Rattle.kj_value.specs.Sound.{AreRising, AreSoundItems, IsSoundJson}
use Rattle.kj_value.specs.Text.{escaped_byte, escaped_control, items_text, members_text, more_items, more_members, quoted, text_of}
use Rattle.record_dump.specs.Lines.{ended}
use Rattle.record_dump.specs.Restores.{AreInLine}
use Rattle.wire_laws.proofs.Digits.{all_digits}

-- ---- the text of a value

in_append : (xs ys : List ℕ) → AreInLine xs → AreInLine ys → AreInLine (xs ++ ys)
in_append [] ys h k = k
in_append (x ∷ xs) ys h k = (h.0, in_append xs ys h.1 k)

abbrev is_inside : ℕ → Bool
is_inside b = not (b == line_feed)

apart : (b : ℕ) → is_inside b ≡ true → b ≢ line_feed
apart b is same = grind (arith, nat_tests)

apart_test : (b : ℕ) → (b == line_feed) ≡ false → b ≢ line_feed
apart_test b is same = grind (arith, nat_tests)

-- some bytes of which none ends a line
fixed : (xs : List ℕ) → list_all is_inside xs ≡ true → AreInLine xs
fixed [] all = tt
fixed (x ∷ xs) all = let both = and_parts (is_inside x) (list_all is_inside xs) all in (apart x both.0, fixed xs both.1)

digit_apart : (b : ℕ) → is_ascii_digit b ≡ true → b ≢ line_feed
digit_apart b is same = grind (arith, nat_tests)

digits_in : (xs : List ℕ) → list_all is_ascii_digit xs ≡ true → AreInLine xs
digits_in [] all = tt
digits_in (x ∷ xs) all = let both = and_parts (is_ascii_digit x) (list_all is_ascii_digit xs) all in (digit_apart x both.0, digits_in xs both.1)

number_in : (z : ℤ) → FitsSigned w64 z → AreInLine (signed_decimal z)
number_in (pos n) fits = digits_in (decimal n) (all_digits n (omega (arith, fits)))
number_in (negsuc n) fits = (λ e. omega (arith, e), digits_in (decimal (suc n)) (all_digits (suc n) (omega (arith, fits))))

figure_apart : (d : ℕ) → digit_char d ≢ line_feed
figure_apart d = by (nat_lt d 10)
  where
    by : (b : Bool) → cond b (48 + d) (87 + d) ≢ line_feed
    by true e = omega (arith, e)
    by false e = omega (arith, e)

one_of : (b : Bool) (xs ys : List ℕ) → AreInLine xs → (b ≡ false → AreInLine ys) → AreInLine (if b then xs else ys)
one_of true xs ys h k = h
one_of false xs ys h k = k refl

control_in : (x : ℕ) → AreInLine (escaped_control x)
control_in x = in_append (codes "\\u00") (digit_char (x / 16) ∷ digit_char (x % 16) ∷ []) (fixed (codes "\\u00") refl) (figure_apart (x / 16), (figure_apart (x % 16), tt))

byte_in : (x : ℕ) → AreInLine (escaped_byte x)
byte_in x =
    one_of (x == quote) (codes "\\\"") _ (fixed (codes "\\\"") refl) (λ e1.
    one_of (x == backslash) (codes "\\\\") _ (fixed (codes "\\\\") refl) (λ e2.
    one_of (x == backspace) (codes "\\b") _ (fixed (codes "\\b") refl) (λ e3.
    one_of (x == tab) (codes "\\t") _ (fixed (codes "\\t") refl) (λ e4.
    one_of (x == line_feed) (codes "\\n") _ (fixed (codes "\\n") refl) (λ e5.
    one_of (x == form_feed) (codes "\\f") _ (fixed (codes "\\f") refl) (λ e6.
    one_of (x == carriage_return) (codes "\\r") _ (fixed (codes "\\r") refl) (λ e7.
    one_of (nat_lt x space) (escaped_control x) (x ∷ []) (control_in x) (λ e8. (apart_test x e5, tt)))))))))

bytes_in : (s : List ℕ) → AreInLine (flat_map escaped_byte s)
bytes_in [] = tt
bytes_in (x ∷ s) = in_append (escaped_byte x) (flat_map escaped_byte s) (byte_in x) (bytes_in s)

other : (b : ℕ) → is_inside b ≡ true → (xs : List ℕ) → AreInLine xs → AreInLine (b ∷ xs)
other b is xs h = (apart b is, h)

quoted_in : (s : List ℕ) → AreInLine (quoted s)
quoted_in s = other quote refl (flat_map escaped_byte s ++ quote ∷ []) (in_append (flat_map escaped_byte s) (quote ∷ []) (bytes_in s) (fixed (quote ∷ []) refl))

member_in : (k value rest : List ℕ) → AreInLine value → AreInLine rest → AreInLine (quoted k ++ colon ∷ (value ++ rest))
member_in k value rest h g = in_append (quoted k) (colon ∷ (value ++ rest)) (quoted_in k) (other colon refl (value ++ rest) (in_append value rest h g))

mutual
  pub text_in : (j : Json) → IsSoundJson j → AreInLine (text_of j)
  text_in null s = fixed (codes "null") refl
  text_in (boolean true) s = fixed (codes "true") refl
  text_in (boolean false) s = fixed (codes "false") refl
  text_in (whole z) s = number_in z s
  text_in (text t) s = quoted_in t
  text_in (list js) s = other begin_list refl (items_text js ++ end_list ∷ []) (in_append (items_text js) (end_list ∷ []) (items_in js s) (fixed (end_list ∷ []) refl))
  text_in (object ms) s = other begin_object refl (members_text ms ++ end_object ∷ []) (in_append (members_text ms) (end_object ∷ []) (members_in ms s) (fixed (end_object ∷ []) refl))

  items_in : (js : Items) → AreSoundItems js → AreInLine (items_text js)
  items_in no_items s = tt
  items_in (item j js) s = in_append (text_of j) (more_items js) (text_in j s.0) (more_items_in js s.1)

  more_items_in : (js : Items) → AreSoundItems js → AreInLine (more_items js)
  more_items_in no_items s = tt
  more_items_in (item j js) s = other comma refl (text_of j ++ more_items js) (in_append (text_of j) (more_items js) (text_in j s.0) (more_items_in js s.1))

  members_in : (ms : Members) → AreRising ms → AreInLine (members_text ms)
  members_in no_members s = tt
  members_in (member k j ms) s = member_in k (text_of j) (more_members ms) (text_in j s.1) (more_members_in ms s.2)

  more_members_in : (ms : Members) → AreRising ms → AreInLine (more_members ms)
  more_members_in no_members s = tt
  more_members_in (member k j ms) s =
      other comma refl (quoted k ++ colon ∷ (text_of j ++ more_members ms)) (member_in k (text_of j) (more_members ms) (text_in j s.1) (more_members_in ms s.2))

-- ---- lines

head_is : (x y : ℕ) (xs ys : List ℕ) → x ∷ xs ≡ y ∷ ys → x ≡ y
head_is x y xs ys e = cc

tail_is : (x y : ℕ) (xs ys : List ℕ) → x ∷ xs ≡ y ∷ ys → xs ≡ ys
tail_is x y xs ys e = cc

-- one line and another before the rest of each are one line
pub first_line : (xs ys rest more : List ℕ) → AreInLine xs → AreInLine ys → ended xs ++ rest ≡ ended ys ++ more → (xs ≡ ys) × (rest ≡ more)
first_line [] [] rest more h k e = (refl, tail_is line_feed line_feed rest more e)
first_line [] (y ∷ ys) rest more h k e = absurd (k.0 (sym (head_is line_feed y rest (ended ys ++ more) e)))
first_line (x ∷ xs) [] rest more h k e = absurd (h.0 (head_is x line_feed (ended xs ++ rest) more e))
first_line (x ∷ xs) (y ∷ ys) rest more h k e =
    let same = head_is x y (ended xs ++ rest) (ended ys ++ more) e in
    let others = first_line xs ys rest more h.1 k.1 (tail_is x y (ended xs ++ rest) (ended ys ++ more) e) in
    (ap (λ (b : ℕ). b ∷ xs) same ∙ ap (λ (bs : List ℕ). y ∷ bs) others.0, others.1)

-- a line is something
pub some_line : (xs rest : List ℕ) → ended xs ++ rest ≡ [] → ⊥
some_line [] rest e = cc
some_line (x ∷ xs) rest e = cc
