-- What the query of a page says.
use Rattle.std.proofs.Common.{◌≡◌, ◌≢◌, ◌∙◌, refl, sym, ap, subst, inl, inr, ℕ, zero, suc, ◌+◌, ◌*◌, ◌<◌, ◌≤◌, ◌^◌, Bool, true, false, not, ◌&&◌, ◌||◌, nat_lt, List, [], ◌∷◌, ◌++◌, All, length, map, codes, decimal, append_assoc, append-nil, length-append, arith, lit<}
use Rattle.std.specs.Prelude.{◌==◌, if◌then◌else◌}
use Rattle.std.specs.Char.{is_ascii_alphanumeric, is_ascii_digit}
use Rattle.std.specs.List.{list_all}
use Rattle.std.specs.Str.{IsAscii, bytes_eq}
use Rattle.std.specs.Str.Lossy.{utf8_lossy}
use Rattle.std.proofs.lemmas.Bool.{agree_below_at}
use Rattle.std.proofs.lemmas.Bool.Decides.{nat_tests}
use Rattle.std.proofs.lemmas.List.Elements.{All-cons, All-nil, All-append, All-head, All-tail, All-weaker}
use Rattle.std.proofs.lemmas.Str.{IsUtf8-from_ascii, utf8_lossy-IsUtf8}
use Rattle.percent_encoding.specs.AsciiSet.{contains, should_percent_encode}
use Rattle.percent_encoding.specs.Percent.{percent_decode, percent_encode}
use Rattle.percent_encoding.specs.declared.ascii_set.TheConstants.{NON_ALPHANUMERIC}
use Rattle.percent_encoding.proofs.AsciiSetLemmas.{ascii_from_kept, outside_from_kept}
use Rattle.percent_encoding.proofs.PercentLemmas.{All-percent_encode, IsByte, IsEscapeByte, length-percent_decode, round_trip}
use Rattle.percent_encoding.proofs.StandardFacts.{non_alphanumeric}
use Rattle.form_urlencoded.specs.Form.{IsPlain, decode, raw_pairs, split_once, split_pair}
use Rattle.form_urlencoded.proofs.FormLemmas.{decode_plain, map-plus_to_space, raw_pairs-nil, raw_pairs_first, split_once_after_at, split_once_after_none, split_once_before_at, split_once_before_none}
use Rattle.http_routes.specs.Queries.{Pairs, pairs_of, texts_of, value_of}
use Rattle.wire_client.specs.Calls.{limit_query, token_query}
use Rattle.wire_laws.proofs.Digits.{all_digits, weaker}
use Rattle.far_laws.proofs.Segments.{OfVisible, visible_append}
use Rattle.wire_laws.specs.Sendable.{is_visible}

-- ---- tests of each byte

all_from : (test : ℕ → Bool) (P : ℕ → Type 0) → ((b : ℕ) → test b ≡ true → P b) → (xs : List ℕ) → list_all test xs ≡ true → All P xs
all_from test P implies [] e = All-nil P
all_from test P implies (x ∷ xs) e =
    let h = both_of (test x) (list_all test xs) e in
    All-cons P x xs (implies x h.0) (all_from test P implies xs h.1)
  where
    both_of : (a b : Bool) → (a && b) ≡ true → (a ≡ true) × (b ≡ true)
    both_of true b e = (refl, e)
    both_of false b e = absurd (cc)

ascii_from : (xs : List ℕ) → list_all (λ b. nat_lt b 128) xs ≡ true → IsAscii xs
ascii_from [] e i = lit< tt
ascii_from (x ∷ xs) e zero = let h = left_of (nat_lt x 128) (list_all (λ b. nat_lt b 128) xs) e in grind (arith, nat_tests)
  where
    left_of : (a b : Bool) → (a && b) ≡ true → a ≡ true
    left_of true b e = refl
    left_of false b e = e
ascii_from (x ∷ xs) e (suc i) = ascii_from xs (right_of (nat_lt x 128) (list_all (λ b. nat_lt b 128) xs) e) i
  where
    right_of : (a b : Bool) → (a && b) ≡ true → b ≡ true
    right_of true b e = e
    right_of false b e = absurd (cc)

bytes_of_ascii : (xs : List ℕ) → IsAscii xs → All IsByte xs
bytes_of_ascii [] h = All-nil IsByte
bytes_of_ascii (x ∷ xs) h = let here = h zero in All-cons IsByte x xs (omega (arith, here)) (bytes_of_ascii xs (λ i. h (suc i)))

-- a byte that stands in an escaped value
abbrev is_safe : ℕ → Bool
is_safe b = is_ascii_alphanumeric b || (b == 37)

abbrev IsSafe : ℕ → Type 0
IsSafe b = is_safe b ≡ true

safe_kept : (b : ℕ) → should_percent_encode NON_ALPHANUMERIC b ≡ false → IsSafe b
safe_kept b kept =
    let small = ascii_from_kept NON_ALPHANUMERIC b kept in
    let agrees = agree_below_at (contains NON_ALPHANUMERIC) (λ c. not (is_ascii_alphanumeric c)) 128 b non_alphanumeric small in
    by (is_ascii_alphanumeric b) (sym agrees ∙ outside_from_kept NON_ALPHANUMERIC b kept)
  where
    by : (a : Bool) → not a ≡ false → (a || (b == 37)) ≡ true
    by true e = refl
    by false e = absurd (cc)

safe_escape : (b : ℕ) → IsEscapeByte b → IsSafe b
safe_escape b (inl is) = grind (arith, nat_tests)
safe_escape b (inr (inl digit)) = grind (arith, nat_tests)
safe_escape b (inr (inr letter)) = grind (arith, nat_tests)

escaped_safe : (token : List ℕ) → All IsSafe (percent_encode NON_ALPHANUMERIC token)
escaped_safe token = All-percent_encode IsSafe NON_ALPHANUMERIC token safe_kept safe_escape

no_ampersand : (b : ℕ) → IsSafe b → b ≢ 38
no_ampersand b safe is = grind (arith, nat_tests)

no_plus : (b : ℕ) → IsSafe b → b ≢ 43
no_plus b safe is = grind (arith, nat_tests)

digit_no_ampersand : (b : ℕ) → is_ascii_digit b ≡ true → b ≢ 38
digit_no_ampersand b digit is = grind (arith, nat_tests)

not_byte : (k b : ℕ) → not (b == k) ≡ true → b ≢ k
not_byte k b e is = grind (arith, nat_tests)

plain_pair : (b : ℕ) → (not (b == 43) && not (b == 37)) ≡ true → IsPlain b
plain_pair b e = ((λ is. grind (arith, nat_tests)), (λ is. grind (arith, nat_tests)))

-- ---- a name and its value

same_text : (name : List ℕ) → list_all (λ b. not (b == 43) && not (b == 37)) name ≡ true → list_all (λ b. nat_lt b 128) name ≡ true → utf8_lossy (decode name) ≡ name
same_text name plain ascii =
    ap utf8_lossy (decode_plain name (all_from (λ b. not (b == 43) && not (b == 37)) IsPlain plain_pair name plain))
    ∙ utf8_lossy-IsUtf8 name (IsUtf8-from_ascii name (ascii_from name ascii))

value_skip : (p : List ℕ × List ℕ) (ps : Pairs) → p.0 ≡ codes "limit" → value_of (codes "continue") (p ∷ ps) ≡ value_of (codes "continue") ps
unfolding value_of
value_skip p ps is = ap (λ (name : List ℕ). if bytes_eq name (codes "continue") then p.1 else value_of (codes "continue") ps) is

value_found : (p : List ℕ × List ℕ) (ps : Pairs) → p.0 ≡ codes "continue" → value_of (codes "continue") (p ∷ ps) ≡ p.1
unfolding value_of
value_found p ps is = ap (λ (name : List ℕ). if bytes_eq name (codes "continue") then p.1 else value_of (codes "continue") ps) is

value_none : value_of (codes "continue") [] ≡ []
unfolding value_of
value_none = refl

-- the pairs of one piece, behind which others may stand
one_piece : (piece : List ℕ) → 0 < length piece → All (λ b. b ≢ 38) piece → raw_pairs piece ≡ split_pair piece ∷ []
one_piece piece some none =
    let whole = split_once_before_none 38 piece none in
    let over = split_once_after_none 38 piece none in
    raw_pairs_first piece (subst (λ (q : List ℕ). 0 < length q) (sym whole) some)
    ∙ ap (λ (q : List ℕ). split_pair q ∷ raw_pairs (split_once 38 piece).1) whole
    ∙ ap (λ (q : List ℕ). split_pair piece ∷ raw_pairs q) over ∙ ap (λ (ps : Pairs). split_pair piece ∷ ps) raw_pairs-nil

two_pieces : (piece more : List ℕ) → 0 < length piece → All (λ b. b ≢ 38) piece → raw_pairs (piece ++ 38 ∷ more) ≡ split_pair piece ∷ raw_pairs more
two_pieces piece more some none =
    let whole = split_once_before_at 38 piece more none in
    let over = split_once_after_at 38 piece more none in
    raw_pairs_first (piece ++ 38 ∷ more) (subst (λ (q : List ℕ). 0 < length q) (sym whole) some)
    ∙ ap (λ (q : List ℕ). split_pair q ∷ raw_pairs (split_once 38 (piece ++ 38 ∷ more)).1) whole
    ∙ ap (λ (q : List ℕ). split_pair piece ∷ raw_pairs q) over

-- ---- the query

abbrev limit_piece : ℕ → List ℕ
limit_piece limit = codes "limit=" ++ decimal limit

limit_none : (limit : ℕ) → limit < 2 ^ 64 → All (λ b. b ≢ 38) (limit_piece limit)
limit_none limit small =
    All-append (λ b. b ≢ 38) (codes "limit=") (decimal limit)
    (all_from (λ b. not (b == 38)) (λ b. b ≢ 38) (not_byte 38) (codes "limit=") refl)
    (all_from is_ascii_digit (λ b. b ≢ 38) digit_no_ampersand (decimal limit) (all_digits limit small))

limit_named : (limit : ℕ) → (texts_of (split_pair (limit_piece limit))).0 ≡ codes "limit"
limit_named limit =
    ap (λ (name : List ℕ). utf8_lossy (decode name))
    (split_once_before_at 61 (codes "limit") (decimal limit) (all_from (λ b. not (b == 61)) (λ b. b ≢ 61) (not_byte 61) (codes "limit") refl))
    ∙ same_text (codes "limit") refl refl

abbrev token_piece : List ℕ → List ℕ
token_piece token = codes "continue=" ++ percent_encode NON_ALPHANUMERIC token

token_none : (token : List ℕ) → All (λ b. b ≢ 38) (token_piece token)
token_none token =
    All-append (λ b. b ≢ 38) (codes "continue=") (percent_encode NON_ALPHANUMERIC token)
    (all_from (λ b. not (b == 38)) (λ b. b ≢ 38) (not_byte 38) (codes "continue=") refl)
    (All-weaker IsSafe (λ b. b ≢ 38) no_ampersand (percent_encode NON_ALPHANUMERIC token) (escaped_safe token))

continue_plain : All (λ b. b ≢ 61) (codes "continue")
continue_plain = all_from (λ b. not (b == 61)) (λ b. b ≢ 61) (not_byte 61) (codes "continue") refl

token_named : (token : List ℕ) → (texts_of (split_pair (token_piece token))).0 ≡ codes "continue"
token_named token =
    ap (λ (name : List ℕ). utf8_lossy (decode name)) (split_once_before_at 61 (codes "continue") (percent_encode NON_ALPHANUMERIC token) continue_plain)
    ∙ same_text (codes "continue") refl refl

token_valued : (token : List ℕ) → IsAscii token → (texts_of (split_pair (token_piece token))).1 ≡ token
token_valued token ascii =
    let escaped = percent_encode NON_ALPHANUMERIC token in
    ap (λ (value : List ℕ). utf8_lossy (decode value)) (split_once_after_at 61 (codes "continue") escaped continue_plain)
    ∙ ap (λ (value : List ℕ). utf8_lossy (percent_decode value)) (map-plus_to_space escaped (All-weaker IsSafe (λ b. b ≢ 43) no_plus escaped (escaped_safe token)))
    ∙ ap utf8_lossy (round_trip NON_ALPHANUMERIC token refl (bytes_of_ascii token ascii)) ∙ utf8_lossy-IsUtf8 token (IsUtf8-from_ascii token ascii)

limit_some : (limit : ℕ) → 0 < length (limit_piece limit)
limit_some limit = simp length-append (omega arith)

-- the token that the query gives
pub query_continues : (limit : ℕ) (token : List ℕ) → limit < 2 ^ 64 → IsAscii token → value_of (codes "continue") (pairs_of (codes "limit=" ++ (decimal limit ++ token_query token))) ≡ token
unfolding pairs_of token_query
query_continues limit [] small ascii =
    ap (λ (q : List ℕ). value_of (codes "continue") (map texts_of (raw_pairs (codes "limit=" ++ q)))) (append-nil (decimal limit))
    ∙ ap (λ (ps : Pairs). value_of (codes "continue") (map texts_of ps)) (one_piece (limit_piece limit) (limit_some limit) (limit_none limit small))
    ∙ value_skip (texts_of (split_pair (limit_piece limit))) [] (limit_named limit) ∙ value_none
query_continues limit (b ∷ bs) small ascii =
    let token : List ℕ = b ∷ bs in
    ap (λ (q : List ℕ). value_of (codes "continue") (map texts_of (raw_pairs q))) (sym (append_assoc (codes "limit=") (decimal limit) (38 ∷ token_piece token)))
    ∙ ap (λ (ps : Pairs). value_of (codes "continue") (map texts_of ps))
    (two_pieces (limit_piece limit) (token_piece token) (limit_some limit) (limit_none limit small)
    ∙ ap (λ (ps : Pairs). split_pair (limit_piece limit) ∷ ps) (one_piece (token_piece token) (omega arith) (token_none token)))
    ∙ value_skip (texts_of (split_pair (limit_piece limit))) (texts_of (split_pair (token_piece token)) ∷ []) (limit_named limit)
    ∙ value_found (texts_of (split_pair (token_piece token))) [] (token_named token) ∙ token_valued token ascii

-- ---- how long it is, and that it is visible

safe_visible : (xs : List ℕ) → All IsSafe xs → OfVisible xs
safe_visible [] all = refl
safe_visible (x ∷ xs) all = both (is_visible x) (list_all is_visible xs) (one x (All-head IsSafe x xs all)) (safe_visible xs (All-tail IsSafe x xs all))
  where
    both : (a b : Bool) → a ≡ true → b ≡ true → (a && b) ≡ true
    both true b p q = q
    both false b p q = p

    one : (c : ℕ) → IsSafe c → is_visible c ≡ true
    one c safe = grind (arith, nat_tests)

digit_visible : (b : ℕ) → is_ascii_digit b ≡ true → is_visible b ≡ true
digit_visible b digit = grind (arith, nat_tests)

pub limit_visible : (limit : ℕ) → limit < 2 ^ 64 → OfVisible (limit_query limit)
unfolding limit_query
limit_visible limit small = visible_append (codes "?limit=") (decimal limit) refl (weaker is_ascii_digit is_visible digit_visible (decimal limit) (all_digits limit small))

pub token_visible : (token : List ℕ) → OfVisible (token_query token)
unfolding token_query
token_visible [] = refl
token_visible (b ∷ bs) =
    visible_append (codes "&continue=") (percent_encode NON_ALPHANUMERIC (b ∷ bs)) refl (safe_visible (percent_encode NON_ALPHANUMERIC (b ∷ bs)) (escaped_safe (b ∷ bs)))

pub token_long : (token : List ℕ) → IsAscii token → length (token_query token) ≤ 10 + 3 * length token
unfolding token_query
token_long [] ascii = omega arith
token_long (b ∷ bs) ascii =
    let escaped = percent_encode NON_ALPHANUMERIC (b ∷ bs) in
    let long = (length-percent_decode escaped).1 in
    let back : length (percent_decode escaped) ≡ length (b ∷ bs) = ap (λ (xs : List ℕ). length xs) (round_trip NON_ALPHANUMERIC (b ∷ bs) refl (bytes_of_ascii (b ∷ bs) ascii)) in
    let whole : length (codes "&continue=" ++ escaped) ≡ 10 + length escaped = length-append (codes "&continue=") escaped in
    omega (arith, long, back, whole)
