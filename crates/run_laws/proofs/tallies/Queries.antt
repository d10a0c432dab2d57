-- The pairs of a page's query, of which none is refused.
use Rattle.std.proofs.Common.{◌≡◌, ◌≢◌, ◌∙◌, refl, sym, ap, subst, inl, inr, ℕ, zero, suc, ◌<◌, ◌≤◌, ◌^◌, Bool, true, false, not, ◌&&◌, ◌||◌, nat_le, nat_lt, List, [], ◌∷◌, ◌++◌, All, length, map, None, Some, codes, decimal, append_assoc, append-nil, length-append, arith, lit<}
use Rattle.std.specs.Prelude.{◌==◌, ◌⊎◌, if◌then◌else◌}
use Rattle.std.specs.Char.{is_ascii_alphanumeric, is_ascii_digit}
use Rattle.std.specs.List.{list_all}
use Rattle.std.specs.Str.{IsAscii}
use Rattle.std.specs.Str.Lossy.{utf8_lossy}
use Rattle.std.specs.Str.Parse.{digits_value}
use Rattle.std.proofs.lemmas.Bool.{agree_below_at, le-leb}
use Rattle.std.proofs.lemmas.Bool.Decides.{nat_tests}
use Rattle.std.proofs.lemmas.Fmt.{decimal_is_IsNumeral, length-decimal-le}
use Rattle.std.proofs.lemmas.List.Elements.{All-cons, All-nil, All-append, All-weaker}
use Rattle.std.proofs.lemmas.Str.{IsUtf8-from_ascii, utf8_lossy-IsUtf8}
use Rattle.percent_encoding.specs.AsciiSet.{contains, should_percent_encode}
use Rattle.percent_encoding.specs.Percent.{percent_decode, percent_encode}
use Rattle.percent_encoding.specs.declared.ascii_set.TheConstants.{NON_ALPHANUMERIC}
use Rattle.percent_encoding.proofs.AsciiSetLemmas.{ascii_from_kept, outside_from_kept}
use Rattle.percent_encoding.proofs.PercentLemmas.{All-percent_encode, IsByte, IsEscapeByte, round_trip}
use Rattle.percent_encoding.proofs.StandardFacts.{non_alphanumeric}
use Rattle.form_urlencoded.specs.Form.{IsPlain, decode, raw_pairs, split_once, split_pair}
use Rattle.form_urlencoded.proofs.FormLemmas.{decode_plain, map-plus_to_space, raw_pairs-nil, raw_pairs_first, split_once_after_at, split_once_after_none, split_once_before_at, split_once_before_none}
use Rattle.api_calls.specs.Cause.{WhyView}
use Rattle.http_routes.specs.Queries.{GoesOn, HasNoToken, ListReads, Pairs, bad, first_refused, is_limit, list_rules, common_rules, paged, pairs_of, texts_of, value_of}
use Rattle.http_routes.specs.Actions.{Paging}
use Rattle.wire_client.specs.Calls.{token_query}
use Rattle.wire_laws.proofs.Digits.{all_digits}
use Rattle.far_laws.specs.Answering.{IsTold}

-- ---- tests of each byte

all_from : (test : ℕ → Bool) (P : ℕ → Type 0) → ((b : ℕ) → test b ≡ true → P b) → (xs : List ℕ) → list_all test xs ≡ true → All P xs
all_from test P implies [] e = All-nil P
all_from test P implies (x ∷ xs) e =
    let h = both_of (test x) (list_all test xs) e in
    All-cons P x xs (implies x h.0) (all_from test P implies xs h.1)
  where
    both_of : (a b : Bool) → (a && b) ≡ true → (a ≡ true) × (b ≡ true)
    both_of true b e = (refl, e)
    both_of false b e = absurd (cc)

ascii_from : (xs : List ℕ) → list_all (λ b. nat_lt b 128) xs ≡ true → IsAscii xs
ascii_from [] e i = lit< tt
ascii_from (x ∷ xs) e zero = let h = left_of (nat_lt x 128) (list_all (λ b. nat_lt b 128) xs) e in grind (arith, nat_tests)
  where
    left_of : (a b : Bool) → (a && b) ≡ true → a ≡ true
    left_of true b e = refl
    left_of false b e = e
ascii_from (x ∷ xs) e (suc i) = ascii_from xs (right_of (nat_lt x 128) (list_all (λ b. nat_lt b 128) xs) e) i
  where
    right_of : (a b : Bool) → (a && b) ≡ true → b ≡ true
    right_of true b e = e
    right_of false b e = absurd (cc)

bytes_of_ascii : (xs : List ℕ) → IsAscii xs → All IsByte xs
bytes_of_ascii [] h = All-nil IsByte
bytes_of_ascii (x ∷ xs) h = let here = h zero in All-cons IsByte x xs (omega (arith, here)) (bytes_of_ascii xs (λ i. h (suc i)))

-- a byte that stands in an escaped value
abbrev is_safe : ℕ → Bool
is_safe b = is_ascii_alphanumeric b || (b == 37)

abbrev IsSafe : ℕ → Type 0
IsSafe b = is_safe b ≡ true

safe_kept : (b : ℕ) → should_percent_encode NON_ALPHANUMERIC b ≡ false → IsSafe b
safe_kept b kept =
    let small = ascii_from_kept NON_ALPHANUMERIC b kept in
    let agrees = agree_below_at (contains NON_ALPHANUMERIC) (λ c. not (is_ascii_alphanumeric c)) 128 b non_alphanumeric small in
    by (is_ascii_alphanumeric b) (sym agrees ∙ outside_from_kept NON_ALPHANUMERIC b kept)
  where
    by : (a : Bool) → not a ≡ false → (a || (b == 37)) ≡ true
    by true e = refl
    by false e = absurd (cc)

safe_escape : (b : ℕ) → IsEscapeByte b → IsSafe b
safe_escape b (inl is) = grind (arith, nat_tests)
safe_escape b (inr (inl digit)) = grind (arith, nat_tests)
safe_escape b (inr (inr letter)) = grind (arith, nat_tests)

escaped_safe : (token : List ℕ) → All IsSafe (percent_encode NON_ALPHANUMERIC token)
escaped_safe token = All-percent_encode IsSafe NON_ALPHANUMERIC token safe_kept safe_escape

no_ampersand : (b : ℕ) → IsSafe b → b ≢ 38
no_ampersand b safe is = grind (arith, nat_tests)

no_plus : (b : ℕ) → IsSafe b → b ≢ 43
no_plus b safe is = grind (arith, nat_tests)

digit_no_ampersand : (b : ℕ) → is_ascii_digit b ≡ true → b ≢ 38
digit_no_ampersand b digit is = grind (arith, nat_tests)

not_byte : (k b : ℕ) → not (b == k) ≡ true → b ≢ k
not_byte k b e is = grind (arith, nat_tests)

plain_pair : (b : ℕ) → (not (b == 43) && not (b == 37)) ≡ true → IsPlain b
plain_pair b e = ((λ is. grind (arith, nat_tests)), (λ is. grind (arith, nat_tests)))

-- ---- a name and its value

same_text : (name : List ℕ) → list_all (λ b. not (b == 43) && not (b == 37)) name ≡ true → list_all (λ b. nat_lt b 128) name ≡ true → utf8_lossy (decode name) ≡ name
same_text name plain ascii =
    ap utf8_lossy (decode_plain name (all_from (λ b. not (b == 43) && not (b == 37)) IsPlain plain_pair name plain))
    ∙ utf8_lossy-IsUtf8 name (IsUtf8-from_ascii name (ascii_from name ascii))

-- the pairs of one piece, behind which others may stand
one_piece : (piece : List ℕ) → 0 < length piece → All (λ b. b ≢ 38) piece → raw_pairs piece ≡ split_pair piece ∷ []
one_piece piece some none =
    let whole = split_once_before_none 38 piece none in
    let over = split_once_after_none 38 piece none in
    raw_pairs_first piece (subst (λ (q : List ℕ). 0 < length q) (sym whole) some)
    ∙ ap (λ (q : List ℕ). split_pair q ∷ raw_pairs (split_once 38 piece).1) whole
    ∙ ap (λ (q : List ℕ). split_pair piece ∷ raw_pairs q) over ∙ ap (λ (ps : Pairs). split_pair piece ∷ ps) raw_pairs-nil

two_pieces : (piece more : List ℕ) → 0 < length piece → All (λ b. b ≢ 38) piece → raw_pairs (piece ++ 38 ∷ more) ≡ split_pair piece ∷ raw_pairs more
two_pieces piece more some none =
    let whole = split_once_before_at 38 piece more none in
    let over = split_once_after_at 38 piece more none in
    raw_pairs_first (piece ++ 38 ∷ more) (subst (λ (q : List ℕ). 0 < length q) (sym whole) some)
    ∙ ap (λ (q : List ℕ). split_pair q ∷ raw_pairs (split_once 38 (piece ++ 38 ∷ more)).1) whole
    ∙ ap (λ (q : List ℕ). split_pair piece ∷ raw_pairs q) over

-- ---- the query

abbrev limit_piece : ℕ → List ℕ
limit_piece limit = codes "limit=" ++ decimal limit

limit_none : (limit : ℕ) → limit < 2 ^ 64 → All (λ b. b ≢ 38) (limit_piece limit)
limit_none limit small =
    All-append (λ b. b ≢ 38) (codes "limit=") (decimal limit)
    (all_from (λ b. not (b == 38)) (λ b. b ≢ 38) (not_byte 38) (codes "limit=") refl)
    (all_from is_ascii_digit (λ b. b ≢ 38) digit_no_ampersand (decimal limit) (all_digits limit small))

limit_named : (limit : ℕ) → (texts_of (split_pair (limit_piece limit))).0 ≡ codes "limit"
limit_named limit =
    ap (λ (name : List ℕ). utf8_lossy (decode name))
    (split_once_before_at 61 (codes "limit") (decimal limit) (all_from (λ b. not (b == 61)) (λ b. b ≢ 61) (not_byte 61) (codes "limit") refl))
    ∙ same_text (codes "limit") refl refl

digits_ascii : (ds : List ℕ) → list_all is_ascii_digit ds ≡ true → IsAscii ds
digits_ascii [] e i = lit< tt
digits_ascii (d ∷ ds) e zero = let h = left_of (is_ascii_digit d) (list_all is_ascii_digit ds) e in grind (arith, nat_tests)
  where
    left_of : (a b : Bool) → (a && b) ≡ true → a ≡ true
    left_of true b e = refl
    left_of false b e = e
digits_ascii (d ∷ ds) e (suc i) = digits_ascii ds (right_of (is_ascii_digit d) (list_all is_ascii_digit ds) e) i
  where
    right_of : (a b : Bool) → (a && b) ≡ true → b ≡ true
    right_of true b e = e
    right_of false b e = absurd (cc)

plain_digit : (b : ℕ) → is_ascii_digit b ≡ true → IsPlain b
plain_digit b e = ((λ is. grind (arith, nat_tests)), (λ is. grind (arith, nat_tests)))

limit_valued : (limit : ℕ) → limit < 2 ^ 64 → (texts_of (split_pair (limit_piece limit))).1 ≡ decimal limit
limit_valued limit small =
    let digits = all_digits limit small in
    ap (λ (value : List ℕ). utf8_lossy (decode value))
    (split_once_after_at 61 (codes "limit") (decimal limit) (all_from (λ b. not (b == 61)) (λ b. b ≢ 61) (not_byte 61) (codes "limit") refl))
    ∙ ap utf8_lossy (decode_plain (decimal limit) (all_from is_ascii_digit IsPlain plain_digit (decimal limit) digits))
    ∙ utf8_lossy-IsUtf8 (decimal limit) (IsUtf8-from_ascii (decimal limit) (digits_ascii (decimal limit) digits))

abbrev token_piece : List ℕ → List ℕ
token_piece token = codes "continue=" ++ percent_encode NON_ALPHANUMERIC token

token_none : (token : List ℕ) → All (λ b. b ≢ 38) (token_piece token)
token_none token =
    All-append (λ b. b ≢ 38) (codes "continue=") (percent_encode NON_ALPHANUMERIC token)
    (all_from (λ b. not (b == 38)) (λ b. b ≢ 38) (not_byte 38) (codes "continue=") refl)
    (All-weaker IsSafe (λ b. b ≢ 38) no_ampersand (percent_encode NON_ALPHANUMERIC token) (escaped_safe token))

continue_plain : All (λ b. b ≢ 61) (codes "continue")
continue_plain = all_from (λ b. not (b == 61)) (λ b. b ≢ 61) (not_byte 61) (codes "continue") refl

token_named : (token : List ℕ) → (texts_of (split_pair (token_piece token))).0 ≡ codes "continue"
token_named token =
    ap (λ (name : List ℕ). utf8_lossy (decode name)) (split_once_before_at 61 (codes "continue") (percent_encode NON_ALPHANUMERIC token) continue_plain)
    ∙ same_text (codes "continue") refl refl

token_valued : (token : List ℕ) → IsAscii token → (texts_of (split_pair (token_piece token))).1 ≡ token
token_valued token ascii =
    let escaped = percent_encode NON_ALPHANUMERIC token in
    ap (λ (value : List ℕ). utf8_lossy (decode value)) (split_once_after_at 61 (codes "continue") escaped continue_plain)
    ∙ ap (λ (value : List ℕ). utf8_lossy (percent_decode value)) (map-plus_to_space escaped (All-weaker IsSafe (λ b. b ≢ 43) no_plus escaped (escaped_safe token)))
    ∙ ap utf8_lossy (round_trip NON_ALPHANUMERIC token refl (bytes_of_ascii token ascii)) ∙ utf8_lossy-IsUtf8 token (IsUtf8-from_ascii token ascii)

limit_some : (limit : ℕ) → 0 < length (limit_piece limit)
limit_some limit = simp length-append (omega arith)

pair_is : (p : List ℕ × List ℕ) (a b : List ℕ) → p.0 ≡ a → p.1 ≡ b → p ≡ (a, b)
pair_is p a b first second = λ i. (first i, second i)

-- the pairs of the query of a first page, and of one behind a token
abbrev limit_pair : ℕ → List ℕ × List ℕ
limit_pair limit = (codes "limit", decimal limit)

first_pairs : (limit : ℕ) → limit < 2 ^ 64 → pairs_of (codes "limit=" ++ (decimal limit ++ token_query [])) ≡ limit_pair limit ∷ []
unfolding pairs_of token_query
first_pairs limit small =
    ap (λ (q : List ℕ). map texts_of (raw_pairs (codes "limit=" ++ q))) (append-nil (decimal limit))
    ∙ ap (map texts_of) (one_piece (limit_piece limit) (limit_some limit) (limit_none limit small))
    ∙ ap (λ (p : List ℕ × List ℕ). p ∷ []) (pair_is (texts_of (split_pair (limit_piece limit))) (codes "limit") (decimal limit) (limit_named limit) (limit_valued limit small))

next_pairs : (limit : ℕ) (b : ℕ) (bs : List ℕ) → limit < 2 ^ 64 → IsAscii (b ∷ bs)
    → pairs_of (codes "limit=" ++ (decimal limit ++ token_query (b ∷ bs))) ≡ limit_pair limit ∷ (codes "continue", b ∷ bs) ∷ []
unfolding pairs_of token_query
next_pairs limit b bs small ascii =
    let token : List ℕ = b ∷ bs in
    ap (λ (q : List ℕ). map texts_of (raw_pairs q)) (sym (append_assoc (codes "limit=") (decimal limit) (38 ∷ token_piece token)))
    ∙ ap (map texts_of)
    (two_pieces (limit_piece limit) (token_piece token) (limit_some limit) (limit_none limit small)
    ∙ ap (λ (ps : Pairs). split_pair (limit_piece limit) ∷ ps) (one_piece (token_piece token) (omega arith) (token_none token)))
    ∙ ap (λ (p : List ℕ × List ℕ). p ∷ texts_of (split_pair (token_piece token)) ∷ []) (pair_is (texts_of (split_pair (limit_piece limit))) (codes "limit") (decimal limit) (limit_named limit) (limit_valued limit small))
    ∙ ap (λ (p : List ℕ × List ℕ). limit_pair limit ∷ p ∷ []) (pair_is (texts_of (split_pair (token_piece token))) (codes "continue") token (token_named token) (token_valued token ascii))

-- ---- what they come to

-- the pairs give this limit and this token, and no other key a value
record AreTurned (limit : ℕ) (token : List ℕ) (ps : Pairs) : Type 0 where
  allowed : first_refused list_rules ps ≡ None
  limited : value_of (codes "limit") ps ≡ decimal limit
  continued : value_of (codes "continue") ps ≡ token

limit_good : (v : List ℕ) → length v ≤ 18 → list_all is_ascii_digit v ≡ true → is_limit v ≡ true
limit_good v few pass = let e : nat_le (length v) 18 ≡ true = le-leb (length v) 18 few in rw (e, pass) refl

limit_allowed : (limit : ℕ) → limit ≤ 500 → is_limit (decimal limit) ≡ true
limit_allowed limit few =
    let digits : length (decimal limit) ≤ 3 = length-decimal-le 3 limit (omega arith) (omega (arith, few)) (omega (arith, few)) in
    limit_good (decimal limit) (omega (arith, digits)) (all_digits limit (omega (arith, few)))

first_turned : (limit : ℕ) → limit ≤ 500 → AreTurned limit [] (limit_pair limit ∷ [])
unfolding first_refused value_of
first_turned limit few = record {
  allowed = ap (λ (b : Bool). if b then None else Some (codes "limit")) (limit_allowed limit few);
  limited = refl;
  continued = refl;
}

next_turned : (limit : ℕ) (token : List ℕ) → limit ≤ 500 → AreTurned limit token (limit_pair limit ∷ (codes "continue", token) ∷ [])
unfolding first_refused value_of
next_turned limit token few = record {
  allowed = ap (λ (b : Bool). if b then None else Some (codes "limit")) (limit_allowed limit few);
  limited = refl;
  continued = refl;
}

turned : (limit : ℕ) (token : List ℕ) → limit ≤ 500 → IsAscii token → AreTurned limit token (pairs_of (codes "limit=" ++ (decimal limit ++ token_query token)))
turned limit [] few ascii = subst (λ (ps : Pairs). AreTurned limit [] ps) (sym (first_pairs limit (omega (arith, few)))) (first_turned limit few)
turned limit (b ∷ bs) few ascii = subst (λ (ps : Pairs). AreTurned limit (b ∷ bs) ps) (sym (next_pairs limit b bs (omega (arith, few)) ascii)) (next_turned limit (b ∷ bs) few)

-- a list with these pairs isn't refused
pub not_bad : (limit : ℕ) (token : List ℕ) (why : WhyView) → limit ≤ 500 → IsAscii token → (token ≡ []) ⊎ IsTold token
    → ListReads None (pairs_of (codes "limit=" ++ (decimal limit ++ token_query token))) (bad why) → ⊥
not_bad limit token why few ascii told reads = by reads
  where
    t : AreTurned limit token (pairs_of (codes "limit=" ++ (decimal limit ++ token_query token)))
    t = turned limit token few ascii

    never : (key : List ℕ) → None ≡ Some key → ⊥
    never key e = cc

    by_told : (token ≡ []) ⊎ IsTold token → HasNoToken None token → ⊥
    by_told (inl none) h = h.0 none
    by_told (inr is) h = h.1 is.number is.key (record { token = is.token; spelled = sym is.spelled; within = refl })

    by : ListReads None (pairs_of (codes "limit=" ++ (decimal limit ++ token_query token))) (bad why) → ⊥
    by (inl refused) = never refused.0 (sym t.allowed ∙ refused.1)
    by (inr h) = by_told told (subst (λ (text : List ℕ). HasNoToken None text) t.continued h.1)

-- and goes on with the token, up to the limit
pub is_paged : (limit : ℕ) (token : List ℕ) (p : Paging) → limit ≤ 500 → IsAscii token
    → ListReads None (pairs_of (codes "limit=" ++ (decimal limit ++ token_query token))) (paged p) → (p.limit ≡ limit) × GoesOn None token p.from
is_paged limit token p few ascii reads =
    let t = turned limit token few ascii in (
      reads.1 ∙ ap (digits_value 10) t.limited ∙ (decimal_is_IsNumeral limit (omega (arith, few))).1,
      subst (λ (text : List ℕ). GoesOn None text p.from) t.continued reads.2,
    )

-- without a query no key is refused
pub none_refused : first_refused common_rules (pairs_of []) ≡ None
unfolding pairs_of first_refused value_of
none_refused = rw raw_pairs-nil refl
