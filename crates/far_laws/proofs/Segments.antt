-- Paths whose segments stand for themselves.
use Rattle.std.proofs.Common.{◌≡◌, ◌∙◌, ◌==◌, ℕ, suc, ◌+◌, Bool, true, false, ◌&&◌, ◌||◌, nat_le, List, [], ◌∷◌, ◌++◌, All, map, take, drop, length, refl, ap, subst, arith}
use Rattle.std.specs.List.{list_all, position_or_len, onto_first, slice_split, join_with_byte}
use Rattle.std.proofs.lemmas.Bool.Decides.{nat_tests}
use Rattle.std.proofs.lemmas.List.Elements.{All-cons, All-nil, All-head, All-tail}
use Rattle.std.proofs.lemmas.List.Splits.{join_with_byte-slice_split}
use Rattle.percent_encoding.specs.Percent.{percent_decode}
use Rattle.percent_encoding.proofs.PercentLemmas.{KeepsFirst_from_no_escape, percent_decode-nil}
use Rattle.kube_meta.specs.Names.{dot, has_good_ends, is_label, is_label_byte, is_name, is_namespace}
use Rattle.kube_meta.specs.declared.key.TheConstants.{NAMESPACE_BYTES, NAME_BYTES}
use Rattle.http_routes.specs.Paths.{pieces, segments, slash}
use Rattle.http_routes.specs.Routes.{IsPlain, path_in, query_in, question_mark}
use Rattle.wire_laws.specs.Sendable.{is_visible}

not_slash : (b : ℕ) → IsPlain b → (b == slash) ≡ false
not_slash b plain = grind (arith, nat_tests)

not_mark : (b : ℕ) → IsPlain b → (b == question_mark) ≡ false
not_mark b plain = grind (arith, nat_tests)

not_percent : (b : ℕ) → IsPlain b → b ≡ 37 → ⊥
not_percent b plain is = grind (arith, nat_tests)

-- ---- paths

abbrev mark_place : List ℕ → ℕ
mark_place xs = position_or_len (λ b. b == question_mark) xs

with_first : (x : ℕ) (xs : List ℕ) (n : ℕ) → take (1 + n) (x ∷ xs) ≡ x ∷ take n xs
with_first x xs n =
    let more : 1 + n ≡ suc n = omega arith in
    ap (λ (k : ℕ). take k (x ∷ xs)) more

path_step : (x : ℕ) (xs : List ℕ) → IsPlain x → path_in (x ∷ xs) ≡ x ∷ path_in xs
path_step x xs plain = rw (not_mark x plain) (with_first x xs (mark_place xs))

path_slash : (xs ys : List ℕ) → All IsPlain xs → path_in (xs ++ slash ∷ ys) ≡ xs ++ slash ∷ path_in ys
path_slash [] ys all = with_first slash ys (mark_place ys)
path_slash (x ∷ xs) ys all =
    path_step x (xs ++ slash ∷ ys) (All-head IsPlain x xs all) ∙ ap (λ (zs : List ℕ). x ∷ zs) (path_slash xs ys (All-tail IsPlain x xs all))

path_mark : (xs ys : List ℕ) → All IsPlain xs → path_in (xs ++ question_mark ∷ ys) ≡ xs
path_mark [] ys all = refl
path_mark (x ∷ xs) ys all =
    path_step x (xs ++ question_mark ∷ ys) (All-head IsPlain x xs all) ∙ ap (λ (zs : List ℕ). x ∷ zs) (path_mark xs ys (All-tail IsPlain x xs all))

path_alone : (xs : List ℕ) → All IsPlain xs → path_in xs ≡ xs
path_alone [] all = refl
path_alone (x ∷ xs) all = path_step x xs (All-head IsPlain x xs all) ∙ ap (λ (zs : List ℕ). x ∷ zs) (path_alone xs (All-tail IsPlain x xs all))

-- ---- queries

behind_first : (x : ℕ) (xs : List ℕ) (n : ℕ) → drop (1 + n + 1) (x ∷ xs) ≡ drop (n + 1) xs
behind_first x xs n =
    let more : 1 + n + 1 ≡ suc (n + 1) = omega arith in
    ap (λ (k : ℕ). drop k (x ∷ xs)) more

query_step : (x : ℕ) (xs : List ℕ) → IsPlain x → query_in (x ∷ xs) ≡ query_in xs
query_step x xs plain = rw (not_mark x plain) (behind_first x xs (mark_place xs))

pub query_slash : (xs ys : List ℕ) → All IsPlain xs → query_in (xs ++ slash ∷ ys) ≡ query_in ys
query_slash [] ys all = behind_first slash ys (mark_place ys)
query_slash (x ∷ xs) ys all = query_step x (xs ++ slash ∷ ys) (All-head IsPlain x xs all) ∙ query_slash xs ys (All-tail IsPlain x xs all)

pub query_mark : (xs ys : List ℕ) → All IsPlain xs → query_in (xs ++ question_mark ∷ ys) ≡ ys
query_mark [] ys all = refl
query_mark (x ∷ xs) ys all = query_step x (xs ++ question_mark ∷ ys) (All-head IsPlain x xs all) ∙ query_mark xs ys (All-tail IsPlain x xs all)

-- ---- segments

pieces_step : (x : ℕ) (xs : List ℕ) → IsPlain x → pieces (x ∷ xs) ≡ onto_first x (pieces xs)
pieces_step x xs plain = rw (not_slash x plain) refl

pieces_slash : (xs ys : List ℕ) → All IsPlain xs → pieces (xs ++ slash ∷ ys) ≡ xs ∷ pieces ys
pieces_slash [] ys all = refl
pieces_slash (x ∷ xs) ys all =
    pieces_step x (xs ++ slash ∷ ys) (All-head IsPlain x xs all) ∙ ap (onto_first x) (pieces_slash xs ys (All-tail IsPlain x xs all))

pieces_alone : (xs : List ℕ) → All IsPlain xs → pieces xs ≡ xs ∷ []
pieces_alone [] all = refl
pieces_alone (x ∷ xs) all = pieces_step x xs (All-head IsPlain x xs all) ∙ ap (onto_first x) (pieces_alone xs (All-tail IsPlain x xs all))

decode_plain : (xs : List ℕ) → All IsPlain xs → percent_decode xs ≡ xs
decode_plain [] all = percent_decode-nil
decode_plain (x ∷ xs) all =
    KeepsFirst_from_no_escape (x ∷ xs) (λ long is high low. not_percent x (All-head IsPlain x xs all) is)
    ∙ ap (λ (zs : List ℕ). x ∷ zs) (decode_plain xs (All-tail IsPlain x xs all))

pub segments_slash : (xs ys : List ℕ) → All IsPlain xs → segments (path_in (xs ++ slash ∷ ys)) ≡ xs ∷ segments (path_in ys)
segments_slash xs ys all =
    ap segments (path_slash xs ys all)
    ∙ ap (map percent_decode) (pieces_slash xs (path_in ys) all)
    ∙ ap (λ (zs : List ℕ). zs ∷ segments (path_in ys)) (decode_plain xs all)

segments_plain : (xs : List ℕ) → All IsPlain xs → segments xs ≡ xs ∷ []
segments_plain xs all = ap (map percent_decode) (pieces_alone xs all) ∙ ap (λ (zs : List ℕ). zs ∷ []) (decode_plain xs all)

pub segments_alone : (xs : List ℕ) → All IsPlain xs → segments (path_in xs) ≡ xs ∷ []
segments_alone xs all = ap segments (path_alone xs all) ∙ segments_plain xs all

pub segments_mark : (xs ys : List ℕ) → All IsPlain xs → segments (path_in (xs ++ question_mark ∷ ys)) ≡ xs ∷ []
segments_mark xs ys all = ap segments (path_mark xs ys all) ∙ segments_plain xs all

-- ---- names

abbrev pub is_name_byte : ℕ → Bool
is_name_byte b = is_label_byte b || (b == dot)

-- each byte is one of names
abbrev pub OfNames : List ℕ → Type 0
OfNames xs = list_all is_name_byte xs ≡ true

both_of : (a b : Bool) → (a && b) ≡ true → (a ≡ true) × (b ≡ true)
both_of true b e = (refl, e)
both_of false b e = absurd (cc)

both_from : (a b : Bool) → a ≡ true → b ≡ true → (a && b) ≡ true
both_from true b p q = q
both_from false b p q = p

or_left : (a b : Bool) → a ≡ true → (a || b) ≡ true
or_left true b e = refl
or_left false b e = absurd (cc)

label_bytes : (xs : List ℕ) → list_all is_label_byte xs ≡ true → OfNames xs
label_bytes [] e = refl
label_bytes (x ∷ xs) e =
    let h = both_of (is_label_byte x) (list_all is_label_byte xs) e in
    both_from (is_name_byte x) (list_all is_name_byte xs) (or_left (is_label_byte x) (x == dot) h.0) (label_bytes xs h.1)

label_of_names : (part : List ℕ) → is_label part ≡ true → OfNames part
label_of_names part e = label_bytes part (both_of (has_good_ends part) (list_all is_label_byte part) e).1

names_append : (xs ys : List ℕ) → OfNames xs → OfNames ys → OfNames (xs ++ ys)
names_append [] ys h k = k
names_append (x ∷ xs) ys h k =
    let both = both_of (is_name_byte x) (list_all is_name_byte xs) h in
    both_from (is_name_byte x) (list_all is_name_byte (xs ++ ys)) both.0 (names_append xs ys both.1 k)

names_join : (parts : List (List ℕ)) → list_all is_label parts ≡ true → OfNames (join_with_byte 46 parts)
names_join [] e = refl
names_join (x ∷ []) e = label_of_names x (both_of (is_label x) true e).0
names_join (x ∷ y ∷ xs) e =
    let h = both_of (is_label x) (list_all is_label (y ∷ xs)) e in
    names_append x (46 ∷ join_with_byte 46 (y ∷ xs)) (label_of_names x h.0) (names_join (y ∷ xs) h.1)

pub namespace_of_names : (ns : List ℕ) → is_namespace ns ≡ true → OfNames ns
unfolding is_namespace
namespace_of_names ns e = label_of_names ns (both_of (nat_le (length ns) NAMESPACE_BYTES) (is_label ns) e).1

pub name_of_names : (name : List ℕ) → is_name name ≡ true → OfNames name
unfolding is_name
name_of_names name e =
    subst OfNames (join_with_byte-slice_split 46 name)
    (names_join (slice_split (λ b. b == dot) name) (both_of (nat_le (length name) NAME_BYTES) (list_all is_label (slice_split (λ b. b == dot) name)) e).1)

plain_byte : (b : ℕ) → is_name_byte b ≡ true → IsPlain b
plain_byte b e = grind (arith, nat_tests)

visible_byte : (b : ℕ) → is_name_byte b ≡ true → is_visible b ≡ true
visible_byte b e = grind (arith, nat_tests)

pub plain_names : (xs : List ℕ) → OfNames xs → All IsPlain xs
plain_names [] e = All-nil IsPlain
plain_names (x ∷ xs) e =
    let h = both_of (is_name_byte x) (list_all is_name_byte xs) e in
    All-cons IsPlain x xs (plain_byte x h.0) (plain_names xs h.1)

-- each byte is visible
abbrev pub OfVisible : List ℕ → Type 0
OfVisible xs = list_all is_visible xs ≡ true

pub visible_names : (xs : List ℕ) → OfNames xs → OfVisible xs
visible_names [] e = refl
visible_names (x ∷ xs) e =
    let h = both_of (is_name_byte x) (list_all is_name_byte xs) e in
    both_from (is_visible x) (list_all is_visible xs) (visible_byte x h.0) (visible_names xs h.1)

pub visible_append : (xs ys : List ℕ) → OfVisible xs → OfVisible ys → OfVisible (xs ++ ys)
visible_append [] ys h k = k
visible_append (x ∷ xs) ys h k =
    let both = both_of (is_visible x) (list_all is_visible xs) h in
    both_from (is_visible x) (list_all is_visible (xs ++ ys)) both.0 (visible_append xs ys both.1 k)
