-- Lines of tokens: where they are cut, that they are ASCII, and that lines and texts tell tokens apart.
use Rattle.std.proofs.Common.{◌≡◌, ◌≢◌, ℕ, zero, suc, ◌<◌, ◌≤◌, ◌^◌, Bool, true, false, not, ◌&&◌, List, [], ◌∷◌, ◌++◌, length, get_or, refl, sym, ap, ◌∙◌, subst, arith, lit<, Ok, Err, IsUtf8, append_assoc, Bor}
use Rattle.std.specs.Prelude.{codes, decimal, nat_le, ◌==◌, Option, Some, None, MatchOption}
use Rattle.std.specs.List.{list_all, slice_split, join_with_byte}
use Rattle.std.specs.Str.{IsAscii}
use Rattle.std.proofs.lemmas.Bool.Decides.{nat_tests}
use Rattle.std.proofs.lemmas.Fmt.{decimal_is_IsNumeral, decimal_injective, IsAscii-decimal}
use Rattle.std.proofs.lemmas.List.Splits.{join_with_byte-slice_split}
use Rattle.std.proofs.lemmas.Str.{IsAscii-append, IsUtf8-from_ascii}
use Rattle.std.proofs.lemmas.Str.Parse.{digit_at}
use Rattle.std.proofs.lemmas.Str.Pattern.{IsSplitOnceResult, split_parts}
use Rattle.base64.specs.declared.decode.DecodeError.{DecodeError}
use Rattle.base64.specs.declared.engine.general_purpose.GeneralPurpose.{GeneralPurpose}
use Rattle.base64.specs.GeneralPurpose.{encode_of, decode_of, IsConsistent}
use Rattle.base64.specs.Engines.{url_safe_no_pad}
use Rattle.base64.proofs.EngineFacts.{decode_of-encode_of}
use Rattle.kube_meta.specs.Key.{KeyView}
use Rattle.kube_meta.specs.Names.{dot, is_label_byte, is_label, is_namespace, is_name}
use Rattle.kube_meta.specs.declared.key.TheConstants.{NAMESPACE_BYTES, NAME_BYTES}
use Rattle.api_calls.specs.declared.token.TokenFault.{TokenFault}
use Rattle.api_calls.specs.declared.token.TokenFault.TheVariants.{BadToken, NoMemory}
use Rattle.api_calls.specs.Token.{IsToken, token_line, token_text, RefusesToken, RefusesLine, space}

-- ---- where a line is cut

pub negated : (b : Bool) → not b ≡ true → false ≡ b
negated true e = e
negated false e = refl

pub not_negated : (b : Bool) → not b ≡ false → true ≡ b
not_negated true e = refl
not_negated false e = e

-- a test tells lists apart
pub apart : (f : List ℕ → Bool) (a b : List ℕ) → a ≡ b → f a ≡ false → f b ≡ true → ⊥
apart f a b e g h = let same : f a ≡ f b = ap f e in cc (same, g, h)

abbrev pub NoSpace : List ℕ → Type 0
NoSpace bs = (i : ℕ) → i < length bs → get_or bs i 0 ≢ space

-- a list is cut at its first space in one way
pub one_cut : (xs us ys vs : List ℕ) → NoSpace xs → NoSpace us → xs ++ space ∷ ys ≡ us ++ space ∷ vs → (xs ≡ us) × (ys ≡ vs)
one_cut [] [] ys vs n m e = (refl, cc)
one_cut [] (u ∷ us) ys vs n m e = absurd (m 0 (omega arith) (cc))
one_cut (x ∷ xs) [] ys vs n m e = absurd (n 0 (omega arith) (cc))
one_cut (x ∷ xs) (u ∷ us) ys vs n m e =
    let tail : xs ++ space ∷ ys ≡ us ++ space ∷ vs = cc in
    let rest = one_cut xs us ys vs (λ i h. n (suc i) (omega arith)) (λ i h. m (suc i) (omega arith)) tail in
    let same : xs ≡ us = rest.0 in
    (cc, rest.1)

no_cut : (xs ys : List ℕ) → NoSpace (xs ++ space ∷ ys) → ⊥
no_cut [] ys n = n 0 (omega arith) refl
no_cut (x ∷ xs) ys n = no_cut xs ys (λ i h. n (suc i) (omega arith))

-- what a cut at a space gives
pub cut_at_space : (bs : List ℕ) (r : Option (Bor (List ℕ) × Bor (List ℕ))) → IsSplitOnceResult space bs r → MatchOption r ((xs ys : List ℕ) → bs ≢ xs ++ space ∷ ys) (λ p. (bs ≡ p.0.now ++ space ∷ p.1.now) × NoSpace p.0.now)
cut_at_space bs None h = λ xs ys e. no_cut xs ys (subst NoSpace e (split_parts space bs None h (lit< tt)))
cut_at_space bs (Some p) h = split_parts space bs (Some p) h (lit< tt)

-- ---- bytes of labels

-- bytes from `-` on, in ASCII
abbrev Plain : List ℕ → Type 0
Plain [] = Unit {0}
Plain (b ∷ bs) = (45 ≤ b) × (b < 128) × Plain bs

plain-append : (xs ys : List ℕ) → Plain xs → Plain ys → Plain (xs ++ ys)
plain-append [] ys h k = k
plain-append (x ∷ xs) ys h k = (h.0, h.1, plain-append xs ys h.2 k)

plain-ascii : (bs : List ℕ) → Plain bs → IsAscii bs
plain-ascii [] h i = lit< tt
plain-ascii (b ∷ bs) h zero = h.1
plain-ascii (b ∷ bs) h (suc i) = plain-ascii bs h.2 i

plain-no_space : (bs : List ℕ) → Plain bs → NoSpace bs
plain-no_space [] h i p e = absurd (omega arith)
plain-no_space (b ∷ bs) h zero p e = absurd (omega (arith, h.0, e))
plain-no_space (b ∷ bs) h (suc i) p e = plain-no_space bs h.2 i (omega arith) e

and_left : (a b : Bool) → (a && b) ≡ true → a ≡ true
and_left true b e = refl
and_left false b e = e

and_right : (a b : Bool) → (a && b) ≡ true → b ≡ true
and_right true b e = e
and_right false b e = absurd (cc)

label_byte : (b : ℕ) → is_label_byte b ≡ true → (45 ≤ b) × (b < 128)
label_byte b e = (grind (arith, nat_tests), grind (arith, nat_tests))

plain-bytes : (bs : List ℕ) → list_all is_label_byte bs ≡ true → Plain bs
plain-bytes [] e = tt
plain-bytes (b ∷ bs) e =
    let here = label_byte b (and_left _ _ e) in
    (here.0, here.1, plain-bytes bs (and_right _ _ e))

plain-label : (part : List ℕ) → is_label part ≡ true → Plain part
plain-label part e = plain-bytes part (and_right _ _ e)

plain-join : (parts : List (List ℕ)) → list_all is_label parts ≡ true → Plain (join_with_byte 46 parts)
plain-join [] e = tt
plain-join (x ∷ []) e = plain-label x (and_left _ _ e)
plain-join (x ∷ y ∷ xs) e =
    plain-append x _ (plain-label x (and_left _ _ e)) (omega arith, omega arith, plain-join (y ∷ xs) (and_right _ _ e))

plain-namespace : (ns : List ℕ) → is_namespace ns ≡ true → Plain ns
unfolding is_namespace
plain-namespace ns e = plain-label ns (and_right _ _ e)

plain-name : (name : List ℕ) → is_name name ≡ true → Plain name
unfolding is_name
plain-name name e =
    let parts = slice_split (λ b. b == dot) name in
    subst Plain (join_with_byte-slice_split 46 name) (plain-join parts (and_right (nat_le (length name) NAME_BYTES) (list_all is_label parts) e))

le_from : (m n : ℕ) → nat_le m n ≡ true → m ≤ n
le_from m n e = grind (arith, nat_tests)

pub namespace_fits : (ns : List ℕ) → is_namespace ns ≡ true → length ns ≤ NAMESPACE_BYTES
unfolding is_namespace
namespace_fits ns e = le_from (length ns) NAMESPACE_BYTES (and_left (nat_le (length ns) NAMESPACE_BYTES) (is_label ns) e)

pub name_fits : (name : List ℕ) → is_name name ≡ true → length name ≤ NAME_BYTES
unfolding is_name
name_fits name e =
    le_from (length name) NAME_BYTES (and_left (nat_le (length name) NAME_BYTES) (list_all is_label (slice_split (λ b. b == dot) name)) e)

number-no_space : (n : ℕ) → n < 2 ^ 64 → NoSpace (decimal n)
number-no_space n h i p e =
    let digit = digit_at (decimal n) i (decimal_is_IsNumeral n h).0.1 p in
    omega (arith, digit.0, e)

-- ---- lines

-- what stands behind the format, and behind the number
abbrev pub behind_format : ℕ → KeyView → List ℕ
behind_format r k = decimal r ++ (codes " " ++ (k.ns ++ (codes " " ++ k.name)))

abbrev pub behind_number : KeyView → List ℕ
behind_number k = k.ns ++ (codes " " ++ k.name)

pub line_parts : (r : ℕ) (k : KeyView) → token_line r k ≡ codes "1" ++ space ∷ behind_format r k
unfolding token_line
line_parts r k = refl

regroup : (a b c d e f : List ℕ) → a ++ b ++ c ++ d ++ e ++ f ≡ a ++ (b ++ (c ++ (d ++ (e ++ f))))
regroup a b c d e f = simp append_assoc

-- the line, as it is written piece by piece
pub line_left : (r : ℕ) (k : KeyView) → codes "1 " ++ decimal r ++ codes " " ++ k.ns ++ codes " " ++ k.name ≡ token_line r k
unfolding token_line
line_left r k = regroup (codes "1 ") (decimal r) (codes " ") k.ns (codes " ") k.name

one-no_space : NoSpace (codes "1")
one-no_space zero p e = absurd (omega (arith, e))
one-no_space (suc i) p e = absurd (omega arith)

pub made_line : (line a rest b rest2 ns name : List ℕ) (r : ℕ) → line ≡ a ++ space ∷ rest → a ≡ codes "1" → rest ≡ b ++ space ∷ rest2 → decimal r ≡ b → rest2 ≡ ns ++ space ∷ name → token_line r (record { ns = ns; name = name }) ≡ line
unfolding token_line
made_line line a rest b rest2 ns name r e1 e2 e3 e4 e5 = rw (e1, e2, e3, ← e4, e5) refl

pub format_cut : (line a rest : List ℕ) (r : ℕ) (k : KeyView) → line ≡ a ++ space ∷ rest → NoSpace a → token_line r k ≡ line → (a ≡ codes "1") × (rest ≡ behind_format r k)
format_cut line a rest r k e n same =
    one_cut a (codes "1") rest (behind_format r k) n one-no_space (sym e ∙ sym same ∙ line_parts r k)

pub number_cut : (line a rest : List ℕ) (r : ℕ) (k : KeyView) → line ≡ a ++ space ∷ rest → NoSpace a → IsToken r k → line ≡ behind_format r k → (a ≡ decimal r) × (rest ≡ behind_number k)
number_cut line a rest r k e n t same =
    one_cut a (decimal r) rest (behind_number k) n (number-no_space r t.number) (sym e ∙ same)

pub key_cut : (line a rest : List ℕ) (r : ℕ) (k : KeyView) → line ≡ a ++ space ∷ rest → NoSpace a → IsToken r k → line ≡ behind_number k → (a ≡ k.ns) × (rest ≡ k.name)
key_cut line a rest r k e n t same =
    one_cut a k.ns rest k.name n (plain-no_space k.ns (plain-namespace k.ns t.ns)) (sym e ∙ same)

one_line : (r s : ℕ) (k l : KeyView) → IsToken r k → IsToken s l → token_line r k ≡ token_line s l → (r ≡ s) × (k ≡ l)
one_line r s k l t u e =
    let first = one_cut (codes "1") (codes "1") (behind_format r k) (behind_format s l) one-no_space one-no_space (sym (line_parts r k) ∙ e ∙ line_parts s l) in
    let second = number_cut _ (decimal r) (behind_number k) s l refl (number-no_space r t.number) u first.1 in
    let third = key_cut _ k.ns k.name s l refl (plain-no_space k.ns (plain-namespace k.ns t.ns)) u second.1 in
    let same_ns = third.0 in
    let same_name = third.1 in
    (decimal_injective r s t.number u.number second.0, λ i. record { ns = same_ns i; name = same_name i })

ascii-cons : (b : ℕ) (bs : List ℕ) → b < 128 → IsAscii bs → IsAscii (b ∷ bs)
ascii-cons b bs h k zero = h
ascii-cons b bs h k (suc i) = k i

ascii-join : (xs ys : List ℕ) → IsAscii xs → IsAscii ys → IsAscii (xs ++ ys)
ascii-join xs ys h k = IsAscii-append xs ys h k

pub ascii-line : (r : ℕ) (k : KeyView) → IsToken r k → IsAscii (token_line r k)
unfolding token_line
ascii-line r k t =
    let ns = ascii-join k.ns (32 ∷ k.name) (plain-ascii k.ns (plain-namespace k.ns t.ns)) (ascii-cons 32 k.name (lit< tt) (plain-ascii k.name (plain-name k.name t.name))) in
    let number = ascii-join (decimal r) (32 ∷ (k.ns ++ (32 ∷ k.name))) (IsAscii-decimal r t.number) (ascii-cons 32 (k.ns ++ (32 ∷ k.name)) (lit< tt) ns) in
    ascii-cons 49 (32 ∷ (decimal r ++ (32 ∷ (k.ns ++ (32 ∷ k.name))))) (lit< tt) (ascii-cons 32 (decimal r ++ (32 ∷ (k.ns ++ (32 ∷ k.name)))) (lit< tt) number)

-- ---- texts

decodes : (e : GeneralPurpose) (s b : List ℕ) → IsConsistent e → IsAscii b → encode_of e b ≡ s → decode_of e s ≡ Ok b
decodes e s b h a same =
    ap (decode_of e) (sym same) ∙ decode_of-encode_of e b h (λ i. omega (arith, a i))

-- what decodes to no text, or doesn't decode, encodes nothing in ASCII
pub no_text : (e : GeneralPurpose) (s items b : List ℕ) → IsConsistent e → decode_of e s ≡ Ok items → (IsUtf8 items → ⊥) → IsAscii b → encode_of e b ≡ s → ⊥
no_text e s items b h d n a same =
    let found = decodes e s b h a same in
    let one : b ≡ items = cc (found, d) in
    n (subst IsUtf8 one (IsUtf8-from_ascii b a))

pub no_bytes : (e : GeneralPurpose) (s b : List ℕ) (f : DecodeError) → IsConsistent e → decode_of e s ≡ Err f → IsAscii b → encode_of e b ≡ s → ⊥
no_bytes e s b f h d a same =
    let found = decodes e s b h a same in
    cc (found, d)

one_encoded : (e : GeneralPurpose) (a b : List ℕ) → IsConsistent e → IsAscii a → IsAscii b → encode_of e a ≡ encode_of e b → a ≡ b
one_encoded e a b h p q same =
    let first = decodes e _ a h p same in
    let second = decodes e _ b h q refl in
    cc (first, second)

one_read : (e : GeneralPurpose) (s b line : List ℕ) → IsConsistent e → IsAscii b → encode_of e b ≡ s → decode_of e s ≡ Ok line → b ≡ line
one_read e s b line h a same d =
    let found = decodes e s b h a same in
    cc (found, d)

pub tokens_one : (r s : ℕ) (k l : KeyView) → IsToken r k → IsToken s l → token_text r k ≡ token_text s l → (r ≡ s) × (k ≡ l)
unfolding token_text
tokens_one r s k l t u e =
    one_line r s k l t u (one_encoded url_safe_no_pad _ _ refl (ascii-line r k t) (ascii-line s l u) e)

-- what refuses a line refuses the text that the line is read of
pub refuses_text : (e : TokenFault) (line s : List ℕ) → decode_of url_safe_no_pad s ≡ Ok line → RefusesLine e line → RefusesToken e s
unfolding token_text
refuses_text BadToken line s d h = λ r k t same. h r k t (one_read url_safe_no_pad s (token_line r k) line refl (ascii-line r k t) same d)
refuses_text NoMemory line s d h = tt
