-- Namespaces and names are ASCII, and short.
use Rattle.std.proofs.Common.{◌≡◌, ℕ, zero, suc, ◌<◌, ◌≤◌, ◌==◌, Bool, true, false, ◌&&◌, cond, List, [], ◌∷◌, length, refl, sym, arith}
use Rattle.std.specs.Prelude.{IsUtf8, nat_le}
use Rattle.std.specs.List.{list_all, slice_split, onto_first}
use Rattle.std.specs.Str.{IsAscii}
use Rattle.std.proofs.lemmas.Bool.{true≢false}
use Rattle.std.proofs.lemmas.Bool.Decides.{nat_tests}
use Rattle.std.proofs.lemmas.Str.{IsUtf8-from_ascii}
use Rattle.kube_meta.specs.Names.{is_label_byte, is_label, is_namespace, is_name, dot}
use Rattle.kube_meta.specs.declared.key.TheConstants.{NAMESPACE_BYTES, NAME_BYTES}

pub both_true : (a b : Bool) → (a && b) ≡ true → (a ≡ true) × (b ≡ true)
both_true true b e = (refl, e)
both_true false b e = absurd (true≢false (sym e))

le_from : (a b : ℕ) → nat_le a b ≡ true → a ≤ b
le_from a b e = grind (arith, nat_tests)

label_byte_small : (b : ℕ) → is_label_byte b ≡ true → b < 128
label_byte_small b e = grind (arith, nat_tests)

ascii_cons : (x : ℕ) (xs : List ℕ) → x < 128 → IsAscii xs → IsAscii (x ∷ xs)
ascii_cons x xs first rest zero = first
ascii_cons x xs first rest (suc i) = rest i

all_ascii : (p : ℕ → Bool) → ((b : ℕ) → p b ≡ true → b < 128) → (xs : List ℕ) → list_all p xs ≡ true → IsAscii xs
all_ascii p small [] e = λ i. omega arith
all_ascii p small (x ∷ xs) e =
    let parts = both_true (p x) (list_all p xs) e in
    ascii_cons x xs (small x parts.0) (all_ascii p small xs parts.1)

label_bytes : (part : List ℕ) → is_label part ≡ true → list_all is_label_byte part ≡ true
label_bytes part e = (both_true _ (list_all is_label_byte part) e).1

both_made : (a b : Bool) → a ≡ true → b ≡ true → (a && b) ≡ true
both_made true true p q = refl
both_made true false p q = q
both_made false b p q = p

abbrev is_dot : ℕ → Bool
is_dot b = b == dot

-- the parts have label bytes alone
abbrev AreLabelBytes : List (List ℕ) → Type 0
AreLabelBytes parts = list_all (list_all is_label_byte) parts ≡ true

labels_bytes : (parts : List (List ℕ)) → list_all is_label parts ≡ true → AreLabelBytes parts
labels_bytes [] e = refl
labels_bytes (p ∷ ps) e =
    let both = both_true (is_label p) (list_all is_label ps) e in
    both_made (list_all is_label_byte p) (list_all (list_all is_label_byte) ps) (label_bytes p both.0) (labels_bytes ps both.1)

first_bytes : (x : ℕ) (parts : List (List ℕ)) → AreLabelBytes (onto_first x parts) → (is_label_byte x ≡ true) × AreLabelBytes parts
first_bytes x [] e = ((both_true (is_label_byte x) true (both_true (is_label_byte x && true) true e).0).0, refl)
first_bytes x (p ∷ ps) e =
    let both = both_true (is_label_byte x && list_all is_label_byte p) (list_all (list_all is_label_byte) ps) e in
    let front = both_true (is_label_byte x) (list_all is_label_byte p) both.0 in
    (front.0, both_made (list_all is_label_byte p) (list_all (list_all is_label_byte) ps) front.1 both.1)

dot_small : (b : ℕ) → is_dot b ≡ true → b < 128
dot_small b e = grind (arith, nat_tests)

split_ascii : (text : List ℕ) → AreLabelBytes (slice_split is_dot text) → IsAscii text
split_ascii [] e = λ i. omega arith
split_ascii (x ∷ xs) e = by_dot (λ all. split_ascii xs all) (is_dot x) refl e
  where
    by_dot : (AreLabelBytes (slice_split is_dot xs) → IsAscii xs) → (b : Bool) → is_dot x ≡ b → AreLabelBytes (cond b ([] ∷ slice_split is_dot xs) (onto_first x (slice_split is_dot xs))) → IsAscii (x ∷ xs)
    by_dot more true here all = ascii_cons x xs (dot_small x here) (more all)
    by_dot more false other all =
        let both = first_bytes x (slice_split is_dot xs) all in
        ascii_cons x xs (label_byte_small x both.0) (more both.1)

pub namespace_utf8 : (text : List ℕ) → is_namespace text ≡ true → IsUtf8 text
unfolding is_namespace
namespace_utf8 text e =
    IsUtf8-from_ascii text (all_ascii is_label_byte label_byte_small text
    (label_bytes text (both_true (nat_le (length text) NAMESPACE_BYTES) (is_label text) e).1))

pub namespace_fits : (text : List ℕ) → is_namespace text ≡ true → length text ≤ NAMESPACE_BYTES
unfolding is_namespace
namespace_fits text e = le_from _ _ (both_true (nat_le (length text) NAMESPACE_BYTES) (is_label text) e).0

pub name_fits : (text : List ℕ) → is_name text ≡ true → length text ≤ NAME_BYTES
unfolding is_name
name_fits text e = le_from _ _ (both_true (nat_le (length text) NAME_BYTES) _ e).0

pub name_utf8 : (text : List ℕ) → is_name text ≡ true → IsUtf8 text
unfolding is_name
name_utf8 text e =
    IsUtf8-from_ascii text (split_ascii text (labels_bytes (slice_split is_dot text) (both_true (nat_le (length text) NAME_BYTES) _ e).1))
