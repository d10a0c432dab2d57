-- A label behind the spokes' prefix is the key of an annotation.
use Rattle.std.proofs.Common.{◌≡◌, ℕ, zero, suc, ◌-◌, ◌<◌, List, [], ◌∷◌, Bool, true, false, ◌&&◌, ◌||◌, not, length, get_or, drop, refl, ap, sym, subst, ◌∙◌, arith}
use Rattle.std.specs.Prelude.{nat_eq, nat_le, ◌==◌, slice_get, if◌then◌else◌}
use Rattle.std.specs.Char.{is_ascii_lowercase, is_ascii_digit, is_ascii_uppercase, is_ascii_alphanumeric}
use Rattle.std.specs.Cmp.Lexicographic.{pointwise}
use Rattle.std.specs.List.{list_all, starts_with, ends_with, before_first, after_first}
use Rattle.std.proofs.Math.Seq.{drop-cons}
use Rattle.std.proofs.lemmas.List.{drop_all}
use Rattle.std.proofs.lemmas.Bool.Decides.{nat_tests}
use Rattle.kube_meta.specs.Names.{hyphen, dot, is_label_byte, is_label, is_namespace}
use Rattle.kube_meta.specs.declared.key.TheConstants.{NAMESPACE_BYTES}
use Rattle.object_reading.specs.Labels.{underscore, is_slash, is_alphanumeric, is_key_byte, is_key_name, is_prefix, has_slash, is_annotation_key}
use Rattle.object_reading.specs.declared.labels.TheConstants.{KEY_NAME_BYTES}
use Rattle.keep_laws.specs.Keys.{spoke_prefix, spoke_key}
use Rattle.crd_admission.proofs.Tests.{both, joined, not_true, alone}

-- ---- one byte: a lower-case letter, a digit, a capital, a hyphen

key_of : (l d u h x y : Bool) → (l || d || h) ≡ true → (d || u || l || h || x || y) ≡ true
key_of l true u h x y p = refl
key_of l false true h x y p = refl
key_of true false false h x y p = refl
key_of false false false true x y p = refl
key_of false false false false x y p = absurd (cc)

alphanumeric_of : (l d u h : Bool) → (l || d || h) ≡ true → h ≡ false → (d || u || l) ≡ true
alphanumeric_of l true u h p q = refl
alphanumeric_of l false true h p q = refl
alphanumeric_of true false false h p q = refl
alphanumeric_of false false false true p q = absurd (cc)
alphanumeric_of false false false false p q = absurd (cc)

key_byte : (b : ℕ) → is_label_byte b ≡ true → is_key_byte b ≡ true
key_byte b h =
    key_of (is_ascii_lowercase b) (is_ascii_digit b) (is_ascii_uppercase b) (b == hyphen) (b == underscore) (b == dot) h

turned : (b : ℕ) → nat_eq hyphen b ≡ false → (b == hyphen) ≡ false
turned b h = grind (arith, nat_tests)

alphanumeric : (b : ℕ) → is_label_byte b ≡ true → nat_eq hyphen b ≡ false → is_ascii_alphanumeric b ≡ true
alphanumeric b h q =
    alphanumeric_of (is_ascii_lowercase b) (is_ascii_digit b) (is_ascii_uppercase b) (b == hyphen) h (turned b q)

-- ---- the bytes of a label

key_bytes : (s : List ℕ) → list_all is_label_byte s ≡ true → list_all is_key_byte s ≡ true
key_bytes [] h = refl
key_bytes (b ∷ s) h =
    let u = both (is_label_byte b) (list_all is_label_byte s) h in
    joined (is_key_byte b) (list_all is_key_byte s) (key_byte b u.0) (key_bytes s u.1)

alphanumeric_at : (s : List ℕ) (i : ℕ) → list_all is_label_byte s ≡ true → i < length s → nat_eq hyphen (get_or s i 0) ≡ false → is_alphanumeric (slice_get s i) ≡ true
alphanumeric_at [] i h p q = absurd (omega arith)
alphanumeric_at (b ∷ s) zero h p q = alphanumeric b (both (is_label_byte b) (list_all is_label_byte s) h).0 q
alphanumeric_at (b ∷ s) (suc i) h p q =
    alphanumeric_at s i (both (is_label_byte b) (list_all is_label_byte s) h).1 (omega (arith, p)) q

first_byte : (s : List ℕ) → 0 < length s → starts_with nat_eq s (hyphen ∷ []) ≡ false → nat_eq hyphen (get_or s 0 0) ≡ false
first_byte [] p h = absurd (omega arith)
first_byte (b ∷ s) p h = alone (nat_eq hyphen b) h

last_byte : (s : List ℕ) → 0 < length s → ends_with nat_eq s (hyphen ∷ []) ≡ false → nat_eq hyphen (get_or s (length s - 1) 0) ≡ false
last_byte s p h =
    let i = length s - 1 in
    let end : drop (suc i) s ≡ [] = drop_all (suc i) s (omega (arith, p)) in
    let cut : drop i s ≡ get_or s i 0 ∷ drop (suc i) s = drop-cons s i 0 (omega (arith, p)) in
    let only : drop i s ≡ get_or s i 0 ∷ [] = cut ∙ ap (λ (t : List ℕ). get_or s i 0 ∷ t) end in
    alone (nat_eq hyphen (get_or s i 0)) (subst (λ (t : List ℕ). pointwise nat_eq (hyphen ∷ []) t ≡ false) only h)

pub label_key_name : (s : List ℕ) → is_namespace s ≡ true → is_key_name s ≡ true
unfolding is_namespace is_key_name
label_key_name s h =
    let starts = starts_with nat_eq s (hyphen ∷ []) in
    let ends = ends_with nat_eq s (hyphen ∷ []) in
    let bytes = list_all is_label_byte s in
    let a = both (nat_le (length s) NAMESPACE_BYTES) (is_label s) h in
    let b = both (nat_le 1 (length s) && not starts && not ends) bytes a.1 in
    let e = both (nat_le 1 (length s) && not starts) (not ends) b.0 in
    let f = both (nat_le 1 (length s)) (not starts) e.0 in
    let some : 0 < length s = grind (arith, nat_tests, f.0) in
    let first = alphanumeric_at s 0 b.1 some (first_byte s some (not_true starts f.1)) in
    let last = alphanumeric_at s (length s - 1) b.1 (omega (arith, some)) (last_byte s some (not_true ends e.1)) in
    joined (nat_le (length s) KEY_NAME_BYTES && is_alphanumeric (slice_get s 0) && is_alphanumeric (slice_get s (length s - 1))) (list_all is_key_byte s)
    (joined (nat_le (length s) KEY_NAME_BYTES && is_alphanumeric (slice_get s 0)) (is_alphanumeric (slice_get s (length s - 1)))
    (joined (nat_le (length s) KEY_NAME_BYTES) (is_alphanumeric (slice_get s 0)) a.0 first) last) (key_bytes s b.1)

-- ---- behind the prefix

cut_at : (n : List ℕ) → has_slash (spoke_key n) ≡ true
unfolding spoke_prefix
cut_at n = grind (arith, nat_tests)

prefixed : (n : List ℕ) → is_prefix (before_first is_slash (spoke_key n)) ≡ true
unfolding spoke_prefix is_prefix
prefixed n = refl

behind : (n : List ℕ) → after_first is_slash (spoke_key n) ≡ n
unfolding spoke_prefix
behind n = refl

pub spoke_key_rule : (n : List ℕ) → is_namespace n ≡ true → is_annotation_key (spoke_key n) ≡ true
unfolding is_annotation_key
spoke_key_rule n h =
    let s = spoke_key n in
    let parts = joined (is_prefix (before_first is_slash s)) (is_key_name (after_first is_slash s)) (prefixed n) (subst (λ (t : List ℕ). is_key_name t ≡ true) (sym (behind n)) (label_key_name n h)) in
    subst (λ (b : Bool). (if b then is_prefix (before_first is_slash s) && is_key_name (after_first is_slash s) else is_key_name s) ≡ true) (sym (cut_at n)) parts
