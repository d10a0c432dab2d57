-- Where a value ends: whole values inside of it are passed over.
use Rattle.std.proofs.Common.{◌≡◌, ◌≢◌, ◌==◌, ◌||◌, ◌∙◌, ◌⊎◌, ℕ, zero, suc, ◌+◌, ◌<◌, ◌^◌, ◌/◌, ◌%◌, Bool, true, false, cond, List, [], ◌∷◌, ◌++◌, ℤ, pos, negsuc, codes, decimal, refl, ap, arith, append_assoc, flat_map, if◌then◌else◌, nat_lt, inl, inr}
use Rattle.std.proofs.lemmas.Bool.Decides.{nat_tests}
use Rattle.std.proofs.lemmas.Fmt.{decimal_by_steps}
use Rattle.std.specs.Fmt.{signed_decimal}
use Rattle.std.specs.Char.{digit_char}
use Rattle.kj_value.specs.Characters.{quote, backslash, comma, colon}
use Rattle.kj_value.specs.Json.{Json, null, boolean, whole, text, list, object, Items, no_items, item, Members, no_members, member}
use Rattle.kj_value.specs.Sound.{IsSoundJson, AreSoundItems, AreRising}
use Rattle.kj_value.specs.Text.{escaped_byte, escaped_control, quoted, text_of, items_text, more_items, members_text, more_members}
use Rattle.document_text.specs.inner.Ending.{ending, in_text, is_opening, is_closing}

-- ---- texts

pub pick : (P : List ℕ → Type 0) (b : Bool) (s t : List ℕ) → (b ≡ true → P s) → (b ≡ false → P t) → P (if b then s else t)
pick P true s t p q = p refl
pick P false s t p q = q refl

module _ (c : Bool) (d : ℕ) where
  plain : (x : ℕ) (r : List ℕ) → (x == quote) ≡ false → (x == backslash) ≡ false → in_text c d (x ∷ r) ≡ in_text c d r
  plain x r q b = rw (b, q) refl

digit_apart : (n k : ℕ) → n < 16 → k ≡ quote ⊎ (k ≡ backslash) → (digit_char n == k) ≡ false
digit_apart n k small is = by (nat_lt n 10) refl
  where
    by : (b : Bool) → nat_lt n 10 ≡ b → (cond b (48 + n) (87 + n) == k) ≡ false
    by true few = elim is [ inl q ↦ grind (arith, nat_tests, q, few, small) | inr q ↦ grind (arith, nat_tests, q, few, small) ]
    by false many = elim is [ inl q ↦ grind (arith, nat_tests, q, many, small) | inr q ↦ grind (arith, nat_tests, q, many, small) ]

module _ (c : Bool) (d : ℕ) where
  control : (x : ℕ) (r : List ℕ) → x < 32 → in_text c d (escaped_control x ++ r) ≡ in_text c d r
  control x r small =
      plain c d (digit_char (x / 16)) (digit_char (x % 16) ∷ r) (digit_apart (x / 16) quote (omega (arith, small)) (inl refl)) (digit_apart (x / 16) backslash (omega (arith, small)) (inr refl))
      ∙ plain c d (digit_char (x % 16)) r (digit_apart (x % 16) quote (omega arith) (inl refl)) (digit_apart (x % 16) backslash (omega arith) (inr refl))

  byte : (x : ℕ) (r : List ℕ) → in_text c d (escaped_byte x ++ r) ≡ in_text c d r
  byte x r =
      let P : List ℕ → Type 0 = λ w. in_text c d (w ++ r) ≡ in_text c d r in
      pick P (x == 34) _ _ (λ _. refl) (λ q.
      pick P (x == 92) _ _ (λ _. refl) (λ b.
      pick P (x == 8) _ _ (λ _. refl) (λ _.
      pick P (x == 9) _ _ (λ _. refl) (λ _.
      pick P (x == 10) _ _ (λ _. refl) (λ _.
      pick P (x == 12) _ _ (λ _. refl) (λ _.
      pick P (x == 13) _ _ (λ _. refl) (λ _.
      pick P (nat_lt x 32) _ _ (λ few. control x r (grind (arith, nat_tests, few))) (λ _. plain c d x r q b))))))))

  pub bytes : (s r : List ℕ) → in_text c d (flat_map escaped_byte s ++ quote ∷ r) ≡ ending c d r
  bytes [] r = refl
  bytes (x ∷ s) r = ap (in_text c d) (append_assoc (escaped_byte x) (flat_map escaped_byte s) (quote ∷ r)) ∙ (byte x (flat_map escaped_byte s ++ quote ∷ r) ∙ bytes s r)

  pub pass_quoted : (s r : List ℕ) → ending c d (quoted s ++ r) ≡ ending c d r
  pass_quoted s r = ap (in_text c d) (append_assoc (flat_map escaped_byte s) (quote ∷ []) r) ∙ bytes s r

-- ---- other bytes

abbrev IsQuiet : ℕ → Type 0
IsQuiet x = ((x == quote) ≡ false) × (is_opening x ≡ false) × (is_closing x ≡ false) × ((x == comma) ≡ false)

quiet : (c : Bool) (d x : ℕ) (r : List ℕ) → IsQuiet x → ending c d (x ∷ r) ≡ ending c d r
quiet true zero x r (q, o, k, m) = rw (q, o, k, m) refl
quiet false zero x r (q, o, k, m) = rw (q, o, k) refl
quiet c (suc d) x r (q, o, k, m) = rw (q, o, k) refl

abbrev AreQuiet : List ℕ → Type 0
AreQuiet [] = Unit {0}
AreQuiet (x ∷ xs) = IsQuiet x × AreQuiet xs

all_quiet : (c : Bool) (d : ℕ) (xs r : List ℕ) → AreQuiet xs → ending c d (xs ++ r) ≡ ending c d r
all_quiet c d [] r h = refl
all_quiet c d (x ∷ xs) r h = quiet c d x (xs ++ r) h.0 ∙ all_quiet c d xs r h.1

quiet-append : (xs ys : List ℕ) → AreQuiet xs → AreQuiet ys → AreQuiet (xs ++ ys)
quiet-append [] ys p q = q
quiet-append (x ∷ xs) ys p q = (p.0, quiet-append xs ys p.1 q)

other : (x n : ℕ) → x ≢ n → (x == n) ≡ false
other x n differs = grind (arith, nat_tests, differs)

two : (x m n : ℕ) → x ≢ m → x ≢ n → ((x == m) || (x == n)) ≡ false
two x m n p q = rw (other x m p, other x n q) refl

quiet-digit : (n : ℕ) → n < 10 → IsQuiet (48 + n)
quiet-digit n small = (
  other (48 + n) 34 (λ is. omega (arith, is)),
  two (48 + n) 123 91 (λ is. omega (arith, is, small)) (λ is. omega (arith, is, small)),
  two (48 + n) 125 93 (λ is. omega (arith, is, small)) (λ is. omega (arith, is, small)),
  other (48 + n) 44 (λ is. omega (arith, is)),
)

quiet-decimal : (n : ℕ) → n < 2 ^ 64 → AreQuiet (decimal n)
quiet-decimal n small =
    decimal_by_steps (λ k ds. AreQuiet ds) (λ k few. (quiet-digit k few, tt)) (λ k ds many p. quiet-append ds ((48 + k % 10) ∷ []) p (quiet-digit (k % 10) (omega arith), tt)) n small

quiet-whole : (z : ℤ) → IsSoundJson (whole z) → AreQuiet (signed_decimal z)
quiet-whole (pos n) h = quiet-decimal n (omega (arith, h))
quiet-whole (negsuc n) h = ((refl, refl, refl, refl), quiet-decimal (suc n) (omega (arith, h)))

-- ---- values

field_by : (k : List ℕ) (j : Json) (m : List ℕ) (c : Bool) (d : ℕ) (r : List ℕ) → ending c d (text_of j ++ (m ++ r)) ≡ ending c d (m ++ r)
    → ending c d ((quoted k ++ colon ∷ (text_of j ++ m)) ++ r) ≡ ending c d (m ++ r)
field_by k j m c d r passed =
    ap (ending c d) (append_assoc (quoted k) (colon ∷ (text_of j ++ m)) r)
    ∙ (pass_quoted c d k (colon ∷ ((text_of j ++ m) ++ r))
    ∙ (quiet c d colon ((text_of j ++ m) ++ r) (refl, refl, refl, refl)
    ∙ (ap (ending c d) (append_assoc (text_of j) m r) ∙ passed)))

mutual
  pub pass_value : (v : Json) (c : Bool) (d : ℕ) (r : List ℕ) → IsSoundJson v → ending c d (text_of v ++ r) ≡ ending c d r
  pass_value null c d r h = all_quiet c d (codes "null") r ((refl, refl, refl, refl), ((refl, refl, refl, refl), ((refl, refl, refl, refl), ((refl, refl, refl, refl), tt))))
  pass_value (boolean true) c d r h = all_quiet c d (codes "true") r ((refl, refl, refl, refl), ((refl, refl, refl, refl), ((refl, refl, refl, refl), ((refl, refl, refl, refl), tt))))
  pass_value (boolean false) c d r h =
      all_quiet c d (codes "false") r ((refl, refl, refl, refl), ((refl, refl, refl, refl), ((refl, refl, refl, refl), ((refl, refl, refl, refl), ((refl, refl, refl, refl), tt)))))
  pass_value (whole z) c d r h = all_quiet c d (signed_decimal z) r (quiet-whole z h)
  pass_value (text s) c d r h = pass_quoted c d s r
  pass_value (list js) c d r h = ap (ending c (suc d)) (append_assoc (items_text js) (93 ∷ []) r) ∙ pass_items js c d (93 ∷ r) h
  pass_value (object ms) c d r h = ap (ending c (suc d)) (append_assoc (members_text ms) (125 ∷ []) r) ∙ pass_members ms c (suc d) (125 ∷ r) (λ w. refl) h

  pass_items : (js : Items) (c : Bool) (d : ℕ) (r : List ℕ) → AreSoundItems js → ending c (suc d) (items_text js ++ r) ≡ ending c (suc d) r
  pass_items no_items c d r h = refl
  pass_items (item j js) c d r h =
      ap (ending c (suc d)) (append_assoc (text_of j) (more_items js) r) ∙ (pass_value j c (suc d) (more_items js ++ r) h.0 ∙ pass_more_items js c d r h.1)

  pass_more_items : (js : Items) (c : Bool) (d : ℕ) (r : List ℕ) → AreSoundItems js → ending c (suc d) (more_items js ++ r) ≡ ending c (suc d) r
  pass_more_items no_items c d r h = refl
  pass_more_items (item j js) c d r h =
      ap (ending c (suc d)) (append_assoc (text_of j) (more_items js) r) ∙ (pass_value j c (suc d) (more_items js ++ r) h.0 ∙ pass_more_items js c d r h.1)

  -- where a comma is passed over
  pub pass_members : (ms : Members) (c : Bool) (d : ℕ) (r : List ℕ) → ((w : List ℕ) → ending c d (comma ∷ w) ≡ ending c d w) → AreRising ms → ending c d (members_text ms ++ r) ≡ ending c d r
  pass_members no_members c d r p h = refl
  pass_members (member k j ms) c d r p h = field_by k j (more_members ms) c d r (pass_value j c d (more_members ms ++ r) h.1) ∙ pass_more_members ms c d r p h.2

  pass_more_members : (ms : Members) (c : Bool) (d : ℕ) (r : List ℕ) → ((w : List ℕ) → ending c d (comma ∷ w) ≡ ending c d w) → AreRising ms → ending c d (more_members ms ++ r) ≡ ending c d r
  pass_more_members no_members c d r p h = refl
  pass_more_members (member k j ms) c d r p h =
      p ((quoted k ++ colon ∷ (text_of j ++ more_members ms)) ++ r) ∙ (field_by k j (more_members ms) c d r (pass_value j c d (more_members ms ++ r) h.1) ∙ pass_more_members ms c d r p h.2)

-- a name and its value, before further bytes
pub pass_field : (k : List ℕ) (j : Json) (m : List ℕ) (c : Bool) (d : ℕ) (r : List ℕ) → IsSoundJson j → ending c d ((quoted k ++ colon ∷ (text_of j ++ m)) ++ r) ≡ ending c d (m ++ r)
pass_field k j m c d r h = field_by k j m c d r (pass_value j c d (m ++ r) h)
