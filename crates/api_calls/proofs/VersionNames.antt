-- What the names of versions tell.
use Rattle.std.proofs.Common.{◌≡◌, ◌≢◌, ◌∙◌, ℕ, ◌+◌, ◌*◌, ◌^◌, ◌<◌, ◌≤◌, List, [], ◌∷◌, ◌++◌, length, drop, get_or, Some, None, Bool, true, false, cond, Less, nat_cmp, append-nil, lit<, ap, sym, subst, refl, arith}
use Rattle.std.specs.Prelude.{not, ◌&&◌, ◌||◌, ◌==◌, codes, decimal, nat_eq, nat_le, nat_lt, if◌then◌else◌}
use Rattle.std.specs.Int.{IsInRange}
use Rattle.std.specs.Char.{is_ascii_digit, digit_value}
use Rattle.std.specs.List.{list_all, starts_with}
use Rattle.std.specs.Ordering.{ordering_then}
use Rattle.std.specs.declared.cmp.Ordering.TheVariants.{Equal, Greater}
use Rattle.std.specs.Cmp.Lexicographic.{slice_cmp}
use Rattle.std.specs.Str.Parse.{AllDigits, digits_value, digits_value_after}
use Rattle.std.proofs.lemmas.Bool.Decides.{nat_tests}
use Rattle.std.proofs.lemmas.List.Sums.{take_while-cons}
use Rattle.std.proofs.lemmas.Fmt.{decimal_digit, decimal_nonempty, first_decimal, length-decimal-le, digits_decimal, digits_value-decimal, decimal-digits_value}
use Rattle.std.proofs.lemmas.Str.Parse.{IsDigitsTest, IsNumeralModel, numerals_by_value, digits_value_short}
use Rattle.api_calls.specs.Priority.{is_number, number_cmp, ga, beta, alpha, other, number_behind, either_stage, staged, digits, numbered, letter_v, version_of, numbers_end, ga_name, beta_name, alpha_name}

-- ---- digits

both : (a b : Bool) → (a && b) ≡ true → (a ≡ true) × (b ≡ true)
both true true e = (refl, refl)
both true false e = cc
both false b e = cc

abbrev AreDigits : List ℕ → Type 0
AreDigits ds = list_all is_ascii_digit ds ≡ true

in_range : (c : ℕ) → is_ascii_digit c ≡ true → IsInRange 48 57 c
in_range c e = let k = both (nat_le 48 c) (nat_le c 57) e in let low : 48 ≤ c = grind (arith, nat_tests) in let high : c ≤ 57 = grind (arith, nat_tests) in (low, high)

range_in : (c : ℕ) → IsInRange 48 57 c → is_ascii_digit c ≡ true
range_in c k = let low : nat_le 48 c ≡ true = grind (arith, nat_tests) in let high : nat_le c 57 ≡ true = grind (arith, nat_tests) in rw (low, high) refl

tells : IsDigitsTest AreDigits
tells = record {
  empty = refl;
  parts = λ c cs e. (let k = both (is_ascii_digit c) (list_all is_ascii_digit cs) e in (in_range c k.0, k.1));
  more = λ c cs k e. rw (range_in c k) e;
}

own : IsNumeralModel AreDigits (digits_value 10)
own = numerals_by_value AreDigits tells

-- ---- numbers

no_zero : (ds : List ℕ) → 48 < get_or ds 0 0 → starts_with nat_eq ds (codes "0") ≡ false
no_zero [] h = absurd (omega arith)
no_zero (d ∷ ds) h = let e : nat_eq 48 d ≡ false = grind (arith, nat_tests) in rw e refl

zero_first : (ds : List ℕ) → 1 ≤ length ds → get_or ds 0 0 ≡ 48 → starts_with nat_eq ds (codes "0") ≡ true
zero_first [] l h = absurd (omega arith)
zero_first (d ∷ ds) l h = let e : nat_eq 48 d ≡ true = grind (arith, nat_tests) in rw e refl

within : (n : ℕ) → n < numbers_end → n < 2 ^ 64
within n h = omega arith

is_number-decimal : (n : ℕ) → n < numbers_end → is_number (decimal n) ≡ true
is_number-decimal n h =
    let l = decimal_nonempty n (within n h) in
    let m = length-decimal-le 9 n (lit< tt) h (within n h) in
    let some : nat_le 1 (length (decimal n)) ≡ true = grind (arith, nat_tests) in
    let most : nat_le (length (decimal n)) 9 ≡ true = grind (arith, nat_tests) in
    rw (some, most, digits_decimal own n (within n h)) (front (n == 0) refl)
  where
    front : (b : Bool) → (n == 0) ≡ b → (nat_le (length (decimal n)) 1 || not (starts_with nat_eq (decimal n) (codes "0"))) ≡ true
    front true e =
        let is : n ≡ 0 = grind (arith, nat_tests) in
        let one : nat_le (length (decimal n)) 1 ≡ true = ap (λ k. nat_le (length (decimal k)) 1) is ∙ ap (λ (ds : List ℕ). nat_le (length ds) 1) (decimal_digit 0 (lit< tt)) in
        rw one refl
    front false e =
        let some : 0 < n = grind (arith, nat_tests) in
        rw (no_zero (decimal n) (first_decimal n some (within n h))) (right (nat_le (length (decimal n)) 1))
      where
        right : (b : Bool) → (b || true) ≡ true
        right true = refl
        right false = refl

decimal-number : (ds : List ℕ) → is_number ds ≡ true → (n : ℕ) × (n < numbers_end) × (decimal n ≡ ds)
decimal-number ds h =
    let (front, zeros) = both (nat_le 1 (length ds) && nat_le (length ds) 9 && list_all is_ascii_digit ds) _ h in
    let (lengths, are) = both (nat_le 1 (length ds) && nat_le (length ds) 9) _ front in
    let (some, most) = both (nat_le 1 (length ds)) _ lengths in
    let low : 1 ≤ length ds = grind (arith, nat_tests) in
    let high : length ds ≤ 9 = grind (arith, nat_tests) in
    let small : digits_value 10 ds < numbers_end = digits_value_short own ds 9 are high in
    (digits_value 10 ds, small, decimal-digits_value own ds are (omega (arith, low)) (λ z. lead low z (nat_le (length ds) 1) refl zeros) (within _ small))
  where
    lead : 1 ≤ length ds → get_or ds 0 0 ≡ 48 → (b : Bool) → nat_le (length ds) 1 ≡ b → (b || not (starts_with nat_eq ds (codes "0"))) ≡ true → length ds ≡ 1
    lead low z true e h = let high : length ds ≤ 1 = grind (arith, nat_tests) in omega (arith, low, high)
    lead low z false e h = let never : not true ≡ true = subst (λ b. not b ≡ true) (zero_first ds low z) h in cc

-- ---- what stands behind digits

digits-append : (ds t : List ℕ) → AreDigits ds → digits t ≡ [] → digits (ds ++ t) ≡ ds
digits-append [] t are none = none
digits-append (c ∷ ds) t are none =
    let k = both (is_ascii_digit c) (list_all is_ascii_digit ds) are in
    let more = digits-append ds t k.1 none in
    let at : cond (is_ascii_digit c) (c ∷ digits (ds ++ t)) [] ≡ c ∷ ds = rw k.0 (ap (λ (xs : List ℕ). c ∷ xs) more) in
    take_while-cons is_ascii_digit c (ds ++ t) ∙ at

drop_front : (ds t : List ℕ) → drop (length ds) (ds ++ t) ≡ t
drop_front [] t = refl
drop_front (d ∷ ds) t = drop_front ds t

numbered-number : (ds t : List ℕ) → is_number ds ≡ true → AreDigits ds → digits t ≡ [] → numbered (ds ++ t) ≡ staged ds t
numbered-number ds t is are none = rw (digits-append ds t are none, is, drop_front ds t) refl

numbered-decimal : (n : ℕ) (t : List ℕ) → n < numbers_end → digits t ≡ [] → numbered (decimal n ++ t) ≡ staged (decimal n) t
numbered-decimal n t h none = numbered-number (decimal n) t (is_number-decimal n h) (digits_decimal own n (within n h)) none

pub version_of-ga : (n : ℕ) → n < numbers_end → version_of (ga_name n) ≡ ga (decimal n)
unfolding version_of
version_of-ga n h = ap numbered (sym (append-nil (decimal n))) ∙ numbered-decimal n [] h refl

staged-beta : (n m : List ℕ) → is_number m ≡ true → staged n (codes "beta" ++ m) ≡ beta n m
staged-beta n m is = rw is refl

staged-alpha : (n m : List ℕ) → is_number m ≡ true → staged n (codes "alpha" ++ m) ≡ alpha n m
staged-alpha n m is = rw is refl

pub version_of-beta : (n m : ℕ) → n < numbers_end → m < numbers_end → version_of (beta_name n m) ≡ beta (decimal n) (decimal m)
unfolding version_of
version_of-beta n m h k = numbered-decimal n (codes "beta" ++ decimal m) h refl ∙ staged-beta (decimal n) (decimal m) (is_number-decimal m k)

pub version_of-alpha : (n m : ℕ) → n < numbers_end → m < numbers_end → version_of (alpha_name n m) ≡ alpha (decimal n) (decimal m)
unfolding version_of
version_of-alpha n m h k = numbered-decimal n (codes "alpha" ++ decimal m) h refl ∙ staged-alpha (decimal n) (decimal m) (is_number-decimal m k)

-- ---- every other name

behind : (word t : List ℕ) → starts_with nat_eq t word ≡ true → t ≡ word ++ drop (length word) t
behind [] t e = refl
behind (w ∷ ws) [] e = cc
behind (w ∷ ws) (c ∷ t) e =
    let k = both (nat_eq w c) (starts_with nat_eq t ws) e in
    let same : c ≡ w = grind (arith, nat_tests) in
    ap (λ x. x ∷ t) same ∙ ap (λ (xs : List ℕ). w ∷ xs) (behind ws t k.1)

front_and_rest : (t : List ℕ) → t ≡ digits t ++ drop (length (digits t)) t
front_and_rest [] = refl
front_and_rest (c ∷ t) =
    subst (λ (ds : List ℕ). c ∷ t ≡ ds ++ drop (length ds) (c ∷ t)) (sym (take_while-cons is_ascii_digit c t)) (by (is_ascii_digit c) (front_and_rest t))
  where
    by : (b : Bool) → t ≡ digits t ++ drop (length (digits t)) t
        → c ∷ t ≡ cond b (c ∷ digits t) [] ++ drop (length (cond b (c ∷ digits t) [])) (c ∷ t)
    by true more = ap (λ (xs : List ℕ). c ∷ xs) more
    by false more = refl

module _ (t : List ℕ)
    (no_ga : (n : ℕ) → n < numbers_end → t ≢ ga_name n)
    (no_beta : (n m : ℕ) → n < numbers_end → m < numbers_end → t ≢ beta_name n m)
    (no_alpha : (n m : ℕ) → n < numbers_end → m < numbers_end → t ≢ alpha_name n m) where
  -- no number stands behind either word
  none_behind : (word ds rest : List ℕ) → is_number ds ≡ true → t ≡ codes "v" ++ (ds ++ rest)
      → ((n m : ℕ) → n < numbers_end → m < numbers_end → t ≢ codes "v" ++ (decimal n ++ (word ++ decimal m)))
      → number_behind word rest ≡ None
  none_behind word ds rest is e never = by (starts_with nat_eq rest word && is_number (drop (length word) rest)) refl
    where
      by : (b : Bool) → (starts_with nat_eq rest word && is_number (drop (length word) rest)) ≡ b → (if b then Some (drop (length word) rest) else None) ≡ None
      by false h = refl
      by true h =
          let k = both (starts_with nat_eq rest word) _ h in
          let n = decimal-number ds is in
          let m = decimal-number (drop (length word) rest) k.1 in
          let spelled : rest ≡ word ++ decimal m.0 = behind word rest k.0 ∙ ap (λ (xs : List ℕ). word ++ xs) (sym m.2) in
          absurd (never n.0 m.0 n.1 m.1 (e ∙ (λ i. codes "v" ++ (sym n.2 i ++ spelled i))))

  staged_other : (ds rest : List ℕ) → is_number ds ≡ true → t ≡ codes "v" ++ (ds ++ rest) → staged ds rest ≡ other
  staged_other ds [] is e =
      let n = decimal-number ds is in
      absurd (no_ga n.0 n.1 (e ∙ ap (λ (xs : List ℕ). codes "v" ++ xs) (append-nil ds ∙ sym n.2)))
  staged_other ds (b ∷ bs) is e =
      let beta_none = none_behind (codes "beta") ds (b ∷ bs) is e no_beta in
      let alpha_none = none_behind (codes "alpha") ds (b ∷ bs) is e no_alpha in
      (λ i. either_stage ds (beta_none i) (alpha_none i))

  numbered_other : (bs : List ℕ) → t ≡ codes "v" ++ bs → numbered bs ≡ other
  numbered_other bs e = by (is_number (digits bs)) refl
    where
      by : (b : Bool) → is_number (digits bs) ≡ b → (if b then staged (digits bs) (drop (length (digits bs)) bs) else other) ≡ other
      by false is = refl
      by true is = staged_other (digits bs) (drop (length (digits bs)) bs) is (e ∙ ap (λ (xs : List ℕ). codes "v" ++ xs) (front_and_rest bs))

pub version_of-other : (t : List ℕ) → ((n : ℕ) → n < numbers_end → t ≢ ga_name n)
    → ((n m : ℕ) → n < numbers_end → m < numbers_end → t ≢ beta_name n m)
    → ((n m : ℕ) → n < numbers_end → m < numbers_end → t ≢ alpha_name n m) → version_of t ≡ other
unfolding version_of
version_of-other [] no_ga no_beta no_alpha = refl
version_of-other (b ∷ bs) no_ga no_beta no_alpha = by (b == letter_v) refl
  where
    by : (c : Bool) → (b == letter_v) ≡ c → (if c then numbered bs else other) ≡ other
    by false e = refl
    by true e = let is : b ≡ letter_v = grind (arith, nat_tests) in
        numbered_other (b ∷ bs) no_ga no_beta no_alpha bs (ap (λ x. x ∷ bs) is)

-- ---- numbers are compared as numbers

below : (m n : ℕ) (ds es : List ℕ) → AllDigits 10 ds → length ds ≡ length es → m < n → digits_value_after 10 m ds < digits_value_after 10 n es
below m n [] [] are long h = h
below m n [] (e ∷ es) are long h = absurd (omega (arith, long))
below m n (d ∷ ds) [] are long h = absurd (omega (arith, long))
below m n (d ∷ ds) (e ∷ es) are long h =
    below (m * 10 + digit_value d) (n * 10 + digit_value e) ds es are.1 (omega (arith, long)) (omega (arith, are.0, h))

digit_below : (c d : ℕ) → digit_value c < 10 → digit_value d < 10 → c < d → digit_value c < digit_value d
digit_below c d p q h = grind (arith, nat_tests)

cmp_less : (m n : ℕ) → m < n → nat_cmp m n ≡ Less
cmp_less m n h = let e : nat_lt m n ≡ true = grind (arith, nat_tests) in rw e refl

cmp_greater : (m n : ℕ) → n < m → nat_cmp m n ≡ Greater
cmp_greater m n h =
    let e : nat_lt m n ≡ false = grind (arith, nat_tests) in let f : (m == n) ≡ false = grind (arith, nat_tests) in rw (e, f) refl

cmp_same : (n : ℕ) → nat_cmp n n ≡ Equal
cmp_same n = let e : nat_lt n n ≡ false = grind (arith, nat_tests) in let f : (n == n) ≡ true = grind (arith, nat_tests) in rw (e, f) refl

as_numbers : (n : ℕ) (ds es : List ℕ) → AllDigits 10 ds → AllDigits 10 es → length ds ≡ length es
    → slice_cmp nat_cmp ds es ≡ nat_cmp (digits_value_after 10 n ds) (digits_value_after 10 n es)
as_numbers n [] [] p q long = sym (cmp_same n)
as_numbers n [] (e ∷ es) p q long = absurd (omega (arith, long))
as_numbers n (d ∷ ds) [] p q long = absurd (omega (arith, long))
as_numbers n (d ∷ ds) (e ∷ es) p q long = by (nat_lt d e) refl (d == e) refl (as_numbers (n * 10 + digit_value d) ds es p.1 q.1 (omega (arith, long)))
  where
    more : length ds ≡ length es
    more = omega (arith, long)

    by : (b : Bool) → nat_lt d e ≡ b → (c : Bool) → (d == e) ≡ c
        → slice_cmp nat_cmp ds es ≡ nat_cmp (digits_value_after 10 (n * 10 + digit_value d) ds) (digits_value_after 10 (n * 10 + digit_value d) es)
        → ordering_then (cond b Less (cond c Equal Greater)) (slice_cmp nat_cmp ds es)
        ≡ nat_cmp (digits_value_after 10 (n * 10 + digit_value d) ds) (digits_value_after 10 (n * 10 + digit_value e) es)
    by true is c same rest =
        let lt : d < e = grind (arith, nat_tests) in
        let values = digit_below d e p.0 q.0 lt in
        sym (cmp_less _ _ (below _ _ ds es p.1 more (omega (arith, values))))
    by false is true same rest =
        let eq : d ≡ e = grind (arith, nat_tests) in
        rest
        ∙ ap (λ x. nat_cmp (digits_value_after 10 (n * 10 + digit_value d) ds) (digits_value_after 10 (n * 10 + digit_value x) es)) eq
    by false is false same rest =
        let gt : e < d = grind (arith, nat_tests) in
        let values = digit_below e d q.0 p.0 gt in
        sym (cmp_greater _ _ (below _ _ es ds q.1 (sym more) (omega (arith, values))))

longer : (n m : ℕ) → n < numbers_end → m < numbers_end → length (decimal n) < length (decimal m) → n < m
longer n m h k l = by (nat_lt n m) refl
  where
    by : (b : Bool) → nat_lt n m ≡ b → n < m
    by true e = grind (arith, nat_tests)
    by false e =
        let le : m ≤ n = grind (arith, nat_tests) in
        let some = decimal_nonempty n (within n h) in
        let value : digits_value 10 (decimal n) < 10 ^ length (decimal n) = digits_value_short own (decimal n) (length (decimal n)) (digits_decimal own n (within n h)) (omega arith) in
        let is = digits_value-decimal own n (within n h) in
        let fits : m < 10 ^ length (decimal n) = omega (arith, le, value, is) in
        let short = length-decimal-le (length (decimal n)) m some fits (within m k) in
        absurd (omega (arith, l, short))

pub number_cmp-decimal : (n m : ℕ) → n < numbers_end → m < numbers_end → number_cmp (decimal n) (decimal m) ≡ nat_cmp n m
number_cmp-decimal n m h k = by (nat_lt (length (decimal n)) (length (decimal m))) refl (length (decimal n) == length (decimal m)) refl
  where
    are : (x : ℕ) → x < numbers_end → AllDigits 10 (decimal x)
    are x l = own.to (decimal x) (digits_decimal own x (within x l))

    by : (b : Bool) → nat_lt (length (decimal n)) (length (decimal m)) ≡ b → (c : Bool) → (length (decimal n) == length (decimal m)) ≡ c
        → ordering_then (cond b Less (cond c Equal Greater)) (slice_cmp nat_cmp (decimal n) (decimal m)) ≡ nat_cmp n m
    by true is c same = let lt : length (decimal n) < length (decimal m) = grind (arith, nat_tests) in sym (cmp_less n m (longer n m h k lt))
    by false is true same =
        let long : length (decimal n) ≡ length (decimal m) = grind (arith, nat_tests) in
        as_numbers 0 (decimal n) (decimal m) (are n h) (are m k) long
        ∙ (λ i. nat_cmp (digits_value-decimal own n (within n h) i) (digits_value-decimal own m (within m k) i))
    by false is false same = let gt : length (decimal m) < length (decimal n) = grind (arith, nat_tests) in sym (cmp_greater n m (longer m n k h gt))
