-- What is found of a name, after other names were taken out.
use Rattle.std.proofs.Common.{◌≡◌, ◌∙◌, ℕ, List, [], ◌∷◌, Option, Some, None, Bool, true, false, ◌&&◌, not, cond, nat_cmp, ap, refl, sym}
use Rattle.std.specs.Cmp.Lexicographic.{slice_cmp}
use Rattle.std.specs.BTreeMap.{is_at}
use Rattle.std.proofs.lemmas.Map.Text.{is_eq-slice_cmp}
use Rattle.std.proofs.lemmas.Slice.Eq.{bytes_eq-Decides}
use Rattle.kj_value.specs.Json.{Json}
use Rattle.kj_value.specs.Fields.{Pairs, field, without_field}

-- names that are found at one place are one
pub one_name : (k l : List ℕ) → is_at (slice_cmp nat_cmp k) l ≡ true → k ≡ l
one_name k l e = (bytes_eq-Decides k l).0 (sym (is_eq-slice_cmp k l) ∙ e)

pub field-without_other : (k l : List ℕ) (es : Pairs) → is_at (slice_cmp nat_cmp k) l ≡ false → field k (without_field l es) ≡ field k es
field-without_other k l [] d = refl
field-without_other k l (e ∷ es) d = by_test (is_at (slice_cmp nat_cmp l) e.0) refl (field-without_other k l es d)
  where
    by_test : (b : Bool) → is_at (slice_cmp nat_cmp l) e.0 ≡ b → field k (without_field l es) ≡ field k es
        → field k (cond b es (e ∷ without_field l es)) ≡ field k (e ∷ es)
    by_test true p more =
        let other : is_at (slice_cmp nat_cmp k) e.0 ≡ false = ap (λ (n : List ℕ). is_at (slice_cmp nat_cmp k) n) (sym (one_name l e.0 p)) ∙ d in
        rw other refl
    by_test false p more = ap (λ (r : Option Json). cond (is_at (slice_cmp nat_cmp k) e.0) (Some e.1) r) more

-- with these names taken out, the last one first
abbrev pub left : List (List ℕ) → Pairs → Pairs
left [] es = es
left (k ∷ ks) es = without_field k (left ks es)

abbrev pub is_other : List ℕ → List (List ℕ) → Bool
is_other k [] = true
is_other k (l ∷ ls) = not (is_at (slice_cmp nat_cmp k) l) && is_other k ls

field-left : (k : List ℕ) (ks : List (List ℕ)) (es : Pairs) → is_other k ks ≡ true → field k (left ks es) ≡ field k es
field-left k [] es d = refl
field-left k (l ∷ ls) es d = by_test (is_at (slice_cmp nat_cmp k) l) refl d (field-left k ls es)
  where
    by_test : (b : Bool) → is_at (slice_cmp nat_cmp k) l ≡ b → (not b && is_other k ls) ≡ true → (is_other k ls ≡ true → field k (left ls es) ≡ field k es)
        → field k (without_field l (left ls es)) ≡ field k es
    by_test true p t more = absurd (cc)
    by_test false p t more = field-without_other k l (left ls es) p ∙ more t

pub value_of : (k : List ℕ) (ks : List (List ℕ)) (es rest : Pairs) (o : Option Json) → o ≡ field k rest → rest ≡ left ks es → is_other k ks ≡ true → o ≡ field k es
value_of k ks es rest o e l d = e ∙ ap (field k) l ∙ field-left k ks es d

pub next_left : (k : List ℕ) (ks : List (List ℕ)) (es rest after : Pairs) → after ≡ without_field k rest → rest ≡ left ks es → after ≡ left (k ∷ ks) es
next_left k ks es rest after e l = e ∙ ap (without_field k) l

-- a name that is gone stays so
pub still_gone : (k l : List ℕ) (es after : Pairs) → is_at (slice_cmp nat_cmp k) l ≡ false → after ≡ without_field l es → field k es ≡ None → field k after ≡ None
still_gone k l es after d e none = ap (field k) e ∙ field-without_other k l es d ∙ none
