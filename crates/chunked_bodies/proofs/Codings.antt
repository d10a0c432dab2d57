-- The one field that says how the body ends.
use Rattle.std.proofs.Common.{◌≡◌, ◌≢◌, ℕ, ◌+◌, ◌<◌, ◌⊎◌, true, false, Option, Some, None, List, [], is_some, length, map, get_or, MatchOption, sym, ◌∙◌, subst, arith, inl, inr, true≢false}
use Rattle.std.proofs.lemmas.Bool.{cases_lt}
use Rattle.std.proofs.lemmas.List.{get_or-map, length-map}
use Rattle.httparse.specs.declared.spans.HeaderSpan.{HeaderSpan}
use Rattle.httparse.specs.Spans.{header_bytes, span_bytes}
use Rattle.chunked_bodies.specs.Response.{Pair, at, frames, is_chunked, IsChunkedAt}
use Rattle.chunked_bodies.specs.inner.Walk.{Found, IsNowhere}
use Rattle.chunked_bodies.proofs.Unique.{chunked_frames, not_both}

-- a field that ends the body in another way
pub nowhere_other : (ps : List Pair) (i : ℕ) → i < length ps → frames (at ps i) ≡ true → is_chunked (at ps i) ≡ false → IsNowhere ps
nowhere_other ps i inside here not k is =
    elim (cases_lt i k) [
      | inl less ↦ not_both _ here (is.only i inside (λ e. omega arith))
      | inr more ↦ elim (cases_lt k i) [
        | inl less ↦ not_both _ here (is.only i inside (λ e. omega arith))
        | inr same ↦
            let e : k ≡ i = omega arith in
            not_both _ (subst (λ (n : ℕ). is_chunked (at ps n) ≡ true) e is.chunked) not
      ]
    ]

-- two fields that end it
pub nowhere_two : (ps : List Pair) (j i : ℕ) → j < i → i < length ps → frames (at ps j) ≡ true → frames (at ps i) ≡ true → IsNowhere ps
nowhere_two ps j i less inside first second k is =
    elim (cases_lt j k) [
      | inl before ↦ not_both _ first (is.only j (omega arith) (λ e. omega arith))
      | inr after ↦ not_both _ second (is.only i inside (λ e. omega arith))
    ]

-- none of them does
pub nowhere_none : (ps : List Pair) → Found ps (length ps) None → IsNowhere ps
nowhere_none ps none k is = not_both _ (chunked_frames (at ps k) is.chunked) (none k is.within)

pub somewhere : (ps : List Pair) (k : ℕ) → Found ps (length ps) (Some k) → IsChunkedAt ps k
somewhere ps k found = record { within = found.0; chunked = found.1; only = found.2 }

-- one more field
pub found_more : (ps : List Pair) (n : ℕ) (found : Option ℕ) → Found ps n found → frames (at ps n) ≡ false → Found ps (n + 1) found
found_more ps n None before not = λ i less. elim (cases_lt i n) [
  | inl inside ↦ before i inside
  | inr last ↦ let e : n ≡ i = omega arith in subst (λ (k : ℕ). frames (at ps k) ≡ false) e not
]
found_more ps n (Some k) before not = (
  omega (arith, before.0),
  before.1,
  λ i less differs. elim (cases_lt i n) [
    | inl inside ↦ before.2 i inside differs
    | inr last ↦ let e : n ≡ i = omega arith in subst (λ (m : ℕ). frames (at ps m) ≡ false) e not
  ],
)

pub found_here : (ps : List Pair) (n : ℕ) → Found ps n None → is_chunked (at ps n) ≡ true → Found ps (n + 1) (Some n)
found_here ps n before is = (omega arith, is, λ i less differs. before i (omega (arith, other differs)))
  where
    other : {i n : ℕ} → i ≢ n → (i < n) ⊎ (n < i)
    other {i} {n} differs = elim (cases_lt i n) [
      | inl less ↦ inl less
      | inr more ↦ elim (cases_lt n i) [
        | inl less ↦ inr less
        | inr same ↦ absurd (differs (omega arith))
      ]
    ]

-- a field as its spans show it
pub here : (bytes : List ℕ) (headers : List HeaderSpan) (i : ℕ) (d : HeaderSpan) → i < length headers
    → at (map (header_bytes bytes) headers) i ≡ header_bytes bytes (get_or headers i d)
here bytes headers i d inside = get_or-map (header_bytes bytes) headers i d ([], []) inside

-- the same of a name and a value
pub seen : (bytes : List ℕ) (headers : List HeaderSpan) (i : ℕ) (d : HeaderSpan) (name value : List ℕ) → i < length headers
    → name ≡ span_bytes bytes (get_or headers i d).name → value ≡ span_bytes bytes (get_or headers i d).value
    → at (map (header_bytes bytes) headers) i ≡ (name, value)
seen bytes headers i d name value inside n v = here bytes headers i d inside ∙ (λ j. (sym n j, sym v j))

pub inside_map : (bytes : List ℕ) (headers : List HeaderSpan) (i : ℕ) → i < length headers → i < length (map (header_bytes bytes) headers)
inside_map bytes headers i inside = omega (arith, inside, length-map headers (header_bytes bytes))

pub nowhere_second : (ps : List Pair) (i : ℕ) (found : Option ℕ) → Found ps i found → is_some found ≡ true → i < length ps → frames (at ps i) ≡ true → IsNowhere ps
nowhere_second ps i None before is inside second = absurd (true≢false (sym is))
nowhere_second ps i (Some k) before is inside second = nowhere_two ps k i before.0 inside (chunked_frames (at ps k) before.1) second

pub found_first : (ps : List Pair) (n : ℕ) (found : Option ℕ) → Found ps n found → is_some found ≡ false → is_chunked (at ps n) ≡ true → Found ps (n + 1) (Some n)
found_first ps n None before not is = found_here ps n before is
found_first ps n (Some k) before not is = absurd (true≢false not)

pub answer : (ps : List Pair) (n : ℕ) (found : Option ℕ) → Found ps n found → n ≡ length ps → MatchOption found (IsNowhere ps) (IsChunkedAt ps)
answer ps n None before all = nowhere_none ps (subst (λ (m : ℕ). Found ps m None) all before)
answer ps n (Some k) before all = somewhere ps k (subst (λ (m : ℕ). Found ps m (Some k)) all before)
