-- Lists of versions that differ: how long they are at most, with one more, and a part of one.
use Rattle.std.specs.Prelude.{◌≡◌, ℕ, zero, suc, ◌+◌, ◌<◌, ◌≤◌, Bool, true, false, not, ◌||◌, List, [], ◌∷◌, ◌++◌, length, filter, nat_eq, if◌then◌else◌}
use Rattle.std.specs.List.{IsDistinct, AllByRecursion}
use Rattle.std.proofs.Common.{refl, ap, subst, arith}
use Rattle.std.proofs.lemmas.Bool.Decides.{nat_tests}
use Rattle.std.proofs.lemmas.List.{length_push}
use Rattle.std.proofs.lemmas.Map.Keys.{IsDistinct-cons, IsDistinct-head, IsDistinct-tail}
use Rattle.std.proofs.lemmas.List.Elements.{recursion_from_All, All-push, All-filter}
use Rattle.api_calls.specs.State.{has, joined}
use Rattle.api_calls.specs.Versions.{AreVersions}

-- ---- what a filter leaves

all-filter : (P : ℕ → Type 0) (p : ℕ → Bool) (xs : List ℕ) → AllByRecursion P xs → AllByRecursion P (filter p xs)
all-filter P p [] h = h
all-filter P p (x ∷ xs) h = by (p x) (all-filter P p xs h.1)
  where
    by : (b : Bool) → AllByRecursion P (filter p xs) → AllByRecursion P (if b then x ∷ filter p xs else filter p xs)
    by true more = (h.0, more)
    by false more = more

distinct-filter : (p : ℕ → Bool) (xs : List ℕ) → IsDistinct nat_eq xs → IsDistinct nat_eq (filter p xs)
distinct-filter p [] h = h
distinct-filter p (x ∷ xs) h = by (p x) (distinct-filter p xs (IsDistinct-tail nat_eq x xs h))
  where
    by : (b : Bool) → IsDistinct nat_eq (filter p xs) → IsDistinct nat_eq (if b then x ∷ filter p xs else filter p xs)
    by true more = IsDistinct-cons nat_eq x (filter p xs) (all-filter (λ y. nat_eq x y ≡ false) p xs (IsDistinct-head nat_eq x xs h)) more
    by false more = more

pub length-filter : (p : ℕ → Bool) (xs : List ℕ) → length (filter p xs) ≤ length xs
length-filter p [] = omega arith
length-filter p (x ∷ xs) = by (p x) (length-filter p xs)
  where
    by : (b : Bool) → length (filter p xs) ≤ length xs → length (if b then x ∷ filter p xs else filter p xs) ≤ length (x ∷ xs)
    by true more = omega (arith, more)
    by false more = omega (arith, more)

-- ---- how many numbers below another differ

-- none is the last one
all_other : (n : ℕ) (xs : List ℕ) → AllByRecursion (λ y. y < n + 1) xs → AllByRecursion (λ y. nat_eq n y ≡ false) xs → AllByRecursion (λ y. y < n) xs
all_other n [] h g = h
all_other n (x ∷ xs) h g = ((let a = h.0 in let b = g.0 in grind (arith, nat_tests)), all_other n xs h.1 g.1)

-- without one number there is at most one less
without_one : (n : ℕ) (xs : List ℕ) → IsDistinct nat_eq xs → AllByRecursion (λ y. y < n + 1) xs
    → (length xs ≤ length (filter (λ y. not (nat_eq y n)) xs) + 1) × AllByRecursion (λ y. y < n) (filter (λ y. not (nat_eq y n)) xs)
without_one n [] d h = (omega arith, h)
without_one n (x ∷ xs) d h = by (nat_eq x n) refl (without_one n xs (IsDistinct-tail nat_eq x xs d) h.1)
  where
    same : (ys : List ℕ) → AllByRecursion (λ y. nat_eq n y ≡ false) ys → filter (λ y. not (nat_eq y n)) ys ≡ ys
    same [] g = refl
    same (y ∷ ys) g =
        let other : nat_eq y n ≡ false = (let a = g.0 in grind (arith, nat_tests)) in
        rw other (ap (λ (zs : List ℕ). y ∷ zs) (same ys g.1))

    moved : nat_eq x n ≡ true → AllByRecursion (λ y. nat_eq n y ≡ false) xs
    moved is = let at : x ≡ n = grind (arith, nat_tests) in subst (λ (z : ℕ). AllByRecursion (λ y. nat_eq z y ≡ false) xs) at (IsDistinct-head nat_eq x xs d)

    by : (b : Bool) → nat_eq x n ≡ b
        → (length xs ≤ length (filter (λ y. not (nat_eq y n)) xs) + 1) × AllByRecursion (λ y. y < n) (filter (λ y. not (nat_eq y n)) xs)
        → (length (x ∷ xs) ≤ length (if not b then x ∷ filter (λ y. not (nat_eq y n)) xs else filter (λ y. not (nat_eq y n)) xs) + 1)
        × AllByRecursion (λ y. y < n) (if not b then x ∷ filter (λ y. not (nat_eq y n)) xs else filter (λ y. not (nat_eq y n)) xs)
    by true is more = let all = same xs (moved is) in let long = ap (λ (ys : List ℕ). length ys) all in (omega (arith, long), more.1)
    by false is more = (omega (arith, more.0), ((let a = h.0 in grind (arith, nat_tests)), more.1))

all_less : (n : ℕ) (xs : List ℕ) → AllByRecursion (λ y. y < suc n) xs → AllByRecursion (λ y. y < n + 1) xs
all_less n [] h = h
all_less n (x ∷ xs) h = ((let a = h.0 in omega arith), all_less n xs h.1)

few : (n : ℕ) (xs : List ℕ) → IsDistinct nat_eq xs → AllByRecursion (λ y. y < n) xs → length xs ≤ n
few n [] d h = omega arith
few zero (x ∷ xs) d h = let a = h.0 in absurd (omega arith)
few (suc n) (x ∷ xs) d h =
    let below = all_less n (x ∷ xs) h in
    let less = without_one n (x ∷ xs) d below in
    let more = few n (filter (λ y. not (nat_eq y n)) (x ∷ xs)) (distinct-filter (λ y. not (nat_eq y n)) (x ∷ xs) d) less.1 in
    let a = less.0 in
    omega (arith, a, more)

-- ---- a list with one more

distinct-push : (xs : List ℕ) (v : ℕ) → IsDistinct nat_eq xs → has xs v ≡ false → IsDistinct nat_eq (xs ++ v ∷ [])
distinct-push [] v d none = IsDistinct-cons nat_eq v [] tt d
distinct-push (x ∷ xs) v d none = by (nat_eq x v) refl none (distinct-push xs v (IsDistinct-tail nat_eq x xs d))
  where
    push : (ys : List ℕ) → AllByRecursion (λ y. nat_eq x y ≡ false) ys → nat_eq x v ≡ false → AllByRecursion (λ y. nat_eq x y ≡ false) (ys ++ v ∷ [])
    push [] h other = (other, tt)
    push (y ∷ ys) h other = (h.0, push ys h.1 other)

    by : (b : Bool) → nat_eq x v ≡ b → (b || has xs v) ≡ false → (has xs v ≡ false → IsDistinct nat_eq (xs ++ v ∷ [])) → IsDistinct nat_eq (x ∷ (xs ++ v ∷ []))
    by true is none more = cc
    by false is none more = IsDistinct-cons nat_eq x (xs ++ v ∷ []) (push xs (IsDistinct-head nat_eq x xs d) is) (more none)

pushed : (count v : ℕ) (vs : List ℕ) → AreVersions count vs → v < count → count ≤ 8 → has vs v ≡ false → AreVersions count (vs ++ v ∷ [])
pushed count v vs a known small none =
    let all = All-push (λ w. w < count) vs v a.known known in
    let distinct = distinct-push vs v a.distinct none in
    record {
      few = (let short = few count (vs ++ v ∷ []) distinct (recursion_from_All (λ w. w < count) (vs ++ v ∷ []) all) in omega (arith, short));
      known = all;
      distinct = distinct;
    }

-- there is room for one more
pub room-joined : (count v : ℕ) (vs : List ℕ) → AreVersions count vs → v < count → count ≤ 8 → has vs v ≡ false → length vs < 8
room-joined count v vs a known small none =
    let short = (pushed count v vs a known small none).few in
    let long = length_push vs v in
    omega (arith, short, long)

pub are_versions-joined : (count v : ℕ) (vs : List ℕ) → AreVersions count vs → v < count → count ≤ 8 → AreVersions count (joined vs v)
are_versions-joined count v vs a known small = by (has vs v) refl
  where
    by : (b : Bool) → has vs v ≡ b → AreVersions count (if b then vs else vs ++ v ∷ [])
    by true is = a
    by false is = pushed count v vs a known small is

pub are_versions-filter : (count : ℕ) (p : ℕ → Bool) (vs : List ℕ) → AreVersions count vs → AreVersions count (filter p vs)
are_versions-filter count p vs a = record {
  few = (let short = length-filter p vs in let small = a.few in omega (arith, short, small));
  known = All-filter p (λ w. w < count) vs a.known;
  distinct = distinct-filter p vs a.distinct;
}
