-- Lists of handles, and how many connections are left.
use Rattle.std.proofs.Common.{ℕ, zero, suc, ◌≡◌, ◌≢◌, ◌≤◌, ◌<◌, ◌+◌, ◌-◌, All, List, [], ◌∷◌, ◌++◌, length, take, drop, Option, None, Some, Result, Err, refl, ap, sym, ◌∙◌, subst, arith, slice_index_or}
use Rattle.std.proofs.lemmas.List.Elements.{All-append, All-drop, All-take}
use Rattle.std.specs.Prelude.{IfSome, MatchOption, MatchResult, ◌^◌, min}
use native.Mathlib.Decide.{ℕ_discrete}
use Rattle.edge_io.specs.Causes.{Rose}
use Rattle.serve_many.specs.Jobs.{IsLeft}

pub all_front : {X : Type 0} (P : X → Type 0) (xs ys : List X) → All P (xs ++ ys) → All P xs
all_front P [] ys h k d lt = absurd (omega arith)
all_front P (x ∷ xs) ys h zero d lt = h zero d (omega arith)
all_front P (x ∷ xs) ys h (suc k) d lt = all_front P xs ys (λ i e below. h (suc i) e (omega arith)) k d (omega arith)

pub all_snoc : {X : Type 0} (P : X → Type 0) (xs : List X) (x : X) → All P xs → P x → All P (xs ++ x ∷ [])
all_snoc P [] x h one zero d lt = one
all_snoc P [] x h one (suc k) d lt = absurd (omega arith)
all_snoc P (y ∷ ys) x h one zero d lt = h zero d (omega arith)
all_snoc P (y ∷ ys) x h one (suc k) d lt = all_snoc P ys x (λ i e below. h (suc i) e (omega arith)) one k d (omega arith)

-- the last of a list
pub all_last : {X : Type 0} (P : X → Type 0) (xs : List X) (x : X) → All P (xs ++ x ∷ []) → P x
all_last P [] x h = h zero x (omega arith)
all_last P (y ∷ ys) x h = all_last P ys x (λ i e below. h (suc i) e (omega arith))

-- all but the one at a place
pub all_removed : {X : Type 0} (P : X → Type 0) (xs : List X) (i : ℕ) → All P xs → All P (take i xs ++ drop (suc i) xs)
all_removed P xs i h = All-append P (take i xs) (drop (suc i) xs) (All-take P i xs h) (All-drop P (suc i) xs h)

-- ---- how many are left

pub left_first : (connections : Option ℕ) → IsLeft connections 0 connections
left_first None = refl
left_first (Some n) = ap Some (let r : n ≡ 0 + n = omega arith in r)

pub left_less : (connections left less : Option ℕ) (count : ℕ) → IsLeft connections count left → left ≢ Some 0 → MatchOption left (less ≡ None) (λ n. less ≡ Some (n - 1)) → IsLeft connections (count + 1) less
left_less connections None less count is some h = subst (λ (q : Option ℕ). IsLeft connections (count + 1) q) (sym h) is
left_less connections (Some n) less count is some h = subst (λ (q : Option ℕ). IsLeft connections (count + 1) q) (sym h) (go (ℕ_discrete n 0))
  where
    go : Dec (n ≡ 0) → connections ≡ Some ((count + 1) + (n - 1))
    go (yes z) = absurd (some (ap Some z))
    go (no nz) = is ∙ ap Some (let r : count + n ≡ (count + 1) + (n - 1) = omega arith in r)

pub left_done : (connections left : Option ℕ) (count : ℕ) → IsLeft connections count left → left ≡ Some 0 → connections ≡ Some count
left_done connections left count is none =
    let e : connections ≡ Some (count + 0) = subst (λ (q : Option ℕ). IsLeft connections count q) none is in
    e ∙ ap Some (let r : count + 0 ≡ count = omega arith in r)

pub left_some : (connections left : Option ℕ) (count : ℕ) → IsLeft connections count left → left ≢ Some 0 → IfSome connections (λ k. count < k)
left_some connections None count is some = subst (λ (q : Option ℕ). IfSome q (λ k. count < k)) (sym is) tt
left_some connections (Some j) count is some = subst (λ (q : Option ℕ). IfSome q (λ k. count < k)) (sym is) (go (ℕ_discrete j 0))
  where
    go : Dec (j ≡ 0) → count < count + j
    go (yes z) = absurd (some (ap Some z))
    go (no nz) = omega arith

-- a count that rose since later rose
pub rose_since : (before mid now : ℕ) → before ≤ mid → Rose mid now → Rose before now
rose_since before mid now later rose = omega (arith, later, rose)

-- the one at a place
pub all_at : {X : Type 0} (P : X → Type 0) (xs : List X) (i : ℕ) (x : X) → All P xs → i < length xs → x ≡ slice_index_or xs i x → P x
all_at P xs i x h lt is = subst P (sym is) (h i x lt)

-- what is said of a result that is an error
pub at_err : {T E : Type 0} (r : Result T E) (P : T → Type 0) (Q : E → Type 0) (y : E) → r ≡ Err y → Q y → MatchResult r P Q
at_err {T = T} {E = E} r P Q y is h = subst (λ (q : Result T E). MatchResult q P Q) (sym is) h

-- what is said of a value that is absent
pub at_none : {X : Type 0} (o : Option X) (P : Type 0) (Q : X → Type 0) → o ≡ None → MatchOption o P Q → P
at_none {X = X} o P Q is h = subst (λ (q : Option X). MatchOption q P Q) is h
