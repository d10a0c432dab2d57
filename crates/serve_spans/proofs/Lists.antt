-- Lists of items and of numbers.
use Rattle.std.proofs.Common.{ℕ, zero, suc, ◌≡◌, ◌≢◌, ◌≤◌, ◌<◌, ◌+◌, ◌⊎◌, nat_eq, nat_lt, Bool, true, false, List, [], ◌∷◌, ◌++◌, length, take, map, Option, Some, refl, ap, sym, ◌∙◌, subst, arith, inl, inr, ⊎_elim, length-append}
use Rattle.std.proofs.lemmas.Bool.Decides.{nat_tests}
use mathlib.Core.List.{IsPrefix}
use Rattle.api_calls.specs.Item.{Logged, items_of}
use Rattle.turn_cell.specs.laws.Laws.{items_of-append}
use Rattle.turn_cell.specs.Numbers.{In, Differ}
use Rattle.turn_cell.specs.Views.{numbers_of, numbers_or}
use Rattle.turn_cell.specs.declared.view.View.{View}

pub lt_or : (a b : ℕ) → (a < b) ⊎ (b ≤ a)
lt_or a b = go (nat_lt a b) refl
  where
    go : (t : Bool) → nat_lt a b ≡ t → (a < b) ⊎ (b ≤ a)
    go true e = inl (let l : a < b = grind (arith, nat_tests) in l)
    go false e = inr (let l : b ≤ a = grind (arith, nat_tests) in l)

-- ---- beginnings

take_front : {X : Type 0} (xs ys : List X) → take (length xs) (xs ++ ys) ≡ xs
take_front [] ys = refl
take_front (x ∷ xs) ys = ap (λ zs. x ∷ zs) (take_front xs ys)

pub take_kept : {X : Type 0} (k : ℕ) (xs ys : List X) → k ≤ length xs → take k (xs ++ ys) ≡ take k xs
take_kept zero xs ys le = refl
take_kept (suc k) [] ys le = absurd (omega arith)
take_kept (suc k) (x ∷ xs) ys le = ap (λ zs. x ∷ zs) (take_kept k xs ys (omega arith))

pub take_prefix : {X : Type 0} (xs q : List X) → IsPrefix xs q → take (length xs) q ≡ xs
take_prefix xs q on = ap (λ zs. take (length xs) zs) (sym on.1) ∙ take_front xs on.0

pub prefix_length : {X : Type 0} (xs q : List X) → IsPrefix xs q → length xs ≤ length q
prefix_length xs q on = let e : length xs + length on.0 ≡ length q = sym (length-append xs on.0) ∙ ap (λ zs. length zs) on.1 in omega arith

pub map_snoc : {X Y : Type 0} (f : X → Y) (xs : List X) (x : X) → map f (xs ++ x ∷ []) ≡ map f xs ++ f x ∷ []
map_snoc f [] x = refl
map_snoc f (y ∷ ys) x = ap (λ zs. f y ∷ zs) (map_snoc f ys x)

pub map_append : {X Y : Type 0} (f : X → Y) (xs ys : List X) → map f (xs ++ ys) ≡ map f xs ++ map f ys
map_append f [] ys = refl
map_append f (x ∷ xs) ys = ap (λ zs. f x ∷ zs) (map_append f xs ys)

-- ---- items of a pass

empty_of : (zs : List Logged) → length zs ≤ 0 → zs ≡ []
empty_of [] le = refl
empty_of (z ∷ zs) le = absurd (omega arith)

-- what is left of a list that has no more items of a pass has none
pub none_more : (n : ℕ) (xs ys : List Logged) → items_of n (xs ++ ys) ≡ items_of n xs → items_of n ys ≡ []
none_more n xs ys e =
    let a : length (items_of n xs ++ items_of n ys) ≡ length (items_of n xs) = ap (λ (zs : List Logged). length zs) (sym (items_of-append n xs ys) ∙ e) in
    empty_of (items_of n ys) (let l = length-append (items_of n xs) (items_of n ys) in omega arith)

pub nothing_before : (n : ℕ) (xs ys : List Logged) → IsPrefix xs ys → items_of n ys ≡ [] → items_of n xs ≡ []
nothing_before n xs ys p none_there =
    let e : items_of n xs ++ items_of n p.0 ≡ [] = sym (items_of-append n xs p.0) ∙ (ap (λ (zs : List Logged). items_of n zs) p.1 ∙ none_there) in
    let short : length (items_of n xs) ≤ 0 = omega (arith, ap (λ (zs : List Logged). length zs) e, length-append (items_of n xs) (items_of n p.0)) in
    empty_of (items_of n xs) short

pub items_of-other : (n : ℕ) (x : Logged) → n ≢ x.by → items_of n (x ∷ []) ≡ []
items_of-other n x ne = go (nat_eq x.by n) refl
  where
    go : (b : Bool) → nat_eq x.by n ≡ b → items_of n (x ∷ []) ≡ []
    go true e = let h : x.by ≡ n = grind (arith, nat_tests) in absurd (ne (sym h))
    go false e = rw e refl

pub own_item : (x : Logged) (b : List Logged) → items_of x.by (x ∷ b) ≡ x ∷ items_of x.by b
own_item x b = go (nat_eq x.by x.by) refl
  where
    go : (t : Bool) → nat_eq x.by x.by ≡ t → items_of x.by (x ∷ b) ≡ x ∷ items_of x.by b
    go true e = rw e refl
    go false e = let h : x.by ≢ x.by = grind (arith, nat_tests) in absurd (h refl)

-- ---- numbers

pub in_left : (n : ℕ) (xs ys : List ℕ) → In n xs → In n (xs ++ ys)
in_left n [] ys h = absurd h
in_left n (x ∷ xs) ys h = ⊎_elim (λ (e : n ≡ x). inl e) (λ (t : In n xs). inr (in_left n xs ys t)) h

pub in_right : (n : ℕ) (xs ys : List ℕ) → In n ys → In n (xs ++ ys)
in_right n [] ys h = h
in_right n (x ∷ xs) ys h = inr (in_right n xs ys h)

pub in_cases : (n : ℕ) (xs ys : List ℕ) → In n (xs ++ ys) → In n xs ⊎ In n ys
in_cases n [] ys h = inr h
in_cases n (x ∷ xs) ys h = ⊎_elim (λ (e : n ≡ x). inl (inl e)) (λ (t : In n (xs ++ ys)). ⊎_elim (λ (a : In n xs). inl (inr a)) (λ (b : In n ys). inr b) (in_cases n xs ys t)) h

pub differ_apart : (xs ys : List ℕ) (m : ℕ) → Differ (xs ++ ys) → In m xs → In m ys → ⊥
differ_apart [] ys m d a b = absurd a
differ_apart (x ∷ xs) ys m d a b =
    ⊎_elim (λ (e : m ≡ x). d.0 (subst (λ k. In k (xs ++ ys)) e (in_right m xs ys b))) (λ (t : In m xs). differ_apart xs ys m d.1 t b) a

pub number_in : {B : Type 0} (v : View B) (n : ℕ) → v.number ≡ Some n → In n (numbers_of v)
number_in v n e = subst (λ (o : Option ℕ). In n (numbers_or o v.met)) (sym e) (inl refl)
