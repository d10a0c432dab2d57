-- Lists of views and of items.
use Rattle.std.proofs.Common.{◌≡◌, ◌≢◌, ℕ, zero, suc, ◌+◌, ◌-◌, ◌*◌, ◌^◌, ◌<◌, ◌≤◌, nat_eq, Bool, true, false, List, [], ◌∷◌, ◌++◌, length, set, refl, ap, sym, ◌∙◌, arith, length-append, ◌⊎◌, inl, inr, ⊎_elim}
use Rattle.std.proofs.lemmas.Bool.Decides.{nat_tests}
use Rattle.std.proofs.lemmas.Nat.{pow_pos}
use Rattle.std.proofs.Common.{suc-mul}
use mathlib.Core.List.{IsPrefix}
use mathlib.Core.Option.{some, some-injective, some-ne-none}
use mathlib.Core.Logic.{dite}
use native.Mathlib.Decide.{ℕ_discrete}
use lib.ListN.{get_elem?}
use Rattle.api_calls.specs.Item.{Logged, items_of}
use Rattle.turn_cell.specs.Numbers.{In, Differ}
use Rattle.std.proofs.Common.{max, nat_lt, if◌then◌else◌}
use Rattle.turn_cell.specs.declared.view.Share.{Share}
use Rattle.turn_cell.specs.Views.{both_shares, longer}
use Rattle.turn_cell.specs.Rule.{total}
use Rattle.turn_cell.specs.declared.view.Stage.{Stage}
use Rattle.turn_cell.specs.declared.view.Stage.TheVariants.{Rest, Waits, Holds, Met}
use Rattle.turn_cell.specs.Turns.{is_resting}
use Rattle.turn_cell.specs.laws.Laws.{prefix_trans, items_of-append}

abbrev pub pick : {P A : Type 0} → Dec P → A → A → A
pick (yes _) a b = a
pick (no _) a b = b

-- the function f, but c at i
pub put : (ℕ → ℕ) → ℕ → ℕ → ℕ → ℕ
put f i c j = pick (ℕ_discrete j i) c (f j)

pub put_here : (f : ℕ → ℕ) (i c j : ℕ) → j ≡ i → put f i c j ≡ c
unfolding put
put_here f i c j e = go (ℕ_discrete j i)
  where
    go : (d : Dec (j ≡ i)) → pick d c (f j) ≡ c
    go (yes _) = refl
    go (no n) = absurd (n e)

pub put_else : (f : ℕ → ℕ) (i c j : ℕ) → j ≢ i → put f i c j ≡ f j
unfolding put
put_else f i c j other = go (ℕ_discrete j i)
  where
    go : (d : Dec (j ≡ i)) → pick d c (f j) ≡ f j
    go (yes e) = absurd (other e)
    go (no _) = refl

pub prefix_snoc : {A : Type 0} (xs ys : List A) (y : A) → IsPrefix xs ys → IsPrefix xs (ys ++ y ∷ [])
prefix_snoc xs ys y p = prefix_trans xs ys (ys ++ y ∷ []) p (y ∷ [], refl)

pub prefix_shorter : {A : Type 0} (xs ys zs : List A) → IsPrefix xs zs → IsPrefix ys zs → length xs ≤ length ys → IsPrefix xs ys
prefix_shorter [] ys zs p q le = (ys, refl)
prefix_shorter (x ∷ xs) [] zs p q le = absurd (omega arith)
prefix_shorter (x ∷ xs) (y ∷ ys) [] p q le = absurd (cc (p.1))
prefix_shorter (x ∷ xs) (y ∷ ys) (z ∷ zs) p q le =
    let heads : x ≡ y = cc (p.1, q.1) in
    let rest = prefix_shorter xs ys zs (p.0, cc (p.1)) (q.0, cc (q.1)) (omega arith) in
    (rest.0, cc (heads, rest.1))

pub prefix_whole : {A : Type 0} (xs ys : List A) → IsPrefix xs ys → length ys ≤ length xs → xs ≡ ys
prefix_whole [] [] p le = refl
prefix_whole [] (y ∷ ys) p le = absurd (omega arith)
prefix_whole (x ∷ xs) [] p le = absurd (cc (p.1))
prefix_whole (x ∷ xs) (y ∷ ys) p le =
    let rest = prefix_whole xs ys (p.0, cc (p.1)) (omega arith) in cc (p.1, rest)

pub prefix_length : {A : Type 0} (xs ys : List A) → IsPrefix xs ys → length xs ≤ length ys
prefix_length xs ys p = omega (arith, sym (ap length p.1) ∙ length-append xs p.0)

module _ {A : Type 0} where
  pub at_here : (l : List A) (i : ℕ) (a b : A) → get_elem? l i ≡ some a → get_elem? (set l i b) i ≡ some b
  at_here [] i a b e = absurd (some-ne-none a (sym e))
  at_here (x ∷ xs) zero a b e = refl
  at_here (x ∷ xs) (suc i) a b e = at_here xs i a b e

  pub same_at : (l : List A) (i j : ℕ) (a b : A) → get_elem? l i ≡ some a → get_elem? l j ≡ some b → i ≡ j → a ≡ b
  same_at l i j a b p q e = some-injective a b (sym p ∙ (ap (get_elem? l) e ∙ q))

  pub total_set : (f : A → ℕ) (l : List A) (i : ℕ) (a b : A) → get_elem? l i ≡ some a → total f (set l i b) + f a ≡ total f l + f b
  total_set f [] i a b e = absurd (some-ne-none a (sym e))
  total_set f (x ∷ xs) zero a b e = let h : f x ≡ f a = ap f (some-injective x a e) in omega arith
  total_set f (x ∷ xs) (suc i) a b e = let h = total_set f xs i a b e in omega arith

  pub total_one : (f : A → ℕ) (l : List A) (i : ℕ) (a : A) → get_elem? l i ≡ some a → f a ≤ total f l
  total_one f [] i a e = absurd (some-ne-none a (sym e))
  total_one f (x ∷ xs) zero a e = let h : f x ≡ f a = ap f (some-injective x a e) in omega arith
  total_one f (x ∷ xs) (suc i) a e = let h = total_one f xs i a e in omega arith

  pub total_two : (f : A → ℕ) (l : List A) (i j : ℕ) (a b : A) → i ≢ j → get_elem? l i ≡ some a → get_elem? l j ≡ some b → f a + f b ≤ total f l
  total_two f [] i j a b ne e d = absurd (some-ne-none a (sym e))
  total_two f (x ∷ xs) zero zero a b ne e d = absurd (ne refl)
  total_two f (x ∷ xs) zero (suc j) a b ne e d = let h : f x ≡ f a = ap f (some-injective x a e) in let k = total_one f xs j b d in omega arith
  total_two f (x ∷ xs) (suc i) zero a b ne e d = let h : f x ≡ f b = ap f (some-injective x b d) in let k = total_one f xs i a e in omega arith
  total_two f (x ∷ xs) (suc i) (suc j) a b ne e d = let k = total_two f xs i j a b (λ h. ne (ap suc h)) e d in omega arith

  pub total_snoc : (f : A → ℕ) (l : List A) (a : A) → total f (l ++ a ∷ []) ≡ total f l + f a
  total_snoc f [] a = omega arith
  total_snoc f (x ∷ xs) a = let h = total_snoc f xs a in omega arith

pub items_of-other : (n : ℕ) (x : Logged) → n ≢ x.by → items_of n (x ∷ []) ≡ []
items_of-other n x ne = go (nat_eq x.by n) refl
  where
    go : (b : Bool) → (nat_eq x.by n) ≡ b → items_of n (x ∷ []) ≡ []
    go true e = let h : x.by ≡ n = grind (arith, nat_tests) in absurd (ne (sym h))
    go false e = rw e refl

pub zero_factor : (a b : ℕ) → a * b ≡ 0 → 0 < b → a ≡ 0
zero_factor zero b e h = refl
zero_factor (suc a) b e h = let m = suc-mul a b in absurd (omega arith)

pub none_in : (n : ℕ) (ns : List ℕ) → ns ≡ [] → ¬ In n ns
none_in n [] e h = h
none_in n (m ∷ ms) e h = cc (e)

pub nothing_before : (n : ℕ) (xs ys : List Logged) → IsPrefix xs ys → items_of n ys ≡ [] → items_of n xs ≡ []
nothing_before n xs ys p none_there =
    let e : items_of n xs ++ items_of n p.0 ≡ [] = sym (items_of-append n xs p.0) ∙ (ap (items_of n) p.1 ∙ none_there) in
    let short : length (items_of n xs) ≤ 0 = omega (arith, ap length e, length-append (items_of n xs) (items_of n p.0)) in
    empty_of (items_of n xs) short
  where
    empty_of : (zs : List Logged) → length zs ≤ 0 → zs ≡ []
    empty_of [] le = refl
    empty_of (z ∷ zs) le = absurd (omega arith)

items_prefix : (n : ℕ) (xs ys : List Logged) → IsPrefix xs ys → IsPrefix (items_of n xs) (items_of n ys)
items_prefix n xs ys p = (items_of n p.0, sym (items_of-append n xs p.0) ∙ ap (items_of n) p.1)

-- where a list between two others has no more than the first
pub items_between : (n : ℕ) (xs ys zs : List Logged) → IsPrefix xs ys → IsPrefix ys zs → items_of n xs ≡ items_of n zs → items_of n ys ≡ items_of n zs
items_between n xs ys zs p q e =
    prefix_whole (items_of n ys) (items_of n zs) (items_prefix n ys zs q)
    (let a = prefix_length (items_of n xs) (items_of n ys) (items_prefix n xs ys p) in let b : length (items_of n xs) ≡ length (items_of n zs) = ap length e in omega arith)

pub longer_cases : (xs ys : List Logged) (P : List Logged → Type 0) → (length xs < length ys → P ys) → (length ys ≤ length xs → P xs) → P (longer xs ys)
longer_cases xs ys P f h = go (nat_lt (length xs) (length ys)) refl
  where
    go : (b : Bool) → nat_lt (length xs) (length ys) ≡ b → P (if b then ys else xs)
    go true e = f (let l : length xs < length ys = grind (arith, nat_tests) in l)
    go false e = h (let l : length ys ≤ length xs = grind (arith, nat_tests) in l)

pub in_left : (n : ℕ) (xs ys : List ℕ) → In n xs → In n (xs ++ ys)
in_left n [] ys h = absurd h
in_left n (x ∷ xs) ys h = ⊎_elim (λ (e : n ≡ x). inl e) (λ (t : In n xs). inr (in_left n xs ys t)) h

pub in_right : (n : ℕ) (xs ys : List ℕ) → In n ys → In n (xs ++ ys)
in_right n [] ys h = h
in_right n (x ∷ xs) ys h = inr (in_right n xs ys h)

pub in_cases : (n : ℕ) (xs ys : List ℕ) → In n (xs ++ ys) → In n xs ⊎ In n ys
in_cases n [] ys h = inr h
in_cases n (x ∷ xs) ys h = ⊎_elim (λ (e : n ≡ x). inl (inl e)) (λ (t : In n (xs ++ ys)). ⊎_elim (λ (a : In n xs). inl (inr a)) (λ (b : In n ys). inr b) (in_cases n xs ys t)) h

pub differ_append : (xs ys : List ℕ) → Differ xs → Differ ys → ((n : ℕ) → In n xs → ¬ In n ys) → Differ (xs ++ ys)
differ_append [] ys dx dy apart = dy
differ_append (x ∷ xs) ys dx dy apart = (
  (λ h. ⊎_elim (λ (a : In x xs). dx.0 a) (λ (b : In x ys). apart x (inl refl) b) (in_cases x xs ys h)),
  differ_append xs ys dx.1 dy (λ n a. apart n (inr a)),
)

pub longer_left : (xs ys : List Logged) → length xs ≤ length (longer xs ys)
longer_left xs ys = longer_cases xs ys (λ zs. length xs ≤ length zs) (λ l. omega arith) (λ l. omega arith)

pub longer_right : (xs ys : List Logged) → length ys ≤ length (longer xs ys)
longer_right xs ys = longer_cases xs ys (λ zs. length ys ≤ length zs) (λ l. omega arith) (λ l. l)

pub both_live : (a b : Share) → 0 < a.top → 0 < (both_shares a b).top
both_live a b live =
    let x : ℕ = 2 ^ (max a.halves b.halves - a.halves) in
    let p : 0 < x = pow_pos (max a.halves b.halves - a.halves) in
    let q : ¬ (a.top * x ≡ 0) = λ e. let z = zero_factor a.top x e p in absurd (omega arith) in
    dite (ℕ_discrete (a.top * x) 0) (λ e. absurd (q e)) (λ ne. omega arith)

-- who rests is at that stage
pub rests : (st : Stage) → is_resting st ≡ true → st ≡ Rest
rests Rest e = refl
rests (Waits t) e = absurd (cc (e))
rests (Holds t a) e = absurd (cc (e))
rests (Met a b) e = absurd (cc (e))
