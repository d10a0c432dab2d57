-- Item ticks add up to.
use Rattle.std.proofs.Common.{ℕ, ◌≡◌, ◌≢◌, ◌+◌, ◌==◌, Bool, true, false, List, [], ◌∷◌, ◌++◌, length, Option, Some, None, refl, ap, sym, ◌∙◌, subst, arith, inl, inr, ⊎_elim, length-append}
use Rattle.std.proofs.lemmas.Bool.Decides.{nat_tests}
use mathlib.Core.Logic.{dite}
use native.Mathlib.Decide.{ℕ_discrete}
use mathlib.Core.List.{IsPrefix}
use Rattle.api_calls.specs.Item.{Logged, Item, items_of}
use Rattle.turn_cell.specs.Numbers.{In, Differ}
use Rattle.turn_cell.specs.declared.view.View.{View}
use Rattle.turn_cell.specs.declared.view.Stage.TheVariants.{Rest, Holds}
use Rattle.turn_cell.specs.Views.{numbers_of, numbers_or, number_or, set_stage, stamped, IsAlone, Later, opening_view, halved, newcomer, named, met_with}
use Rattle.turn_cell.specs.Turns.{is_numbered, Appends, Gives, Meets}
use Rattle.turn_cell.specs.laws.Laws.{items_of-append, prefix_self, prefix_trans}
use Rattle.test_serving.specs.Ticks.{Ticked}

one_item : (n : ℕ) (x : Logged) → x.by ≡ n → length (items_of n (x ∷ [])) ≡ 1
one_item n x is = go (x.by == n) refl
  where
    go : (b : Bool) → (x.by == n) ≡ b → length (items_of n (x ∷ [])) ≡ 1
    go true e = rw e refl
    go false e = let ne : x.by ≢ n = grind (arith, nat_tests) in absurd (ne is)

-- where all items of the list are of two passes
pub split_by_two : (a b : ℕ) (log : List Logged) → a ≢ b → ((n : ℕ) → ¬ In n (a ∷ b ∷ []) → items_of n log ≡ []) → length log ≡ length (items_of a log) + length (items_of b log)
split_by_two a b [] ne others = refl
split_by_two a b (i ∷ is) ne others =
    let rec : length is ≡ length (items_of a is) + length (items_of b is) = split_by_two a b is ne (λ n out. tail n (others n out)) in
    dite (ℕ_discrete i.by a)
    (λ ea. let x : length (items_of a (i ∷ is)) ≡ 1 + length (items_of a is) = here a ea in
    let y : length (items_of b (i ∷ is)) ≡ length (items_of b is) = away b (λ eb. ne (sym ea ∙ eb)) in omega arith)
    (λ na. dite (ℕ_discrete i.by b)
    (λ eb. let x : length (items_of b (i ∷ is)) ≡ 1 + length (items_of b is) = here b eb in
    let y : length (items_of a (i ∷ is)) ≡ length (items_of a is) = away a na in omega arith)
    (λ nb. let none_here = others i.by (λ h. ⊎_elim (λ (e : i.by ≡ a). na e) (λ (h' : In i.by (b ∷ [])). ⊎_elim (λ (e : i.by ≡ b). nb e) (λ (h'' : ⊥). h'') h') h) in
    let x : length (items_of i.by (i ∷ is)) ≡ 1 + length (items_of i.by is) = here i.by refl in
    let zero_there : length (items_of i.by (i ∷ is)) ≡ 0 = ap length none_here in absurd (omega arith)))
  where
    here : (n : ℕ) → i.by ≡ n → length (items_of n (i ∷ is)) ≡ 1 + length (items_of n is)
    here n e = go (i.by == n) refl
      where
        go : (c : Bool) → (i.by == n) ≡ c → length (items_of n (i ∷ is)) ≡ 1 + length (items_of n is)
        go true h = rw h (omega arith)
        go false h = let d : i.by ≢ n = grind (arith, nat_tests) in absurd (d e)

    away : (n : ℕ) → i.by ≢ n → length (items_of n (i ∷ is)) ≡ length (items_of n is)
    away n d = go (i.by == n) refl
      where
        go : (c : Bool) → (i.by == n) ≡ c → length (items_of n (i ∷ is)) ≡ length (items_of n is)
        go true h = let e : i.by ≡ n = grind (arith, nat_tests) in absurd (d e)
        go false h = rw h refl

    tail : (n : ℕ) → items_of n (i ∷ is) ≡ [] → items_of n is ≡ []
    tail n e = go (i.by == n) refl
      where
        go : (c : Bool) → (i.by == n) ≡ c → items_of n is ≡ []
        go true h = let k : i ∷ items_of n is ≡ [] = (rw h at e) in absurd (cc (k))
        go false h = rw h at e

number_in : {B : Type 0} (v : View B) → is_numbered v.number ≡ true → In (number_or v.number) (numbers_of v)
number_in v h = go v.number h
  where
    go : (o : Option ℕ) → is_numbered o ≡ true → In (number_or o) (numbers_or o v.met)
    go None e = absurd (cc (e))
    go (Some n) e = inl refl

module _ {B : Type 0} where
  pub ticked_none : (v : View B) → v.stage ≡ Rest → Ticked 0 v v
  ticked_none v rest = (ap (λ st. record v { stage = st }) rest, prefix_self v.seen, omega arith)

  pub ticked_once : (v w u z : View B) (item : Item) → is_numbered v.number ≡ true → (t : ℕ) → w ≡ set_stage v w.seen (Holds t 0) → Later v w.seen → Appends item w u → Gives u z → Ticked 1 v z
  ticked_once v w u z item numbered t took later added given =
      let x : Logged = stamped w item in
      let n : ℕ = number_or v.number in
      let number : w.number ≡ v.number = ap (λ (q : View B). q.number) took in
      let seen : z.seen ≡ w.seen ++ x ∷ [] = ap (λ (q : View B). q.seen) given ∙ ap (λ (q : View B). q.seen) added.1 in
      let items : items_of n z.seen ≡ items_of n v.seen ++ items_of n (x ∷ []) =
      ap (items_of n) seen ∙ (items_of-append n w.seen (x ∷ []) ∙ ap (λ xs. xs ++ items_of n (x ∷ [])) (later.1 n (number_in v numbered))) in
      let one : length (items_of n (x ∷ [])) ≡ 1 = one_item n x (ap number_or number) in
      let count : length (items_of n z.seen) ≡ length (items_of n v.seen) + 1 =
      ap length items ∙ (length-append (items_of n v.seen) (items_of n (x ∷ [])) ∙ ap (λ k. length (items_of n v.seen) + k) one) in
      let now : z ≡ set_stage v (w.seen ++ x ∷ []) Rest = given ∙ (ap (λ (q : View B). set_stage q q.seen Rest) added.1 ∙ ap (λ (q : View B). set_stage q (w.seen ++ x ∷ []) Rest) took) in
      let back : set_stage v (w.seen ++ x ∷ []) Rest ≡ set_stage v z.seen Rest = ap (λ (xs : List Logged). set_stage v xs Rest) (sym seen) in (
        now ∙ back,
        subst (IsPrefix v.seen) (sym seen) (prefix_trans v.seen w.seen (w.seen ++ x ∷ []) later.0 (x ∷ [], refl)),
        count,
      )

  pub ticked_more : (a : ℕ) (v w z : View B) → Ticked a v w → Ticked 1 w z → Ticked (a + 1) v z
  ticked_more a v w z first then =
      let number : w.number ≡ v.number = ap (λ (q : View B). q.number) first.0 in
      let f : Option ℕ → ℕ = λ o. length (items_of (number_or o) z.seen) in
      let g : Option ℕ → ℕ = λ o. length (items_of (number_or o) w.seen) in
      let last : f w.number ≡ g w.number + 1 = then.2 in
      let fs : f w.number ≡ f v.number = ap f number in
      let gs : g w.number ≡ g v.number = ap g number in
      let was : g v.number ≡ length (items_of (number_or v.number) v.seen) + a = first.2 in
      let count : f v.number ≡ length (items_of (number_or v.number) v.seen) + (a + 1) = omega arith in
      (then.0 ∙ ap (λ (q : View B). set_stage q z.seen Rest) first.0, prefix_trans v.seen w.seen z.seen first.1 then.1, count)

  -- two passes of one turn, each with so many ticks, and then together
  pub two_total : (b : B) (times n : ℕ) (f s0 s u : View B) (log : List Logged)
      → Ticked times (halved (opening_view b)) f → s0 ≡ named n (newcomer (opening_view b)) → Ticked times s0 s → Meets f s u → Later u log → length log ≡ times + times
  two_total b times n f s0 s u log first new second met later =
      let start : View B = halved (opening_view b) in
      let fresh : View B = named n (newcomer (opening_view b)) in
      let second' : Ticked times fresh s = subst (λ (q : View B). Ticked times q s) new second in
      let f_is : f ≡ set_stage start f.seen Rest = first.0 in
      let s_is : s ≡ set_stage fresh s.seen Rest = second'.0 in
      let u_is : u ≡ met_with (set_stage start f.seen Rest) (set_stage fresh s.seen Rest) = met.0 ∙ (λ i. met_with (f_is i) (s_is i)) in
      let alone : IsAlone u = subst (λ (q : View B). IsAlone q) (sym u_is) refl in
      let numbers : numbers_of u ≡ 0 ∷ n ∷ [] = ap (λ (q : View B). numbers_of q) u_is in
      let unites = met.1 in
      let differ : Differ (0 ∷ n ∷ []) = subst Differ (λ i. numbers_of (f_is i) ++ numbers_of (s_is i)) unites.2 in
      let apart : 0 ≢ n = λ e. differ.0 (inl e) in
      let in_f : In 0 (numbers_of f) = subst (λ (q : View B). In 0 (numbers_of q)) (sym f_is) (inl refl) in
      let in_s : In n (numbers_of s) = subst (λ (q : View B). In n (numbers_of q)) (sym s_is) (inl refl) in
      let f_items : items_of 0 log ≡ items_of 0 f.seen = later.1 0 (subst (In 0) (sym numbers) (inl refl)) ∙ unites.3 0 in_f in
      let s_items : items_of n log ≡ items_of n s.seen = later.1 n (subst (In n) (sym numbers) (inr (inl refl))) ∙ unites.4 n in_s in
      let fs : length (items_of 0 log) ≡ length (items_of 0 f.seen) = ap length f_items in
      let ss : length (items_of n log) ≡ length (items_of n s.seen) = ap length s_items in
      let fc : length (items_of 0 f.seen) ≡ 0 + times = first.2 in
      let sc : length (items_of n s.seen) ≡ 0 + times = second'.2 in
      let all = split_by_two 0 n log apart (λ m out. later.3 alone m (λ h. out (subst (In m) numbers h))) in
      omega arith
