-- One call more.
use Rattle.std.proofs.Common.{ℕ, ◌≡◌, List, [], ◌∷◌, ◌++◌, length, refl, ap, sym, ◌∙◌, subst, arith, append_assoc, length-append}
use Rattle.std.proofs.lemmas.List.{append-nil}
use Rattle.api_calls.specs.Item.{Logged, items_of}
use Rattle.turn_cell.specs.Numbers.{In}
use Rattle.turn_cell.specs.declared.view.View.{View}
use Rattle.turn_cell.specs.declared.view.Stage.TheVariants.{Rest}
use Rattle.turn_cell.specs.Views.{numbers_of, set_stage}
use Rattle.turn_cell.specs.Turns.{addition}
use Rattle.turn_cell.specs.laws.Laws.{items_of-append}
use Rattle.test_serving.specs.declared.counter.AddEnd.{AddEnd}
use Rattle.test_serving.specs.Counts.{IsReply, entered_by}
use Rattle.test_serving.specs.Calls.{ServesAsCounter, AnswersAsCounter}

-- what is left of a list that has no more items of a pass has none
none_more : (n : ℕ) (xs ys : List Logged) → items_of n (xs ++ ys) ≡ items_of n xs → items_of n ys ≡ []
none_more n xs ys e =
    let a : length (items_of n xs ++ items_of n ys) ≡ length (items_of n xs) = ap length (sym (items_of-append n xs ys) ∙ e) in
    empty (items_of n ys) (let l = length-append (items_of n xs) (items_of n ys) in omega arith)
  where
    empty : (zs : List Logged) → length zs ≡ 0 → zs ≡ []
    empty [] z = refl
    empty (x ∷ zs) z = absurd (omega arith)

module _ {B : Type 0} (limit : ℕ) (v : View B) where
  pub serves_none : (p : List Logged) → ServesAsCounter limit v p [] [] p
  serves_none p = ([], sym (append-nil p), λ n h. refl)

  -- the list q goes on as log, with items of others alone
  pub serves_snoc : (p q log z : List Logged) (xs : List ℕ) (rs : List AddEnd) (x : ℕ) (r : AddEnd) → ServesAsCounter limit v p xs rs q
      → (rest : List Logged) × (q ++ rest ≡ log) → ((n : ℕ) → In n (numbers_of v) → items_of n log ≡ items_of n q)
      → IsReply limit log x r → z ≡ log ++ addition v log (entered_by r x) → ServesAsCounter limit v p (xs ++ x ∷ []) (rs ++ r ∷ []) z
  serves_snoc p q log z [] [] x r served on none_new reply is =
      let others : List Logged = served.0 ++ on.0 in
      let all : log ≡ p ++ others = sym on.1 ∙ (ap (λ xs. xs ++ on.0) served.1 ∙ append_assoc p served.0 on.0) in (
        others,
        (λ n h. let tail : items_of n on.0 ≡ [] = none_more n q on.0 (ap (items_of n) on.1 ∙ none_new n h) in
            items_of-append n served.0 on.0 ∙ ((λ i. served.2 n h i ++ tail i) ∙ refl)),
        subst (λ (xs : List Logged). IsReply limit xs x r) all reply,
        subst (λ (xs : List Logged). ServesAsCounter limit v (xs ++ addition v xs (entered_by r x)) [] [] z) all
            ([], is ∙ sym (append-nil (log ++ addition v log (entered_by r x))), λ n h. refl),
      )
  serves_snoc p q log z [] (s ∷ rs) x r served on none_new reply is = absurd served
  serves_snoc p q log z (y ∷ ys) [] x r served on none_new reply is = absurd served
  serves_snoc p q log z (y ∷ ys) (s ∷ rs) x r served on none_new reply is = (
    served.0,
    served.1,
    served.2,
    serves_snoc ((p ++ served.0) ++ addition v (p ++ served.0) (entered_by s y)) q log z ys rs x r served.3 on none_new reply is,
  )

  -- the same by the contract of one call
  pub serves_more : (u z : View B) (xs : List ℕ) (rs : List AddEnd) (x : ℕ) (r : AddEnd) → u ≡ set_stage v u.seen Rest → ServesAsCounter limit v v.seen xs rs u.seen → AnswersAsCounter limit u z x r
      → (z ≡ set_stage v z.seen Rest) × ServesAsCounter limit v v.seen (xs ++ x ∷ []) (rs ++ r ∷ []) z.seen
  serves_more u z xs rs x r same served answers =
      let log : List Logged = answers.0 in
      let t = answers.1 in
      let numbers : numbers_of u ≡ numbers_of v = ap (λ (q : View B). numbers_of q) same in
      let z_is : z ≡ set_stage v (log ++ addition v log (entered_by r x)) Rest = t.3 ∙ ap (λ (q : View B). set_stage q (log ++ addition q log (entered_by r x)) Rest) same in
      let z_seen : z.seen ≡ log ++ addition v log (entered_by r x) = ap (λ (q : View B). q.seen) z_is in (
        z_is ∙ ap (λ (xs : List Logged). set_stage v xs Rest) (sym z_seen),
        serves_snoc v.seen u.seen log z.seen xs rs x r served t.0 (λ n h. t.1 n (subst (In n) (sym numbers) h)) answers.3 z_seen,
      )
