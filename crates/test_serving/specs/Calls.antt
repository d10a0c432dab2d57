-- What a call over the turn is: its place in the list of its pass.
use Rattle.std.specs.Prelude.{ℕ, ◌≡◌, List, [], ◌∷◌, ◌++◌}
use Rattle.api_calls.specs.Item.{Logged, items_of}
use Rattle.turn_cell.specs.declared.view.View.{View}
use Rattle.turn_cell.specs.Numbers.{In}
use Rattle.turn_cell.specs.Turns.{Turned, addition}
use Rattle.turn_cell.specs.Views.{numbers_of}
use Rattle.test_serving.specs.declared.counter.AddEnd.{AddEnd}
use Rattle.test_serving.specs.Counts.{IsLegal, IsReply, entered_by}

-- one call: there is a list, later than what the pass had seen, at which the reply and the item are those of the counter of one thread
abbrev pub AnswersAsCounter : {B : Type 0} → ℕ → View B → View B → ℕ → AddEnd → Type 0
AnswersAsCounter limit v z x r = (log : List Logged) × Turned v z log (entered_by r x) × IsLegal limit z.seen × IsReply limit log x r

-- items of others than the pass
abbrev pub AreOthers : {B : Type 0} → View B → List Logged → Type 0
AreOthers v others = (n : ℕ) → In n (numbers_of v) → items_of n others ≡ []

-- The calls of one pass, in order, from the list p to the list q. Between two of them stand only items of others; each reply is that of the
-- counter of one thread at the list so far, and the item that it tells of comes next
abbrev pub ServesAsCounter : {B : Type 0} → ℕ → View B → List Logged → List ℕ → List AddEnd → List Logged → Type 0
ServesAsCounter limit v p [] [] q = (others : List Logged) × (q ≡ p ++ others) × AreOthers v others
ServesAsCounter limit v p [] (r ∷ rs) q = ⊥
ServesAsCounter limit v p (x ∷ xs) [] q = ⊥
ServesAsCounter limit v p (x ∷ xs) (r ∷ rs) q =
    (others : List Logged) × AreOthers v others
    × IsReply limit (p ++ others) x r
    × ServesAsCounter limit v ((p ++ others) ++ addition v (p ++ others) (entered_by r x)) xs rs q
