-- Laws that a call over a turn needs: what its turns are together, and that its value stands for the list afterwards.
use Rattle.std.specs.Prelude.{◌≡◌, ℕ, nat_eq, Bool, true, false, List, [], ◌∷◌, ◌++◌, Option, Some, None, refl}
use Rattle.std.proofs.Common.{ap, sym, ◌∙◌, subst, append_assoc}
use Rattle.std.proofs.lemmas.List.{append-nil}
use mathlib.Core.List.{IsPrefix}
use Rattle.api_calls.specs.Item.{Logged, Item, items_of}
use Rattle.turn_cell.specs.Numbers.{In}
use Rattle.turn_cell.specs.declared.view.Stage.TheVariants.{Rest, Holds}
use Rattle.turn_cell.specs.declared.view.View.{View}
use Rattle.turn_cell.specs.Views.{numbers_of, set_stage, stamped, IsAlone, Later}
use Rattle.turn_cell.specs.Turns.{Appends, Gives, Turned, addition, Enters, StandsAfter}

-- ---- beginnings of a list, and the items of a pass in two lists

pub prefix_self : {A : Type 0} (xs : List A) → IsPrefix xs xs
prefix_self xs = ([], append-nil xs)

pub prefix_trans : {A : Type 0} (xs ys zs : List A) → IsPrefix xs ys → IsPrefix ys zs → IsPrefix xs zs
prefix_trans xs ys zs p q = (p.0 ++ q.0, sym (append_assoc xs p.0 q.0) ∙ (ap (λ w. w ++ q.0) p.1 ∙ q.1))

pub items_of-append : (n : ℕ) (xs ys : List Logged) → items_of n (xs ++ ys) ≡ items_of n xs ++ items_of n ys
items_of-append n [] ys = refl
items_of-append n (x ∷ xs) ys = go (nat_eq x.by n) refl (items_of-append n xs ys)
  where
    go : (b : Bool) → nat_eq x.by n ≡ b → items_of n (xs ++ ys) ≡ items_of n xs ++ items_of n ys → items_of n ((x ∷ xs) ++ ys) ≡ items_of n (x ∷ xs) ++ items_of n ys
    go true e h = rw (e, h) refl
    go false e h = rw (e, h) refl

-- ---- one turn

-- a value that stands for the list after the item stands for what the pass then has seen
pub stands_now : {B : Type 0} (P : List Logged → Type 0) (w u : View B) (o : Option Item) → StandsAfter P w.seen o → Enters o w u → P u.seen
stands_now {B = B} P w u None stands same = subst P (sym (ap (λ (q : View B). q.seen) same)) stands
stands_now {B = B} P w u (Some item) stands added = subst P (sym (ap (λ (q : View B). q.seen) added.1)) (stands (stamped w item) refl refl)

module _ {B : Type 0} (v w : View B) (took : (t : ℕ) × (w ≡ set_stage v w.seen (Holds t 0))) (later : Later v w.seen) where
  -- a turn that adds nothing
  pub turn_reads : (z : View B) → Gives w z → Turned v z w.seen None
  turn_reads z given =
      let e : z ≡ set_stage v w.seen Rest = given ∙ ap (λ (q : View B). set_stage q w.seen Rest) took.1 in
      (later.0, later.1, later.2, e ∙ ap (λ (log : List Logged). set_stage v log Rest) (sym (append-nil w.seen)))

  -- a turn that adds an item
  pub turn_adds : (item : Item) (u z : View B) → Appends item w u → Gives u z → Turned v z w.seen (Some item)
  turn_adds item u z added given = (
    later.0,
    later.1,
    later.2,
    given ∙ (ap (λ (q : View B). set_stage q q.seen Rest) added.1 ∙ ap (λ (q : View B). set_stage q (w.seen ++ stamped q item ∷ []) Rest) took.1),
  )

  -- a turn with an item, if any
  pub turn_ends : (o : Option Item) (u z : View B) → Enters o w u → Gives u z → Turned v z w.seen o
  turn_ends None u z same given = turn_reads z (given ∙ ap (λ (q : View B). set_stage q q.seen Rest) same)
  turn_ends (Some item) u z added given = turn_adds item u z added given

  -- no item changes the base
  pub ends_base : (o : Option Item) (u : View B) → Enters o w u → u.base ≡ v.base
  ends_base None u same = ap (λ (q : View B). q.base) same ∙ ap (λ (q : View B). q.base) took.1
  ends_base (Some item) u added = ap (λ (q : View B). q.base) added.1 ∙ ap (λ (q : View B). q.base) took.1

-- ---- several turns

-- a turn that added nothing, and then others
pub turns_join : {B : Type 0} (v w z : View B) (first log : List Logged) (o : Option Item) → Turned v w first None → Turned w z log o → Turned v z log o
turns_join {B = B} v w z first log o a b =
    let w_is : w ≡ set_stage v first Rest = a.3 ∙ ap (λ (xs : List Logged). set_stage v xs Rest) (append-nil first) in
    let seen : w.seen ≡ first = ap (λ (q : View B). q.seen) w_is in
    let numbers : numbers_of w ≡ numbers_of v = ap (λ (q : View B). numbers_of q) w_is in (
      prefix_trans v.seen first log a.0 (subst (λ (xs : List Logged). IsPrefix xs log) seen b.0),
      (λ n h. b.1 n (subst (In n) (sym numbers) h) ∙ (ap (items_of n) seen ∙ a.1 n h)),
      (λ alone. b.2 (subst (λ (q : View B). IsAlone q) (sym w_is) alone) ∙ (seen ∙ a.2 alone)),
      b.3 ∙ ap (λ (q : View B). set_stage q (log ++ addition q log o) Rest) w_is,
    )
