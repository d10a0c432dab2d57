-- The rule of the table.
-- The words are the next ticket, the ticket that is served, the number of items, the number of callers, and the bells with the counts of their sleepers, of which nothing is known.
use Rattle.std.specs.Prelude.{ℕ, ◌≡◌, ◌+◌, ◌*◌, ◌-◌, ◌^◌, ◌<◌, ◌≤◌, Bool, true, false, List, [], ◌∷◌, ◌++◌, length, Option, Some}
use mathlib.Core.Option.{some, none}
use mathlib.Core.List.{IsPrefix}
use lib.ListN.{get_elem?}
use Rattle.atomic_table.specs.Table.{State}
use Rattle.api_calls.specs.Item.{Logged, items_of}
use Rattle.turn_cell.specs.Numbers.{In, Differ}
use Rattle.turn_cell.specs.declared.view.Share.{Share}
use Rattle.turn_cell.specs.declared.view.Stage.{Stage}
use Rattle.turn_cell.specs.declared.view.Stage.TheVariants.{Rest, Waits, Holds, Met}
use Rattle.turn_cell.specs.declared.view.View.{View}
use Rattle.turn_cell.specs.Views.{numbers_of}

-- no ticket and no pass has these numbers or greater ones: 2 ^ 61 and 2 ^ 62
abbrev pub last_ticket : ℕ
last_ticket = 2305843009213693952

abbrev pub last_pass : ℕ
last_pass = 4611686018427387904

pub record CellPlan (B : Type 0) : Type 0 where
  pub ticket : ℕ
  pub serving : ℕ
  pub callers : ℕ
  pub bells : List ℕ
  pub log : List Logged
  pub base : B
  -- the slot is out, and how many items were added since
  pub busy : Bool
  pub added : ℕ
  -- the seat of a ticket, and that of a number
  pub owner : ℕ → ℕ
  pub keeper : ℕ → ℕ
  -- a seat that has seen the whole list
  pub top : ℕ
  -- no share is cut more often
  pub scale : ℕ

module _ {B : Type 0} (p : CellPlan B) (j : ℕ) where
  -- what was seen is a beginning, with all items of these numbers, which are the seat's
  abbrev pub HasAll : List Logged → List ℕ → Type 0
  HasAll seen numbers = (n : ℕ) → In n numbers → (n < p.callers) × (p.keeper n ≡ j) × (items_of n seen ≡ items_of n p.log)

  abbrev pub AtStage : List Logged → Stage → Type 0
  AtStage seen Rest = Unit {0}
  AtStage seen (Waits t) = (t < p.ticket) × (p.owner t ≡ j)
  AtStage seen (Holds t a) = (t ≡ p.serving) × (p.owner t ≡ j) × (p.busy ≡ true) × (a ≡ p.added) × (seen ≡ p.log)
  AtStage seen (Met a b) = IsPrefix a.seen p.log × IsPrefix b.seen p.log × HasAll a.seen a.numbers × HasAll b.seen b.numbers × Differ (a.numbers ++ b.numbers)

  pub record Fits (v : View B) : Type 0 where
    pub stage : AtStage v.seen v.stage
    pub begins : IsPrefix v.seen p.log
    pub halves : v.share.halves ≤ p.scale
    pub based : 0 < v.share.top → v.base ≡ Some p.base
    pub spent : v.share.top ≡ 0 → (v.seen ≡ []) × (numbers_of v ≡ [])
    pub owns : HasAll v.seen (numbers_of v)
    pub differ : Differ (numbers_of v)

-- a share in parts of 2 ^ scale
abbrev pub parts_of : ℕ → Share → ℕ
parts_of scale sh = sh.top * 2 ^ (scale - sh.halves)

abbrev pub total : {A : Type 0} → (A → ℕ) → List A → ℕ
total f [] = 0
total f (x ∷ xs) = f x + total f xs

abbrev pub view_parts : {B : Type 0} → ℕ → View B → ℕ
view_parts scale v = parts_of scale v.share

module _ {T B : Type 0} (stands : T → List Logged → Type 0) (base_of : T → B) where
  pub record Kept (s : State (Option T) (View B)) : Type 0 where
    pub plan : CellPlan B
    pub words : s.words ≡ plan.ticket ∷ plan.serving ∷ length plan.log ∷ plan.callers ∷ plan.bells
    pub bounds : (plan.serving ≤ plan.ticket) × (plan.ticket ≤ last_ticket) × (plan.callers ≤ last_pass)
    -- a value that is home stands for the list
    pub home : plan.busy ≡ false → (x : T) × (s.homes ≡ some (Some x) ∷ []) × stands x plan.log × (base_of x ≡ plan.base)
    pub out : plan.busy ≡ true → s.homes ≡ none ∷ []
    pub turn : plan.busy ≡ true → (v : View B) × (get_elem? s.views (plan.owner plan.serving) ≡ some v) × (v.stage ≡ Holds plan.serving plan.added) × (plan.serving < plan.ticket)
    pub count : (length plan.log ≤ plan.serving + plan.added) × (plan.busy ≡ false → plan.added ≡ 0) × (plan.added ≤ 1)
    pub each : (j : ℕ) (v : View B) → get_elem? s.views j ≡ some v → Fits plan j v
    pub longest : (v : View B) × (get_elem? s.views plan.top ≡ some v) × (v.seen ≡ plan.log)
    pub shares : total (view_parts plan.scale) s.views ≡ 2 ^ plan.scale
    pub claimed : (n : ℕ) → n < plan.callers → (v : View B) × (get_elem? s.views (plan.keeper n) ≡ some v) × In n (numbers_of v)
    pub bounded : (n : ℕ) → plan.callers ≤ n → items_of n plan.log ≡ []
