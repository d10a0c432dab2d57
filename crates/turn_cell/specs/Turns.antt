-- What the calls say.
use Rattle.std.specs.Prelude.{ℕ, ◌≡◌, ◌^◌, ◌<◌, Bool, true, false, List, [], ◌∷◌, ◌++◌, length, Option, Some, None}
use Rattle.api_calls.specs.Item.{Logged, Item}
use mathlib.Core.List.{IsPrefix}
use Rattle.api_calls.specs.Item.{items_of}
use Rattle.turn_cell.specs.Numbers.{In}
use Rattle.turn_cell.specs.declared.view.Stage.{Stage}
use Rattle.turn_cell.specs.declared.view.Stage.TheVariants.{Rest, Waits, Holds, Met}
use Rattle.turn_cell.specs.declared.view.View.{View}
use Rattle.turn_cell.specs.Views.{numbers_of, IsAlone, set_stage, stamped, Later, newcomer, named, met_with, sight, Unites}

-- between two calls a pass rests or holds the turn
abbrev pub is_settled : Stage → Bool
is_settled Rest = true
is_settled (Waits t) = false
is_settled (Holds t a) = true
is_settled (Met a b) = false

abbrev pub is_resting : Stage → Bool
is_resting Rest = true
is_resting (Waits t) = false
is_resting (Holds t a) = false
is_resting (Met a b) = false

-- the slots that a pass has between two calls: the one that it emptied
abbrev pub carried_at : {T : Type 0} → Stage → List (ℕ × Option T)
carried_at Rest = []
carried_at (Waits t) = []
carried_at (Holds t a) = (0, None) ∷ []
carried_at (Met a b) = []

abbrev pub is_numbered : Option ℕ → Bool
is_numbered None = false
is_numbered (Some n) = true

module _ {B : Type 0} where
  abbrev pub IsResting : View B → Type 0
  IsResting v = is_resting v.stage ≡ true

  -- the pass holds the turn, and added nothing since it took it
  abbrev pub IsFresh : View B → Type 0
  IsFresh v = (t : ℕ) × (v.stage ≡ Holds t 0)

  abbrev pub IsHolding : View B → Type 0
  IsHolding v = (t : ℕ) × (a : ℕ) × (v.stage ≡ Holds t a)

  -- the pass v took the turn, and is w; the value x stands for all that it then has seen
  abbrev pub Takes : {T : Type 0} → (T → List Logged → Type 0) → (T → B) → View B → View B → T → Type 0
  Takes stands base_of v w x =
      ((t : ℕ) × (w ≡ set_stage v w.seen (Holds t 0)))
      × stands x w.seen × (v.base ≡ Some (base_of x)) × (length w.seen < 2 ^ 61) × Later v w.seen

  abbrev pub Appends : Item → View B → View B → Type 0
  Appends item v w = (t : ℕ) × (w ≡ set_stage v (v.seen ++ stamped v item ∷ []) (Holds t 1))

  -- the value may be given back
  abbrev pub MayGive : {T : Type 0} → (T → List Logged → Type 0) → (T → B) → View B → T → Type 0
  MayGive stands base_of v x = stands x v.seen × (v.base ≡ Some (base_of x))

  abbrev pub Gives : View B → View B → Type 0
  Gives v w = w ≡ set_stage v v.seen Rest

  -- the pass w was made of v, and has a number of its own
  abbrev pub IsNew : View B → View B → Type 0
  IsNew v w = (n : ℕ) × (w ≡ named n (newcomer v)) × (items_of n v.seen ≡ [])

  -- the passes v and w met in u
  abbrev pub Meets : View B → View B → View B → Type 0
  Meets v w u = (u ≡ met_with v w) × Unites (sight v) (sight w) u

  -- the item that a turn adds where the list is log, if any
  abbrev pub addition : View B → List Logged → Option Item → List Logged
  addition v log None = []
  addition v log (Some item) = stamped (set_stage v log Rest) item ∷ []

  -- one or more turns of the pass v, which is z afterwards. In the last one the list was log, and then the item was added, if any
  abbrev pub Turned : View B → View B → List Logged → Option Item → Type 0
  Turned v z log item =
      IsPrefix v.seen log
      × ((n : ℕ) → In n (numbers_of v) → items_of n log ≡ items_of n v.seen)
      × (IsAlone v → log ≡ v.seen)
      × (z ≡ set_stage v (log ++ addition v log item) Rest)

  -- the item is added, if any
  abbrev pub Enters : Option Item → View B → View B → Type 0
  Enters None v w = w ≡ v
  Enters (Some item) v w = Appends item v w

-- P holds of the list with the item, whichever pass adds it, counted as it is; or of the list as it is, where there is none
abbrev pub StandsAfter : (List Logged → Type 0) → List Logged → Option Item → Type 0
StandsAfter P log None = P log
StandsAfter P log (Some item) = (i : Logged) → i.item ≡ item → i.nth ≡ length (items_of i.by log) → P (log ++ i ∷ [])
