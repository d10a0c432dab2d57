-- What each step tells.
use Rattle.std.specs.Prelude.{ℕ, ◌≡◌, ◌≢◌, ◌==◌, ◌<◌, List, [], ◌∷◌, ◌++◌, length, Option, Some, MatchBool}
use Rattle.atomic_table.specs.Table.{Me, Step}
use Rattle.api_calls.specs.Item.{Logged, Item}
use Rattle.turn_cell.specs.declared.view.Sight.{Sight}
use Rattle.api_calls.specs.Item.{items_of}
use Rattle.turn_cell.specs.declared.view.Stage.TheVariants.{Rest, Waits, Holds, Met}
use Rattle.turn_cell.specs.declared.view.View.{View}
use Rattle.turn_cell.specs.Rule.{last_ticket}
use Rattle.turn_cell.specs.Views.{set_stage, stamped, Later, named, Unites}

abbrev pub Sat : Type 0 → Type 0 → Type 0
Sat T B = Me (Option T) (View B)

module _ {T B : Type 0} where
  -- where the ticket was found as it was expected, it is the pass's
  abbrev pub drew : Step (Option T) → Sat T B → ℕ → Sat T B → Type 0
  drew st m r m' = MatchBool (r == st.first) (m' ≡ (set_stage m.0 m.0.seen (Waits st.first), m.1)) (m' ≡ m)

  -- where the pass's ticket is served, its seat holds the slot, whose value stands for the whole list
  abbrev pub Sees : (T → List Logged → Type 0) → (T → B) → ℕ → Sat T B → Sat T B → Type 0
  Sees stands base_of t m m' =
      (x : T) × (log : List Logged)
      × (m' ≡ (set_stage m.0 log (Holds t 0), (0, Some x) ∷ m.1))
      × stands x log × (m.0.base ≡ Some (base_of x)) × (length log < last_ticket) × Later m.0 log

  abbrev pub saw : (T → List Logged → Type 0) → (T → B) → Step (Option T) → Sat T B → ℕ → Sat T B → Type 0
  saw stands base_of st m r m' = (t : ℕ) → m.0.stage ≡ Waits t → (r ≡ t → Sees stands base_of t m m') × (r ≢ t → m' ≡ m)

  -- the item is added to what was seen
  abbrev pub appended : Item → Step (Option T) → Sat T B → ℕ → Sat T B → Type 0
  appended item st m r m' = (t : ℕ) → m.0.stage ≡ Holds t 0 → m' ≡ (set_stage m.0 (m.0.seen ++ stamped m.0 item ∷ []) (Holds t 1), m.1)

  -- the pass has no ticket, and the slot is home
  abbrev pub passed_on : Step (Option T) → Sat T B → ℕ → Sat T B → Type 0
  passed_on st m r m' = (m' ≡ (set_stage m.0 m.0.seen Rest, [])) × (r < last_ticket)

  -- nothing is known of a bell or of a count of sleepers, and nothing else changed
  abbrev pub rang : Step (Option T) → Sat T B → ℕ → Sat T B → Type 0
  rang st m r m' = m' ≡ m

  -- where the number of callers was found as it was expected, it is the pass's number
  abbrev pub got_number : Step (Option T) → Sat T B → ℕ → Sat T B → Type 0
  got_number st m r m' = MatchBool (r == st.first) ((m' ≡ (named st.first m.0, m.1)) × (items_of st.first m.0.seen ≡ [])) (m' ≡ m)

  -- what the two lists are to each other
  abbrev pub looked : Step (Option T) → Sat T B → ℕ → Sat T B → Type 0
  looked st m r m' = (a b : Sight) → m.0.stage ≡ Met a b → (m' ≡ (set_stage m.0 m.0.seen Rest, m.1)) × Unites a b m.0
