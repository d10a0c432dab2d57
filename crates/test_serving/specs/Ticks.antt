-- What ticks do.
use Rattle.std.specs.Prelude.{ℕ, ◌≡◌, ◌+◌, length}
use mathlib.Core.List.{IsPrefix}
use Rattle.api_calls.specs.Item.{items_of}
use Rattle.turn_cell.specs.declared.view.View.{View}
use Rattle.turn_cell.specs.declared.view.Stage.TheVariants.{Rest}
use Rattle.turn_cell.specs.Views.{number_or, set_stage}

-- the pass added so many items
abbrev pub Ticked : {B : Type 0} → ℕ → View B → View B → Type 0
Ticked times v w =
    (w ≡ set_stage v w.seen Rest)
    × IsPrefix v.seen w.seen
    × (length (items_of (number_or v.number) w.seen) ≡ length (items_of (number_or v.number) v.seen) + times)
