-- Words on views.
use Rattle.std.specs.Prelude.{ℕ, ◌≡◌, ◌+◌, ◌*◌, ◌-◌, ◌^◌, List, [], ◌∷◌, ◌++◌, length, Option, Some, None, max, nat_lt, if◌then◌else◌}
use mathlib.Core.List.{IsPrefix}
use Rattle.api_calls.specs.Item.{Logged, Item, items_of}
use Rattle.turn_cell.specs.Numbers.{In, Differ}
use Rattle.turn_cell.specs.declared.view.Share.{Share}
use Rattle.turn_cell.specs.declared.view.Sight.{Sight}
use Rattle.turn_cell.specs.declared.view.Stage.{Stage}
use Rattle.turn_cell.specs.declared.view.Stage.TheVariants.{Rest, Met}
use Rattle.turn_cell.specs.declared.view.View.{View}

abbrev pub opening_view : {B : Type 0} → B → View B
opening_view b = record { base = Some b; number = Some 0; met = []; seen = []; share = record { top = 1; halves = 0 }; stage = Rest }

-- the number of a pass, and those that were met into it
abbrev pub numbers_or : Option ℕ → List ℕ → List ℕ
numbers_or None met = []
numbers_or (Some n) met = n ∷ met

abbrev pub numbers_of : {B : Type 0} → View B → List ℕ
numbers_of v = numbers_or v.number v.met

abbrev pub number_or : Option ℕ → ℕ
number_or None = 0
number_or (Some n) = n

-- the pass has the whole
abbrev pub IsAlone : {B : Type 0} → View B → Type 0
IsAlone v = v.share.top ≡ 2 ^ v.share.halves

-- the item that the pass adds
abbrev pub stamped : {B : Type 0} → View B → Item → Logged
stamped v item = record { by = number_or v.number; nth = length (items_of (number_or v.number) v.seen); item = item }

abbrev pub set_stage : {B : Type 0} → View B → List Logged → Stage → View B
set_stage v seen stage = record v { seen = seen; stage = stage }

-- the list log is later than what the pass had seen, and has no further item of it or of those met into it
abbrev pub Later : {B : Type 0} → View B → List Logged → Type 0
Later v log =
    IsPrefix v.seen log
    × ((n : ℕ) → In n (numbers_of v) → items_of n log ≡ items_of n v.seen)
    × (IsAlone v → log ≡ v.seen)
    × (IsAlone v → (n : ℕ) → ¬ In n (numbers_of v) → items_of n log ≡ [])

-- half of a share
abbrev pub half : Share → Share
half sh = record { top = sh.top; halves = sh.halves + 1 }

abbrev pub halved : {B : Type 0} → View B → View B
halved v = record v { share = half v.share }

-- the other half, with what was seen, and no number yet
abbrev pub newcomer : {B : Type 0} → View B → View B
newcomer v = record { base = v.base; number = None; met = []; seen = v.seen; share = half v.share; stage = Rest }

abbrev pub named : {B : Type 0} → ℕ → View B → View B
named n v = record v { number = Some n; met = [] }

-- two shares together
abbrev pub both_shares : Share → Share → Share
both_shares a b = record { top = a.top * 2 ^ (max a.halves b.halves - a.halves) + b.top * 2 ^ (max a.halves b.halves - b.halves); halves = max a.halves b.halves }

abbrev pub longer : List Logged → List Logged → List Logged
longer xs ys = if nat_lt (length xs) (length ys) then ys else xs

abbrev pub sight : {B : Type 0} → View B → Sight
sight v = record { seen = v.seen; numbers = numbers_of v }

abbrev pub met_with : {B : Type 0} → View B → View B → View B
met_with v w = record { base = v.base; number = v.number; met = v.met ++ numbers_of w; seen = longer v.seen w.seen; share = both_shares v.share w.share; stage = Rest }

abbrev pub meeting : {B : Type 0} → View B → View B → View B
meeting v w = record { base = v.base; number = v.number; met = v.met ++ numbers_of w; seen = longer v.seen w.seen; share = both_shares v.share w.share; stage = Met (sight v) (sight w) }

abbrev pub spent_view : {B : Type 0} → View B
spent_view = record { base = None; number = None; met = []; seen = []; share = record { top = 0; halves = 0 }; stage = Rest }

-- what two passes had seen are beginnings of what the one knows that they became, and all their numbers differ
abbrev pub Unites : {B : Type 0} → Sight → Sight → View B → Type 0
Unites a b v =
    IsPrefix a.seen v.seen × IsPrefix b.seen v.seen × Differ (a.numbers ++ b.numbers)
    × ((n : ℕ) → In n a.numbers → items_of n v.seen ≡ items_of n a.seen)
    × ((n : ℕ) → In n b.numbers → items_of n v.seen ≡ items_of n b.seen)
    × (IsAlone v → (n : ℕ) → ¬ In n (numbers_of v) → items_of n v.seen ≡ [])
