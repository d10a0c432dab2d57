-- For private clauses: where an entry belongs at a level, by the first name of its part or by the object that it is inside.
use Rattle.std.specs.Prelude.{ℕ, ◌<◌, length, suc, List, [], ◌∷◌, Bool, true, false, cond}
use Rattle.std.specs.Ordering.{nat_cmp, bool_cmp, ordering_then, is_lt, is_le}
use Rattle.std.specs.declared.cmp.Ordering.{Ordering}
use Rattle.std.specs.Cmp.Lexicographic.{slice_cmp}
use Rattle.kj_value.specs.Fields.{Pairs}
use Rattle.hub_cells.specs.Level.{Name}
use Rattle.kept_entries.specs.declared.entry.Entry.{Entry}
use Rattle.kept_entries.specs.Entry.{first_name}

-- whether it is inside an object, and the name
abbrev pub Spot : Type 0
Spot = Bool × Name

abbrev pub spot_at : List Name → Pairs → Spot
spot_at [] was = (false, first_name was)
spot_at (m ∷ at) was = (true, m)

abbrev pub spot : Entry → Spot
spot e = spot_at e.at e.was

-- what stands at the level before what is inside its objects, and then by name
abbrev pub spot_cmp : Spot → Spot → Ordering
spot_cmp s t = ordering_then (bool_cmp s.0 t.0) (slice_cmp nat_cmp s.1 t.1)

-- before the spot, or, where `also` is true, at it
abbrev pub comes_first : Spot → Bool → Entry → Bool
comes_first s also e = cond also (is_le (spot_cmp (spot e) s)) (is_lt (spot_cmp (spot e) s))

-- how many pass before the first that doesn't
abbrev pub leading : (Entry → Bool) → List Entry → ℕ
leading p [] = 0
leading p (e ∷ es) = cond (p e) (suc (leading p es)) 0

-- more names than n lead to each
abbrev pub AllDeeper : ℕ → List Entry → Type 0
AllDeeper n [] = Unit {0}
AllDeeper n (e ∷ es) = (n < length e.at) × AllDeeper n es
