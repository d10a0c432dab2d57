-- Kept entries in the order in which an annotation spells them.
use Rattle.std.specs.Prelude.{ℕ, List, [], ◌∷◌, Bool, true, false, ◌&&◌}
use Rattle.std.specs.Ordering.{nat_cmp, is_lt, ordering_then}
use Rattle.std.specs.Cmp.Lexicographic.{slice_cmp}
use Rattle.kj_value.specs.Fields.{Pairs}
use Rattle.kept_entries.specs.declared.entry.Entry.{Entry}

abbrev pub Name : Type 0
Name = List ℕ

-- the part isn't empty
abbrev pub has_part : Pairs → Bool
has_part [] = false
has_part (p ∷ ps) = true

abbrev pub first_name : Pairs → Name
first_name [] = []
first_name (p ∷ ps) = p.0

-- by path, name by name and a prefix first, and then by the first name of the part
abbrev pub is_before : Entry → Entry → Bool
is_before e f =
    is_lt (ordering_then (slice_cmp (slice_cmp nat_cmp) e.at f.at) (slice_cmp nat_cmp (first_name e.was) (first_name f.was)))

abbrev pub is_before_first : Entry → List Entry → Bool
is_before_first e [] = true
is_before_first e (f ∷ fs) = is_before e f

-- each has a part, and comes before the next
abbrev pub are_in_order : List Entry → Bool
are_in_order [] = true
are_in_order (e ∷ es) = has_part e.was && is_before_first e es && are_in_order es
