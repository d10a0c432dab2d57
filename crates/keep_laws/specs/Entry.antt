-- Kept entries as they are looked up: the one that names a cell, and those inside an object.
use Rattle.std.specs.Prelude.{List, [], ◌∷◌, Bool, true, false, ◌&&◌, cond, Option, Some, None}
use Rattle.std.specs.Str.{bytes_eq}
use Rattle.kj_value.specs.Fields.{Pairs, with_field}
use Rattle.hub_cells.specs.Cell.{Tuple}
use Rattle.hub_cells.specs.Level.{Name, tuple_of}
use Rattle.hub_cells.specs.Fit.{has_name}
use Rattle.kept_entries.specs.declared.entry.Entry.{Entry}
use Rattle.kept_entries.specs.Entry.{is_before}

-- the fields with the values that are present
abbrev pub put : List Name → Tuple → Pairs → Pairs
put [] os ps = ps
put (n ∷ ns) [] ps = ps
put (n ∷ ns) (None ∷ os) ps = put ns os ps
put (n ∷ ns) (Some j ∷ os) ps = put ns os (with_field n j ps)

abbrev pub part : List Name → Tuple → Pairs
part ns os = put ns os []

abbrev pub all_named : List Name → Pairs → Bool
all_named ns [] = true
all_named ns (p ∷ ps) = has_name p.0 ns && all_named ns ps

-- there are fields, and all their names are among these
abbrev pub is_part : List Name → Pairs → Bool
is_part ns [] = false
is_part ns (p ∷ ps) = has_name p.0 ns && all_named ns ps

-- the tuple of the first entry at this level that names the cell of these names
abbrev pub kept_here : List Name → List Name → Pairs → Option Tuple → Option Tuple
kept_here ns [] was later = cond (is_part ns was) (Some (tuple_of ns was)) later
kept_here ns (m ∷ at) was later = later

abbrev pub kept_of : List Name → List Entry → Option Tuple
kept_of ns [] = None
kept_of ns (e ∷ es) = kept_here ns e.at e.was (kept_of ns es)

-- the entries inside the object n, and an entry of that object as it stands outside
abbrev pub inside_by : Name → List Name → Pairs → List Entry → List Entry
inside_by n [] was later = later
inside_by n (m ∷ at) was later = cond (bytes_eq m n) (record { at = at; was = was } ∷ later) later

abbrev pub inside : Name → List Entry → List Entry
inside n [] = []
inside n (e ∷ es) = inside_by n e.at e.was (inside n es)

abbrev pub under : Name → Entry → Entry
under n e = record { at = n ∷ e.at; was = e.was }

-- ---- sorted by path and then by the first name of the part

abbrev pub with_entry : Entry → List Entry → List Entry
with_entry e [] = e ∷ []
with_entry e (f ∷ fs) = cond (is_before e f) (e ∷ f ∷ fs) (f ∷ with_entry e fs)

abbrev pub in_order : List Entry → List Entry
in_order [] = []
in_order (e ∷ es) = with_entry e (in_order es)
