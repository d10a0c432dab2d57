-- The parts of a rule, as the document spells them: what each is, and the path of what is refused in it.
use Rattle.std.specs.Prelude.{ℕ, zero, suc, ℤ, pos, negsuc, List, [], Bool, ◌&&◌, cond, nat_lt, Option, Some, None, Result, Ok, Err}
use Rattle.std.specs.Ordering.{nat_cmp, match_ordering}
use Rattle.std.specs.Cmp.Lexicographic.{slice_cmp}
use Rattle.kj_value.specs.Json.{Json, null, boolean, whole, text, list, object, Items, no_items, item, Members, no_members, member}
use Rattle.hub_cells.specs.Level.{Name}
use Rattle.struct_schema.specs.PathText.{Path, here, in_name}
use Rattle.rule_reading.specs.Tried.{under_name, under_item, both, more}

-- ---- names of an object

-- the name and value at a place in the order of names
abbrev pub field_at : ℕ → Members → Option (Name × Json)
field_at i no_members = None
field_at zero (member k j ms) = Some (k, j)
field_at (suc i) (member k j ms) = field_at i ms

-- where a name must be the next one: an earlier name is unknown, and a later one shows that it's absent
abbrev pub at_name : {A : Type 0} → Name → Name → Result A Path → Result A Path
at_name w k r = match_ordering (slice_cmp nat_cmp k w) (Err (in_name k here)) r (Err (in_name w here))

abbrev pub named_value : Name → Option (Name × Json) → Result Json Path
named_value w None = Err (in_name w here)
named_value w (Some f) = at_name w f.0 (Ok f.1)

-- the value at the name that must be the next one, read
abbrev pub read_in : {A : Type 0} → Name → (Json → Result A Path) → Result Json Path → Result A Path
read_in w f (Ok j) = under_name w (f j)
read_in w f (Err p) = Err p

abbrev pub field_read : {A : Type 0} → Name → (Json → Result A Path) → ℕ → Members → Result A Path
field_read w f i ms = read_in w f (named_value w (field_at i ms))

-- a name that must not be there
abbrev pub beyond : Option (Name × Json) → Option Path
beyond None = None
beyond (Some f) = Some (in_name f.0 here)

-- what is refused after all else, where something is
abbrev pub ended : {A : Type 0} → Option Path → Result A Path → Result A Path
ended o (Err p) = Err p
ended None (Ok a) = Ok a
ended (Some p) (Ok a) = Err p

-- ---- texts and pairs of texts

abbrev pub text_read : Json → Result Name Path
text_read (text t) = Ok t
text_read _ = Err here

-- the items of a list of two
abbrev pub two_items : Json → Option (Json × Json)
two_items (list (item a (item b no_items))) = Some (a, b)
two_items _ = None

abbrev pub two_read : {A : Type 0} → (Json → Result A Path) → Option (Json × Json) → Result (A × A) Path
two_read f None = Err here
two_read f (Some p) = both (under_item 0 (f p.0)) (under_item 1 (f p.1))

-- a list of two texts
abbrev pub names_read : Json → Result (Name × Name) Path
names_read j = two_read text_read (two_items j)

-- ---- scalars and pairs of scalars

abbrev pub scalar_read : Json → Result Json Path
scalar_read null = Ok null
scalar_read (boolean b) = Ok (boolean b)
scalar_read (whole z) = Ok (whole z)
scalar_read (text t) = Ok (text t)
scalar_read (list js) = Err here
scalar_read (object ms) = Err here

-- a list of two scalars
abbrev pub pair_read : Json → Result (Json × Json) Path
pair_read j = two_read scalar_read (two_items j)

-- from an item on
abbrev pub pairs_from : ℕ → Items → Result (List (Json × Json)) Path
pairs_from i no_items = Ok []
pairs_from i (item j js) = more (under_item i (pair_read j)) (λ p. pairs_from (suc i) js)

-- a list of lists of two scalars
abbrev pub pairs_read : Json → Result (List (Json × Json)) Path
pairs_read (list js) = pairs_from 0 js
pairs_read _ = Err here

-- ---- factors

-- from 2 to 1,000,000,000
abbrev pub is_factor : ℕ → Bool
is_factor k = nat_lt 1 k && nat_lt k 1000000001

abbrev pub factor_of : ℤ → Result ℕ Path
factor_of (pos k) = cond (is_factor k) (Ok k) (Err here)
factor_of (negsuc k) = Err here

abbrev pub factor_read : Json → Result ℕ Path
factor_read (whole z) = factor_of z
factor_read _ = Err here
