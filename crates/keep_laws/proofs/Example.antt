-- A small example: a number that both versions have by one name, and an object inside that both have by one name.
use Rattle.std.proofs.Common.{◌≡◌, pos, [], ◌∷◌, Bool, true, false, cond, ◌||◌, Some, FitsSigned, bytes_eq, refl, subst, arith}
use Rattle.std.specs.Int.{w64}
use Rattle.std.proofs.lemmas.Int.{ints}
use Rattle.std.proofs.lemmas.Map.Text.{is_eq-slice_cmp}
use Rattle.std.proofs.lemmas.Slice.Eq.{bytes_eq-Decides}
use Rattle.kj_value.specs.Json.{null, whole, list, object, no_items, no_members, members_of}
use Rattle.kj_value.specs.Fields.{Pairs}
use Rattle.kj_value.specs.Sound.{AreRising}
use Rattle.struct_schema.specs.Shape.{plain, Shape, shape, shape_at, no_shapes, no_map, some_map, no_shape, some_shape, properties}
use Rattle.struct_schema.specs.Names.{is_name, property}
use Rattle.struct_schema.specs.Valid.{valid}
use Rattle.struct_schema.specs.Stays.{stays}
use Rattle.struct_schema.specs.laws.Own.{stays_filled}
use Rattle.struct_schema.specs.declared.kind.NodeKind.TheVariants.{Object, Whole}
use Rattle.hub_cells.specs.Side.{Side, spoke, hub, other}
use Rattle.hub_cells.specs.Cell.{same, Tuple}
use Rattle.hub_cells.specs.Cross.{matched}
use Rattle.hub_cells.specs.Level.{Name, Place, Cell, Level, level, no_inner, inner, names, tuple_of, allows, MatchAllowed, some_there, can_default, MatchThere, NoNameTwice}
use Rattle.hub_cells.specs.Fit.{Fit, shape_on, has_name, is_required, IsClosedObject, Stands, IsFitted}
use Rattle.keep_laws.specs.Known.{IsKnown}
use Rattle.keep_laws.specs.Settle.{IsAllowed, AreSet, settled, converted}
use Rattle.keep_laws.specs.Whole.{Held, IsWholeOnSide, marks_of}
use Rattle.keep_laws.specs.Words.{IsSettledObject}
use Rattle.hub_rules.specs.Rule.{within, no_rules, rule}
use Rattle.hub_fit.specs.Chosen.{fit_of}
use Rattle.keep_laws.specs.FittedBody.{IsBodyOf, HasRoom, IsWholeObject}
use Rattle.keep_laws.proofs.Tests.{lies}
use Rattle.keep_laws.proofs.Object.{no_some}
use Rattle.keep_laws.proofs.Fitted.{ready, body_known, body_allowed, body_set, body_back, over_whole, settled_is_whole, over_body, whole_object, object_whole}
use Rattle.keep_laws.proofs.Room.{room_of}
use Rattle.keep_laws.proofs.Settled.{whole_settled}

-- ---- the schema, the level and the body: `c` is a number and required, and `p` an object without names

abbrev count : Name
count = 99 ∷ []

abbrev part : Name
part = 112 ∷ []

abbrev number : Shape
number = shape (plain Whole) no_map no_shape no_shape

abbrev block : Shape
block = shape (plain Object) (some_map no_shapes) no_shape no_shape

abbrev both : Shape
both =
    shape (record (plain Object) { required = count ∷ [] }) (some_map (shape_at count number (shape_at part block no_shapes))) no_shape no_shape

abbrev place : Place
place = record { name = count; shape = number; required = true }

abbrev cell : Cell
cell = record { spoke = place ∷ []; hub = place ∷ []; kind = same; depth = 0 }

abbrev inside : Level
inside = level [] no_inner

abbrev fit : Fit
fit = record {
  spoke = both;
  hub = both;
  depth = 0;
  level = level (cell ∷ []) (inner part part false inside no_inner);
}

abbrev fields : Pairs
fields = (count, whole (pos 3)) ∷ (part, object no_members) ∷ []

abbrev held : Held
held = record { fields = fields; entries = [] }

-- ---- the level stands for both sides

absent : (d : Side) → matched d cell.kind (tuple_of (names d cell) []) ≡ Some (tuple_of (names (other d) cell) [])
absent spoke = refl
absent hub = refl

answer : (d : Side) (t : Tuple) → allows d cell t ≡ true → MatchAllowed cell d (matched d cell.kind t) t
answer spoke t h = h
answer hub t h = h

stays_there : (d : Side) (t : Tuple) → can_default cell ≡ true → allows d cell t ≡ true → some_there t ≡ true → MatchThere cell d (matched d cell.kind t) t
stays_there spoke t c h g = g
stays_there hub t c h g = g

apart : count ≡ part → ⊥
apart e = lies ((bytes_eq-Decides count part).1 e)

no_name_twice : (d : Side) → NoNameTwice d fit.level
no_name_twice spoke = (((apart, tt), (tt, tt)), ((tt, tt), tt))
no_name_twice hub = (((apart, tt), (tt, tt)), ((tt, tt), tt))

has_property : (k : Name) (t : Shape) → property k (properties both) ≡ some_shape t → has_name k (count ∷ part ∷ []) ≡ true
has_property k t e =
    by_tests (bytes_eq k count) (bytes_eq k part) (
    subst (λ (b : Bool). cond b (some_shape number) (cond (bytes_eq k part) (some_shape block) no_shape) ≡ some_shape t) (is_eq-slice_cmp k count) (
    subst (λ (b : Bool). cond (is_name k count) (some_shape number) (cond b (some_shape block) no_shape) ≡ some_shape t) (is_eq-slice_cmp k part) e
    )
    )
  where
    by_tests : (a b : Bool) → cond a (some_shape number) (cond b (some_shape block) no_shape) ≡ some_shape t → (a || (b || false)) ≡ true
    by_tests true b h = refl
    by_tests false true h = refl
    by_tests false false h = absurd (no_some t h)

has_required : (k : Name) → is_required k both ≡ true → has_name k (count ∷ part ∷ []) ≡ true
has_required k h = by_tests (bytes_eq k count) (bytes_eq k part) h
  where
    by_tests : (a b : Bool) → (a || false) ≡ true → (a || (b || false)) ≡ true
    by_tests true b h = refl
    by_tests false b h = absurd (lies h)

is_closed : IsClosedObject both
is_closed = record { kind = refl; preserve = refl; nullable = refl; choices = refl; additional = refl }

block_stands : (d : Side) → Stands d 1 block inside
block_stands d = (
  record { kind = refl; preserve = refl; nullable = refl; choices = refl; additional = refl },
  record { properties = λ k t e. absurd (no_some t e); required = λ k h. absurd (lies h) },
  tt,
  tt,
)

stands : (d : Side) → Stands d 0 (shape_on d fit) fit.level
stands spoke = (
  is_closed,
  record { properties = has_property; required = has_required },
  (refl, (record { shape = refl; required = refl }, tt), tt),
  ((block, refl, refl, refl, block_stands spoke), tt),
)
stands hub = (
  is_closed,
  record { properties = has_property; required = has_required },
  (refl, (record { shape = refl; required = refl }, tt), tt),
  ((block, refl, refl, refl, block_stands hub), tt),
)

is_fitted : IsFitted fit
is_fitted = record {
  fits = ((record { regular = tt; absent = absent; answer = answer; there = stays_there; single = λ h. refl; defaults = λ d h. refl; matches = λ t h g. refl }, tt), ((tt, tt), tt));
  no_name_twice = no_name_twice;
  stands = stands;
}

has_room : HasRoom fit
has_room = omega arith

-- ---- its fields are a body, and speak to conversion

three_fits : FitsSigned w64 (pos 3)
three_fits = grind (arith, ints)

are_rising : AreRising (members_of fields)
are_rising = (refl, three_fits, (tt, tt, tt))

is_body : IsBodyOf spoke fit fields
is_body = record {
  valid = refl;
  filled = stays_filled both (object (members_of fields)) refl;
  levels = omega arith;
}

is_known : IsKnown spoke fit.level fields
is_known = body_known spoke fit fields is_fitted are_rising is_body

is_allowed : IsAllowed spoke fit.level (marks_of spoke fit.level held)
is_allowed = body_allowed spoke fit held is_fitted are_rising is_body

is_set : AreSet spoke fit.level (marks_of spoke fit.level held)
is_set = body_set spoke fit held is_fitted are_rising is_body

body_again : IsBodyOf spoke fit fields
body_again = body_back spoke fit held is_fitted has_room is_known is_allowed is_set

-- what comes over is the same object, whole, and a body of the hub
same_over : converted spoke fit.level held ≡ held
same_over = refl

whole_over : IsWholeOnSide hub fit.level held
whole_over = over_whole spoke fit held is_fitted are_rising is_body

set_over : AreSet hub fit.level (marks_of hub fit.level held)
set_over = ((refl, tt), (((tt, tt)), tt))

body_over : IsBodyOf hub fit fields
body_over = over_body spoke fit held is_fitted has_room are_rising is_body set_over

object_over : IsWholeObject hub fit held
object_over = whole_object hub fit held is_fitted has_room whole_over set_over

whole_again : IsWholeOnSide hub fit.level held
whole_again = object_whole hub fit held is_fitted are_rising object_over

settled_over : IsSettledObject hub fit.level held
settled_over = whole_settled hub fit.level held (ready fit is_fitted) whole_over

settled_here : IsWholeOnSide spoke fit.level (settled spoke fit.level held)
settled_here = settled_is_whole spoke fit held is_fitted are_rising is_body

-- the level is what one rule means, of the object inside, and so it has room
same_fit : fit_of 0 both both (rule (within part part no_rules) no_rules) ≡ fit
same_fit = refl

room_again : HasRoom (fit_of 0 both both (rule (within part part no_rules) no_rules))
room_again = room_of 0 both both (rule (within part part no_rules) no_rules) (omega arith)

-- no bodies: one without the required name, one with a list in the place of the object, one with a name that isn't the schema's
not_required : valid both (object (members_of ((part, object no_members) ∷ []))) ≡ false
not_required = refl

not_an_object : valid both (object (members_of ((count, whole (pos 3)) ∷ (part, list no_items) ∷ []))) ≡ false
not_an_object = refl

not_filled : stays both (object (members_of ((count, whole (pos 3)) ∷ (122 ∷ [], null) ∷ []))) ≡ false
not_filled = refl
