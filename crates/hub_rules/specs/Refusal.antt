-- The first refusal of rules for two schemas: a level whole before the levels inside it, at a level one kind of refusal
-- after the other, each over the rules in their order and then over the names that no rule names.
use Rattle.std.specs.Prelude.{ℕ, ℤ, pos, negsuc, ◌*ℤ◌, List, [], ◌∷◌, Bool, true, false, ◌&&◌, ◌||◌, not, cond, Option, Some, None, is_none, option_map, int_lt, filter, fold}
use Rattle.std.specs.Bool.{beq}
use Rattle.kj_value.specs.Json.{Json, null, boolean, whole, text, list, object}
use Rattle.kj_value.specs.Same.{json_same}
use Rattle.struct_schema.specs.Shape.{Own, Shape, shape, own, properties, additional, plain, Shapes, no_shapes, shape_at, MaybeShapes, no_map, some_map, MaybeShape, no_shape, some_shape}
use Rattle.struct_schema.specs.ShapeSame.{shape_same}
use Rattle.struct_schema.specs.Below.{below}
use Rattle.struct_schema.specs.Names.{property}
use Rattle.struct_schema.specs.Filled.{is_object}
use Rattle.struct_schema.specs.Valid.{valid}
use Rattle.struct_schema.specs.Fault.{or_else, unless, lesser}
use Rattle.struct_schema.specs.declared.kind.NodeKind.{NodeKind}
use Rattle.struct_schema.specs.declared.kind.NodeKind.TheVariants.{Object, Array, Text, Whole, Truth, IntOrText, Any}
use Rattle.struct_schema.specs.declared.kind.IntFormat.{IntFormat}
use Rattle.struct_schema.specs.declared.kind.IntFormat.TheVariants.{Int32, Int64}
use Rattle.hub_cells.specs.Side.{Side, spoke, hub, other}
use Rattle.hub_cells.specs.Cell as cells
use Rattle.hub_cells.specs.Cross.{quotient, partner}
use Rattle.hub_cells.specs.Level.{Name, named}
use Rattle.hub_cells.specs.Fit.{has_name, is_required}
use Rattle.hub_rules.specs.Rule.{Rule, same, within, spoke_only, hub_only, split, table, scale, Rules, no_rules, rule, spoke_names, hub_names, names_on}

pub data Why : Type 0 where
  name_twice : Why
  name_missing : Why
  schema_differs : Why
  unpaired_default : Why
  required_lost : Why
  range_lost : Why

-- a name of a level that is refused
pub record Spot : Type 0 where
  pub side : Side
  pub name : Name
  pub why : Why

abbrev pub at_name : Side → Name → Why → Spot
at_name d k w = record { side = d; name = k; why = w }

abbrev pub spot_at : Side → Why → Option Name → Option Spot
spot_at d w None = None
spot_at d w (Some k) = Some (at_name d k w)

-- ---- what a schema has at a name

abbrev pub node : Name → Shape → MaybeShape
node k s = property k (properties s)

abbrev pub is_there : MaybeShape → Bool
is_there no_shape = false
is_there (some_shape s) = true

-- the schema of a name; a name that isn't there takes any value
abbrev pub or_any : MaybeShape → Shape
or_any no_shape = shape (plain Any) no_map no_shape no_shape
or_any (some_shape s) = s

abbrev pub node_at : Name → Shape → Shape
node_at k s = or_any (node k s)

abbrev pub default_at : Name → Shape → Option Json
default_at k s = (own (node_at k s)).default_value

-- no rule names it, and the schema has it
abbrev pub is_free : Side → Shape → Rules → Name → Bool
is_free d s rs k = is_there (node k s) && not (has_name k (names_on d rs))

-- ---- NameTwice: a name stands again in a later rule of the level on its side, or in its own

abbrev pub again : List Name → List Name → Option Name
again [] later = None
again (n ∷ ns) later = cond (has_name n ns || has_name n later) (Some n) (again ns later)

abbrev pub twice_in : Rule → Rules → Option Spot
twice_in r later =
    or_else (spot_at spoke name_twice (again (spoke_names r) (names_on spoke later))) (spot_at hub name_twice (again (hub_names r) (names_on hub later)))

abbrev pub twice : Rules → Option Spot
twice no_rules = None
twice (rule r rs) = or_else (twice_in r rs) (twice rs)

-- ---- NameMissing: a rule names what its schema doesn't have, or a free name has no equal free name on the other side

abbrev pub absent : Shape → List Name → Option Name
absent s [] = None
absent s (n ∷ ns) = cond (is_there (node n s)) (absent s ns) (Some n)

abbrev pub absent_in : Shape → Shape → Rule → Option Spot
absent_in s h r =
    or_else (spot_at spoke name_missing (absent s (spoke_names r))) (spot_at hub name_missing (absent h (hub_names r)))

abbrev pub absent_from : Shape → Shape → Rules → Option Spot
absent_from s h no_rules = None
absent_from s h (rule r rs) = or_else (absent_in s h r) (absent_from s h rs)

-- the first name with its schema that doesn't pass
abbrev pub first_failing : (Name → Shape → Bool) → Shapes → Option Name
first_failing P no_shapes = None
first_failing P (shape_at k t ss) = cond (P k t) (first_failing P ss) (Some k)

abbrev pub failing_in : (Name → Shape → Bool) → MaybeShapes → Option Name
failing_in P no_map = None
failing_in P (some_map ss) = first_failing P ss

-- over the names of s that no rule names
abbrev pub unpaired : Side → Shape → Shape → Rules → Option Name
unpaired d s o rs =
    failing_in (λ k t. has_name k (names_on d rs) || is_free (other d) o rs k) (properties s)

abbrev pub missing : Shape → Shape → Rules → Option Spot
missing s h rs =
    or_else (absent_from s h rs) (or_else (spot_at spoke name_missing (unpaired spoke s h rs)) (spot_at hub name_missing (unpaired hub h s rs)))

-- ---- tests of one rule

-- an object whose names are those of `properties` and no others
abbrev pub has_properties : MaybeShapes → Bool
has_properties no_map = false
has_properties (some_map ss) = true

abbrev pub is_closed : Shape → Bool
is_closed s =
    is_object (own s).kind && has_properties (properties s) && not (is_there (additional s)) && not (own s).preserve && not (own s).nullable && is_none (own s).choices

abbrev pub is_text : NodeKind → Bool
is_text Text = true
is_text Object = false
is_text Array = false
is_text Whole = false
is_text Truth = false
is_text IntOrText = false
is_text Any = false

abbrev pub is_whole : NodeKind → Bool
is_whole Whole = true
is_whole Object = false
is_whole Array = false
is_whole Text = false
is_whole Truth = false
is_whole IntOrText = false
is_whole Any = false

abbrev pub is_text_node : Shape → Bool
is_text_node s = is_text (own s).kind && not (own s).nullable

abbrev pub is_whole_node : Shape → Bool
is_whole_node s = is_whole (own s).kind && not (own s).nullable

-- both sides require the name, or neither does
abbrev pub alike_required : Name → Name → Shape → Shape → Bool
alike_required a b s h = beq (is_required a s) (is_required b h)

-- two schemas are one but for their roots' defaults
abbrev pub alike_below : Shape → Shape → Bool
alike_below s t = shape_same (below s) (below t)

abbrev pub schema_passes : Shape → Shape → Rule → Bool
schema_passes s h (same a b) = alike_below (node_at a s) (node_at b h) && alike_required a b s h
schema_passes s h (within a b rs) = is_closed (node_at a s) && is_closed (node_at b h) && alike_required a b s h
schema_passes s h (spoke_only a) = true
schema_passes s h (hub_only b) = true
schema_passes s h (split a b c) = is_text_node (node_at a s) && is_text_node (node_at b h) && is_text_node (node_at c h)
schema_passes s h (table a b ps x y) = not (own (node_at a s)).nullable && not (own (node_at b h)).nullable
schema_passes s h (scale a b k) = is_whole_node (node_at a s) && is_whole_node (node_at b h)

abbrev pub lacks_default : Name → Shape → Bool
lacks_default k s = is_none (default_at k s)

-- no default on either side, or two that match
abbrev pub defaults_pair : (Json → Json → Bool) → Option Json → Option Json → Bool
defaults_pair R None None = true
defaults_pair R None (Some j) = false
defaults_pair R (Some i) None = false
defaults_pair R (Some i) (Some j) = R i j

abbrev pub is_value : Option Json → Json → Bool
is_value None j = false
is_value (Some i) j = json_same i j

abbrev pub is_pair : List (Json × Json) → Json → Json → Bool
is_pair ps i j = is_value (partner spoke i ps) j

abbrev pub is_null : Json → Bool
is_null null = true
is_null (boolean b) = false
is_null (whole z) = false
is_null (text t) = false
is_null (list js) = false
is_null (object ms) = false

abbrev pub default_passes : Shape → Shape → Rule → Bool
default_passes s h (same a b) = true
default_passes s h (within a b rs) = lacks_default a s && lacks_default b h
default_passes s h (spoke_only a) = lacks_default a s
default_passes s h (hub_only b) = lacks_default b h
default_passes s h (split a b c) = lacks_default a s && lacks_default b h && lacks_default c h
default_passes s h (table a b ps x y) =
    defaults_pair (is_pair ps) (default_at a s) (default_at b h) && (lacks_default a s || (not (is_null x) && not (is_null y)))
default_passes s h (scale a b k) = true

abbrev pub required_passes : Shape → Shape → Rule → Bool
required_passes s h (same a b) = true
required_passes s h (within a b rs) = true
required_passes s h (spoke_only a) = not (is_required a s)
required_passes s h (hub_only b) = not (is_required b h)
required_passes s h (split a b c) = not (is_required a s) && not (is_required b h) && not (is_required c h)
required_passes s h (table a b ps x y) =
    alike_required a b s h && (not (is_required a s) || not (is_null x)) && (not (is_required b h) || not (is_null y))
required_passes s h (scale a b k) = alike_required a b s h

-- ---- ranges

abbrev pub plain_text : Shape
plain_text = shape (plain Text) no_map no_shape no_shape

abbrev pub all_valid : Shape → Shape → List (Json × Json) → Bool
all_valid s h [] = true
all_valid s h (p ∷ ps) = valid s p.0 && valid h p.1 && all_valid s h ps

-- a blank that is null means absent
abbrev pub valid_blank : Shape → Json → Bool
valid_blank s j = is_null j || valid s j

abbrev pub once : Side → List (Json × Json) → Bool
once d [] = true
once d (p ∷ ps) = is_none (partner d (cells.value_on d p) ps) && once d ps

abbrev pub greater : ℤ → ℤ → ℤ
greater x y = cond (int_lt x y) y x

abbrev pub lesser_of : ℤ → ℤ → ℤ
lesser_of x y = cond (int_lt x y) x y

abbrev pub or_bound : ℤ → Option ℤ → ℤ
or_bound z None = z
or_bound z (Some m) = m

abbrev pub format_least : Option IntFormat → ℤ
format_least None = negsuc 9223372036854775807
format_least (Some Int32) = negsuc 2147483647
format_least (Some Int64) = negsuc 9223372036854775807

abbrev pub format_greatest : Option IntFormat → ℤ
format_greatest None = pos 9223372036854775807
format_greatest (Some Int32) = pos 2147483647
format_greatest (Some Int64) = pos 9223372036854775807

-- a node's bounds: the tightest of its keywords, its format and 64 bits
abbrev pub least : Own → ℤ
least o = greater (or_bound (negsuc 9223372036854775807) o.minimum) (format_least o.format)

abbrev pub greatest : Own → ℤ
greatest o = lesser_of (or_bound (pos 9223372036854775807) o.maximum) (format_greatest o.format)

abbrev pub is_between : Own → ℤ → Bool
is_between o z = not (int_lt z (least o)) && not (int_lt (greatest o) z)

-- the products of the spoke's bounds are within the hub's
abbrev pub products_fit : ℕ → Own → Own → Bool
products_fit k o p = is_between p (pos k *ℤ least o) && is_between p (pos k *ℤ greatest o)

-- the quotients of the hub's bounds, rounded down, are within the spoke's
abbrev pub quotients_fit : ℕ → Own → Own → Bool
quotients_fit k o p = is_between o (quotient k (least p)) && is_between o (quotient k (greatest p))

abbrev pub scale_fits : ℕ → Own → Own → Bool
scale_fits k o p = products_fit k o p && quotients_fit k o p

abbrev pub range_passes : Shape → Shape → Rule → Bool
range_passes s h (same a b) = true
range_passes s h (within a b rs) = true
range_passes s h (spoke_only a) = true
range_passes s h (hub_only b) = true
range_passes s h (split a b c) =
    shape_same (node_at a s) plain_text && shape_same (node_at b h) plain_text && shape_same (node_at c h) plain_text
range_passes s h (table a b ps x y) =
    all_valid (node_at a s) (node_at b h) ps && valid_blank (node_at a s) x && valid_blank (node_at b h) y && once spoke ps && once hub ps
range_passes s h (scale a b k) =
    is_none (own (node_at a s)).choices && is_none (own (node_at b h)).choices && scale_fits k (own (node_at a s)) (own (node_at b h))

-- ---- the refusals that look at a rule whole

abbrev pub rule_passes : Why → Shape → Shape → Rule → Bool
rule_passes name_twice s h r = true
rule_passes name_missing s h r = true
rule_passes schema_differs s h r = schema_passes s h r
rule_passes unpaired_default s h r = default_passes s h r
rule_passes required_lost s h r = required_passes s h r
rule_passes range_lost s h r = range_passes s h r

-- told at the rule's spoke name, or else at its hub name
abbrev pub head_spot : Why → Rule → Spot
head_spot w (same a b) = at_name spoke a w
head_spot w (within a b rs) = at_name spoke a w
head_spot w (spoke_only a) = at_name spoke a w
head_spot w (hub_only b) = at_name hub b w
head_spot w (split a b c) = at_name spoke a w
head_spot w (table a b ps x y) = at_name spoke a w
head_spot w (scale a b k) = at_name spoke a w

abbrev pub refused : Why → Shape → Shape → Rules → Option Spot
refused w s h no_rules = None
refused w s h (rule r rs) = unless (rule_passes w s h r) (head_spot w r) (refused w s h rs)

-- ---- a level whole

-- a free name whose schemas differ in more than their defaults, or that one side alone requires
abbrev pub differing : Shape → Shape → Rules → Option Name
differing s h rs =
    failing_in (λ k t. has_name k (names_on spoke rs) || (alike_below t (node_at k h) && alike_required k k s h)) (properties s)

-- the first required name by bytes that `properties` doesn't have
abbrev pub lost : Shape → Option Name
lost s = fold lesser None (filter (λ k. not (is_there (node k s))) (own s).required)

abbrev pub schema_spot : Shape → Shape → Rules → Option Spot
schema_spot s h rs = or_else (refused schema_differs s h rs) (spot_at spoke schema_differs (differing s h rs))

abbrev pub required_spot : Shape → Shape → Rules → Option Spot
required_spot s h rs =
    or_else (refused required_lost s h rs) (or_else (spot_at spoke required_lost (lost s)) (spot_at hub required_lost (lost h)))

abbrev pub level_spot : Shape → Shape → Rules → Option Spot
level_spot s h rs =
    or_else (twice rs) (or_else (missing s h rs) (or_else (schema_spot s h rs) (or_else (refused unpaired_default s h rs) (or_else (required_spot s h rs) (refused range_lost s h rs)))))

-- ---- all levels

-- the path of a name goes through its side's names of the objects around it
pub record Fault : Type 0 where
  pub side : Side
  pub path : List Name
  pub why : Why

abbrev pub told : Spot → Fault
told p = record { side = p.side; path = p.name ∷ []; why = p.why }

abbrev pub level_fault : Shape → Shape → Rules → Option Fault
level_fault s h rs = option_map told (level_spot s h rs)

abbrev pub under : Name → Name → Option Fault → Option Fault
under a b None = None
under a b (Some f) = Some (record { side = f.side; path = named f.side a b ∷ f.path; why = f.why })

abbrev mutual
  pub within_fault : Shape → Shape → Rule → Option Fault
  within_fault s h (same a b) = None
  within_fault s h (within a b ts) =
      under a b (or_else (level_fault (node_at a s) (node_at b h) ts) (inner_fault (node_at a s) (node_at b h) ts))
  within_fault s h (spoke_only a) = None
  within_fault s h (hub_only b) = None
  within_fault s h (split a b c) = None
  within_fault s h (table a b ps x y) = None
  within_fault s h (scale a b k) = None

  pub inner_fault : Shape → Shape → Rules → Option Fault
  inner_fault s h no_rules = None
  inner_fault s h (rule r rs) = or_else (within_fault s h r) (inner_fault s h rs)

abbrev pub fault : Shape → Shape → Rules → Option Fault
fault s h rs = or_else (level_fault s h rs) (inner_fault s h rs)

-- the two roots are held to what `within` asks of its two objects, at the empty path
abbrev pub at_root : Why → Fault
at_root w = record { side = spoke; path = []; why = w }

abbrev pub root_fault : Shape → Shape → Option Fault
root_fault s h =
    unless (is_closed s && is_closed h) (at_root schema_differs) (unless (is_none (own s).default_value && is_none (own h).default_value) (at_root unpaired_default) None)

abbrev pub fit_fault : Shape → Shape → Rules → Option Fault
fit_fault s h rs = or_else (root_fault s h) (fault s h rs)
