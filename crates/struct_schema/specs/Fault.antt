-- The first fault of one walk over a value: the rules of a node in the order of the table of keywords, then what the value
-- holds, names rising and items in order.
use Rattle.std.specs.Prelude.{ℕ, ◌+◌, pos, List, [], ◌∷◌, Bool, not, cond, Option, Some, None, is_some, fold, filter, option_map}
use Rattle.std.specs.Ordering.{nat_cmp, is_lt}
use Rattle.std.specs.Cmp.Lexicographic.{slice_cmp}
use Rattle.kj_value.specs.Json.{Json, null, boolean, whole, text, list, object, Items, no_items, item, Members, no_members, member}
use Rattle.kj_value.specs.declared.rule.Rule.{Rule}
use Rattle.kj_value.specs.declared.rule.Rule.TheVariants.{Kind, Enum, Minimum, Maximum, Format, MinLength, MaxLength, MinItems, MaxItems, Required}
use Rattle.struct_schema.specs.Shape.{Own, Shape, own, items_shape, MaybeShape, no_shape, some_shape}
use Rattle.struct_schema.specs.Names.{value_at, shape_for}
use Rattle.struct_schema.specs.Keywords.{has_kind, is_chosen, at_least, at_most, is_formed, character_count, item_count}
use Rattle.struct_schema.specs.Path.{Step, named, at}

pub record Fault : Type 0 where
  pub path : List Step
  pub rule : Rule

abbrev pub here : Rule → Fault
here r = record { path = []; rule = r }

-- one step further in
abbrev pub under : Step → Option Fault → Option Fault
under p None = None
under p (Some f) = Some (record { path = p ∷ f.path; rule = f.rule })

abbrev pub or_else : {A : Type 0} → Option A → Option A → Option A
or_else None o = o
or_else (Some x) o = Some x

-- a rule that isn't kept, or else what comes after it
abbrev pub unless : {A : Type 0} → Bool → A → Option A → Option A
unless b x o = cond b o (Some x)

-- the limits of a value that isn't kept first
abbrev pub broken_limit : Own → Json → Option Rule
broken_limit o null = None
broken_limit o (boolean b) = None
broken_limit o (whole z) =
    unless (at_least o.minimum z) Minimum (unless (at_most o.maximum z) Maximum (unless (is_formed o.format z) Format None))
broken_limit o (text s) =
    unless (at_least o.min_length (pos (character_count s))) MinLength (unless (at_most o.max_length (pos (character_count s))) MaxLength None)
broken_limit o (list js) =
    unless (at_least o.min_items (pos (item_count js))) MinItems (unless (at_most o.max_items (pos (item_count js))) MaxItems None)
broken_limit o (object ms) = None

abbrev pub broken_rule : Own → Json → Option Rule
broken_rule o j =
    unless (has_kind o.kind j) Kind (unless (is_chosen o.choices j) Enum (broken_limit o j))

-- the least of some names, by bytes
abbrev pub lesser : Option (List ℕ) → List ℕ → Option (List ℕ)
lesser None n = Some n
lesser (Some m) n = cond (is_lt (slice_cmp nat_cmp n m)) (Some n) (Some m)

abbrev pub missing : Members → List ℕ → Bool
missing ms n = not (is_some (value_at n ms))

-- the first name by bytes that is required and missing
abbrev pub first_missing : List (List ℕ) → Members → Option (List ℕ)
first_missing ns ms = fold lesser None (filter (missing ms) ns)

-- a missing name is told at its own place
abbrev pub missing_fault : Option (List ℕ) → Option Fault
missing_fault None = None
missing_fault (Some n) = Some (record { path = named n ∷ []; rule = Required })

abbrev pub own_fault : Own → Json → Option Fault
own_fault o j = option_map here (broken_rule o j)

-- the fault in the schema that is there
abbrev pub fault_in : MaybeShape → (Shape → Option Fault) → Option Fault
fault_in no_shape f = None
fault_in (some_shape t) f = f t

abbrev mutual
  pub fault : Shape → Json → Option Fault
  fault s null = unless (own s).nullable (here Kind) None
  fault s (boolean b) = own_fault (own s) (boolean b)
  fault s (whole z) = own_fault (own s) (whole z)
  fault s (text t) = own_fault (own s) (text t)
  fault s (list js) = or_else (own_fault (own s) (list js)) (items_fault (items_shape s) 0 js)
  fault s (object ms) =
      or_else (own_fault (own s) (object ms)) (or_else (missing_fault (first_missing (own s).required ms)) (members_fault s ms))

  -- the items from a place on
  pub items_fault : MaybeShape → ℕ → Items → Option Fault
  items_fault m i no_items = None
  items_fault m i (item j js) = or_else (under (at i) (fault_in m (λ t. fault t j))) (items_fault m (i + 1) js)

  pub members_fault : Shape → Members → Option Fault
  members_fault s no_members = None
  members_fault s (member k j ms) = or_else (under (named k) (fault_in (shape_for s k) (λ t. fault t j))) (members_fault s ms)
