-- For private clauses: whether a value is its own filling, as a test.
use Rattle.std.specs.Prelude.{Bool, true, false, ◌&&◌, ◌||◌, cond, Option, Some, None, is_some, is_none}
use Rattle.kj_value.specs.Json.{Json, null, boolean, whole, text, list, object, Items, no_items, item, Members, no_members, member}
use Rattle.kj_value.specs.Same.{json_same}
use Rattle.struct_schema.specs.Shape.{Shape, own, properties, items_shape, Shapes, no_shapes, shape_at, MaybeShapes, no_map, some_map, MaybeShape, no_shape, some_shape}
use Rattle.struct_schema.specs.Names.{value_at, shape_for, property}
use Rattle.struct_schema.specs.Filled.{is_object, is_array, is_forbidden}

-- whether null is put in the place of a forbidden null: that of an item, and that of a name
abbrev pub item_null : Option Json → Bool
item_null None = true
item_null (Some d) = json_same d null

abbrev pub name_null : Option Json → Bool
name_null None = false
name_null (Some d) = json_same d null

abbrev pub item_stays : MaybeShape → Json → (Shape → Bool) → Bool
item_stays no_shape j p = true
item_stays (some_shape t) j p = cond (is_forbidden (own t) j) (item_null (own t).default_value) (p t)

abbrev pub name_stays : MaybeShape → Bool → Json → (Shape → Bool) → Bool
name_stays no_shape preserve j p = preserve
name_stays (some_shape t) preserve j p = cond (is_forbidden (own t) j) (name_null (own t).default_value) (p t)

abbrev pub lacks_default : MaybeShape → Bool
lacks_default no_shape = true
lacks_default (some_shape t) = is_none (own t).default_value

-- each name that isn't there has no default; the schema at a name is looked up in all of them
abbrev pub no_default : MaybeShapes → Shapes → Members → Bool
no_default ps no_shapes ms = true
no_default ps (shape_at l s ss) ms = (is_some (value_at l ms) || lacks_default (property l ps)) && no_default ps ss ms

abbrev pub defaults_there : MaybeShapes → Members → Bool
defaults_there no_map ms = true
defaults_there (some_map ss) ms = no_default (some_map ss) ss ms

-- the same, where the schema at a name is the one beside it
abbrev pub each_default : Shapes → Members → Bool
each_default no_shapes ms = true
each_default (shape_at l s ss) ms = (is_some (value_at l ms) || is_none (own s).default_value) && each_default ss ms

abbrev mutual
  pub stays : Shape → Json → Bool
  stays s null = true
  stays s (boolean b) = true
  stays s (whole z) = true
  stays s (text t) = true
  stays s (list js) = cond (is_array (own s).kind) (items_stay (items_shape s) js) true
  stays s (object ms) = cond (is_object (own s).kind) (names_stay s ms && defaults_there (properties s) ms) true

  pub items_stay : MaybeShape → Items → Bool
  items_stay m no_items = true
  items_stay m (item j js) = item_stays m j (λ t. stays t j) && items_stay m js

  pub names_stay : Shape → Members → Bool
  names_stay s no_members = true
  names_stay s (member k j ms) = name_stays (shape_for s k) (own s).preserve j (λ t. stays t j) && names_stay s ms
