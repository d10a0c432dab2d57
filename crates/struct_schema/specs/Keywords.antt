-- The keywords of a node that look at a value and not inside it (JSON Schema validation, sections 6.1 to 6.4).
use Rattle.std.specs.Prelude.{ℕ, suc, ℤ, pos, negsuc, List, length, Bool, true, false, ◌&&◌, not, Option, Some, None, is_some, int_lt, chars}
use Rattle.std.specs.List.{list_any, list_all}
use Rattle.kj_value.specs.Json.{Json, null, boolean, whole, text, list, object, Items, no_items, item, Members}
use Rattle.kj_value.specs.Same.{json_same}
use Rattle.struct_schema.specs.Shape.{Own}
use Rattle.struct_schema.specs.Names.{value_at}
use Rattle.struct_schema.specs.declared.kind.NodeKind.{NodeKind}
use Rattle.struct_schema.specs.declared.kind.NodeKind.TheVariants.{Object, Array, Text, Whole, Truth, IntOrText, Any}
use Rattle.struct_schema.specs.declared.kind.IntFormat.{IntFormat}
use Rattle.struct_schema.specs.declared.kind.IntFormat.TheVariants.{Int32, Int64}

-- the value is of the node's kind; null is of none but `Any`, and is told by `nullable` alone
abbrev pub has_kind : NodeKind → Json → Bool
has_kind Object (object ms) = true
has_kind Array (list js) = true
has_kind Text (text s) = true
has_kind Whole (whole z) = true
has_kind Truth (boolean b) = true
has_kind IntOrText (whole z) = true
has_kind IntOrText (text s) = true
has_kind Any _ = true
has_kind _ _ = false

-- `enum`
abbrev pub is_chosen : Option (List Json) → Json → Bool
is_chosen None j = true
is_chosen (Some js) j = list_any (λ c. json_same c j) js

-- `minimum` and its like
abbrev pub at_least : Option ℤ → ℤ → Bool
at_least None z = true
at_least (Some m) z = not (int_lt z m)

-- `maximum` and its like
abbrev pub at_most : Option ℤ → ℤ → Bool
at_most None z = true
at_most (Some m) z = not (int_lt m z)

-- `format`: the whole numbers of 32 bits; every number of a value has 64
abbrev pub is_formed : Option IntFormat → ℤ → Bool
is_formed None z = true
is_formed (Some Int32) z = at_least (Some (negsuc 2147483647)) z && at_most (Some (pos 2147483647)) z
is_formed (Some Int64) z = true

-- how many characters a text has
abbrev pub character_count : List ℕ → ℕ
character_count s = length (chars s)

abbrev pub item_count : Items → ℕ
item_count no_items = 0
item_count (item j js) = suc (item_count js)

-- `required`: each name is there
abbrev pub has_names : List (List ℕ) → Members → Bool
has_names ns ms = list_all (λ n. is_some (value_at n ms)) ns

-- the keywords beside `type` and `enum`, by the kind of the value
abbrev pub is_within : Own → Json → Bool
is_within o null = true
is_within o (boolean b) = true
is_within o (whole z) = at_least o.minimum z && at_most o.maximum z && is_formed o.format z
is_within o (text s) =
    at_least o.min_length (pos (character_count s)) && at_most o.max_length (pos (character_count s))
is_within o (list js) =
    at_least o.min_items (pos (item_count js)) && at_most o.max_items (pos (item_count js))
is_within o (object ms) = has_names o.required ms

abbrev pub keeps : Own → Json → Bool
keeps o j = has_kind o.kind j && is_chosen o.choices j && is_within o j
