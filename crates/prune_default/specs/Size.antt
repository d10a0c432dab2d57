-- How large a value is: a lower bound of the bytes of its compact text (RFC 8259), which counts each value, each text as it
-- stands and what must stand around them, and no escapes and no further digits. And how much filling may make.
use Rattle.std.specs.Prelude.{ℕ, ◌+◌, List, length, Option, None, Some}
use Rattle.kj_value.specs.Json.{Json, null, boolean, whole, text, list, object, Items, no_items, item, Members, no_members, member}

abbrev mutual
  pub size : Json → ℕ
  size null = 1
  size (boolean b) = 1
  size (whole z) = 1
  size (text s) = 2 + length s
  size (list js) = 1 + items_size js
  size (object ms) = 1 + members_size ms

  pub items_size : Items → ℕ
  items_size no_items = 0
  items_size (item j js) = (1 + size j) + items_size js

  pub members_size : Members → ℕ
  members_size no_members = 0
  members_size (member k j ms) = (length k + 4 + size j) + members_size ms

abbrev pub maybe_size : Option Json → ℕ
maybe_size None = 0
maybe_size (Some j) = size j

-- by how much at most a value grows
abbrev pub most_made : ℕ
most_made = 1048576
