-- Which values a schema allows (Kubernetes, "Structural schemas" and "Validation"). There are no paths and no order in it.
use Rattle.std.specs.Prelude.{Bool, true, ◌&&◌}
use Rattle.kj_value.specs.Json.{Json, null, boolean, whole, text, list, object, Items, no_items, item, Members, no_members, member}
use Rattle.struct_schema.specs.Shape.{Shape, own, items_shape}
use Rattle.struct_schema.specs.Names.{shape_for, passes}
use Rattle.struct_schema.specs.Keywords.{keeps}

-- null where it is allowed; any other value keeps the node's keywords, and what it holds is valid in the schema for it;
-- names without a schema aren't looked at
abbrev mutual
  pub valid : Shape → Json → Bool
  valid s null = (own s).nullable
  valid s (boolean b) = keeps (own s) (boolean b)
  valid s (whole z) = keeps (own s) (whole z)
  valid s (text t) = keeps (own s) (text t)
  valid s (list js) = keeps (own s) (list js) && items_valid s js
  valid s (object ms) = keeps (own s) (object ms) && members_valid s ms

  pub items_valid : Shape → Items → Bool
  items_valid s no_items = true
  items_valid s (item j js) = passes (items_shape s) (λ t. valid t j) && items_valid s js

  pub members_valid : Shape → Members → Bool
  members_valid s no_members = true
  members_valid s (member k j ms) = passes (shape_for s k) (λ t. valid t j) && members_valid s ms
