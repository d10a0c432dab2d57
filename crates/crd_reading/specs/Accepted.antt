-- Which documents are definitions, with no walk and no order in it: each object has the names that it must have and no
-- unknown ones, each value may stand at its place, the versions go together, and their schemas are schemas.
use Rattle.std.specs.Prelude.{◌≡◌, List, [], ◌∷◌, Bool, true, ◌&&◌, ◌||◌, not, cond, is_some}
use Rattle.kj_value.specs.Json.{Json, null, boolean, whole, text, list, object, Items, no_items, item, Members, no_members, member}
use Rattle.struct_schema.specs.Names.{value_at}
use Rattle.schema_reading.specs.Accepted.{IsSchema}
use Rattle.crd_reading.specs.Words.{spelled}
use Rattle.crd_reading.specs.Table.{rows, has_names, has_items, place_in}
use Rattle.crd_reading.specs.Allowed.{is_allowed}
use Rattle.crd_reading.specs.Offered.{names_differ, storages, some_served}
use Rattle.crd_reading.specs.View.{VersionView}
use Rattle.crd_reading.specs.Spelled.{schema_in, version_items, definition_read, own_name, full_name}
use Rattle.crd_reading.specs.declared.places.Place.{Place}
use Rattle.crd_reading.specs.declared.places.Place.TheVariants.{Document, VersionObject}
use Rattle.crd_reading.specs.declared.places.Row.{Row}

-- every name that must be there is there
abbrev pub has_rows : List Row → Members → Bool
has_rows [] ms = true
has_rows (r ∷ rs) ms = (not r.required || is_some (value_at (spelled r.named) ms)) && has_rows rs ms

abbrev mutual
  pub stands : Place → Json → Bool
  stands p null = is_allowed p null
  stands p (boolean b) = is_allowed p (boolean b)
  stands p (whole z) = is_allowed p (whole z)
  stands p (text t) = is_allowed p (text t)
  stands p (list js) = is_allowed p (list js) && cond (has_items p) (all_stand js) true
  stands p (object ms) = is_allowed p (object ms) && cond (has_names p) (has_rows (rows p) ms && each_stands p ms) true

  pub all_stand : Items → Bool
  all_stand no_items = true
  all_stand (item j js) = stands VersionObject j && all_stand js

  pub each_stands : Place → Members → Bool
  each_stands p no_members = true
  each_stands p (member k j ms) = stands (place_in p k) j && each_stands p ms

abbrev pub HaveSchemas : Items → Type 0
HaveSchemas no_items = Unit {0}
HaveSchemas (item j js) = IsSchema (schema_in j) × HaveSchemas js

-- versions that a definition may have together
pub record AreOffered (vs : List VersionView) : Type 0 where
  pub differ : names_differ vs ≡ true
  pub one_storage : storages vs ≡ 1
  pub some_served : some_served vs ≡ true

pub record IsDefinition (j : Json) : Type 0 where
  pub stands : stands Document j ≡ true
  pub named : own_name j ≡ full_name (definition_read j)
  pub offered : AreOffered (definition_read j).versions
  pub schemas : HaveSchemas (version_items j)
