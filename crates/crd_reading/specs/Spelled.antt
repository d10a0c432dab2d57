-- The definition that a document spells. What isn't there, or isn't allowed, says nothing.
use Rattle.std.specs.Prelude.{ℕ, List, [], ◌∷◌, ◌++◌, true, Option, None, Some, codes}
use Rattle.kj_value.specs.Json.{Json, null, boolean, whole, text, list, object, Items, no_items, item}
use Rattle.struct_schema.specs.Names.{value_at}
use Rattle.schema_reading.specs.Kind.{is_yes}
use Rattle.schema_reading.specs.ShapeRead.{shape_read}
use Rattle.crd_reading.specs.Words.{spelled}
use Rattle.crd_reading.specs.View.{VersionView, DefinitionView}
use Rattle.crd_reading.specs.declared.words.Word.{Word}
use Rattle.crd_reading.specs.declared.words.Word.TheVariants.{Group, Kind, ListKind, Metadata, Name, Names, OpenApi, Plural, Schema, Served, Spec, Storage, Versions}

-- ---- parts of a document

-- the value at a name of the object that stands there
abbrev pub inside : Word → Option Json → Option Json
inside w None = None
inside w (Some null) = None
inside w (Some (boolean b)) = None
inside w (Some (whole z)) = None
inside w (Some (text t)) = None
inside w (Some (list js)) = None
inside w (Some (object ms)) = value_at (spelled w) ms

abbrev pub text_in : Option Json → List ℕ
text_in None = []
text_in (Some null) = []
text_in (Some (boolean b)) = []
text_in (Some (whole z)) = []
text_in (Some (text t)) = t
text_in (Some (list js)) = []
text_in (Some (object ms)) = []

abbrev pub items_in : Option Json → Items
items_in None = no_items
items_in (Some null) = no_items
items_in (Some (boolean b)) = no_items
items_in (Some (whole z)) = no_items
items_in (Some (text t)) = no_items
items_in (Some (list js)) = js
items_in (Some (object ms)) = no_items

abbrev pub or_null : Option Json → Json
or_null None = null
or_null (Some j) = j

-- ---- versions

abbrev pub schema_in : Json → Json
schema_in j = or_null (inside OpenApi (inside Schema (Some j)))

abbrev pub version_read : Json → VersionView
version_read j = record {
  name = text_in (inside Name (Some j));
  served = is_yes (inside Served (Some j));
  storage = is_yes (inside Storage (Some j));
  schema = shape_read true (schema_in j);
}

abbrev pub versions_read : Items → List VersionView
versions_read no_items = []
versions_read (item j js) = version_read j ∷ versions_read js

-- ---- the definition

abbrev pub spec_in : Json → Option Json
spec_in j = inside Spec (Some j)

abbrev pub names_in : Json → Option Json
names_in j = inside Names (spec_in j)

abbrev pub version_items : Json → Items
version_items j = items_in (inside Versions (spec_in j))

-- the kind and `List`, where no other name is given for lists
abbrev pub list_kind_read : Option Json → List ℕ → List ℕ
list_kind_read None k = k ++ codes "List"
list_kind_read (Some j) k = text_in (Some j)

abbrev pub kind_in : Json → List ℕ
kind_in j = text_in (inside Kind (names_in j))

abbrev pub definition_read : Json → DefinitionView
definition_read j = record {
  group = text_in (inside Group (spec_in j));
  plural = text_in (inside Plural (names_in j));
  kind = kind_in j;
  list_kind = list_kind_read (inside ListKind (names_in j)) (kind_in j);
  versions = versions_read (version_items j);
  spec = or_null (spec_in j);
}

-- the name of the definition itself
abbrev pub own_name : Json → List ℕ
own_name j = text_in (inside Name (inside Metadata (Some j)))

-- what that name has to be: the plural, a point and the group
abbrev pub full_name : DefinitionView → List ℕ
full_name d = d.plural ++ codes "." ++ d.group
