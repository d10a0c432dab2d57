-- The flags that versions have, and `spec` of a definition with other flags.
use Rattle.std.specs.Prelude.{◌≡◌, ℕ, suc, ◌==◌, false, List, [], ◌∷◌, map, Option, None, Some, slice_index_or, codes, if◌then◌else◌}
use Rattle.std.specs.Str.{bytes_eq}
use Rattle.kj_value.specs.Json.{Json, null, boolean, whole, text, list, object, Items, no_items, item, Members, no_members, member}
use Rattle.struct_schema.specs.Names.{value_at}
use Rattle.api_calls.specs.declared.flags.Flags.{Flags}
use Rattle.crd_reading.specs.View.{VersionView, DefinitionView}
use Rattle.crd_reading.specs.Spelled.{items_in, versions_read}
use Rattle.crd_meaning.specs.Definition.{before_storage, no_version}
use Rattle.crd_settings.specs.declared.parts.Mark.{Mark}

unfoldable pub served_name : List ℕ
served_name = codes "served"

unfoldable pub storage_name : List ℕ
storage_name = codes "storage"

unfoldable pub versions_name : List ℕ
versions_name = codes "versions"

-- the value at a name of the object that stands there
abbrev pub at_name : List ℕ → Option Json → Option Json
at_name n None = None
at_name n (Some null) = None
at_name n (Some (boolean b)) = None
at_name n (Some (whole z)) = None
at_name n (Some (text t)) = None
at_name n (Some (list js)) = None
at_name n (Some (object ms)) = value_at n ms

-- the version at a place
abbrev pub version_in : List VersionView → ℕ → VersionView
version_in vs v = slice_index_or vs v no_version

-- ---- the flags of versions

abbrev pub flags_of : List VersionView → Flags
flags_of vs = record {
  served = map (λ v. (version_in vs v).served) (0 ∷ 1 ∷ 2 ∷ 3 ∷ 4 ∷ 5 ∷ 6 ∷ 7 ∷ []);
  storage = before_storage vs;
}

-- the versions of a `spec`, with the flags that it gives them
abbrev pub versions_given : Option Json → List VersionView
versions_given spec = versions_read (items_in (at_name versions_name spec))

-- ---- the flags of one version, by its place

abbrev pub mark_in : List VersionView → ℕ → Mark
mark_in vs v = record { served = (version_in vs v).served; storage = (version_in vs v).storage }

abbrev pub mark_of : Flags → ℕ → Mark
mark_of f v = record { served = slice_index_or f.served v false; storage = v == f.storage }

-- ---- a `spec` with other flags

-- the value at a name of a version
abbrev pub flag_value : Mark → List ℕ → Json → Json
flag_value m k j = if bytes_eq k served_name then boolean m.served else (if bytes_eq k storage_name then boolean m.storage else j)

-- a version's fields with these values at `served` and `storage`
abbrev pub flagged : Mark → Members → Members
flagged m no_members = no_members
flagged m (member k j ms) = member k (flag_value m k j) (flagged m ms)

abbrev pub version_with : Mark → Json → Json
version_with m null = null
version_with m (boolean b) = boolean b
version_with m (whole z) = whole z
version_with m (text s) = text s
version_with m (list js) = list js
version_with m (object ms) = object (flagged m ms)

-- versions from a place on, each with the flags of its place
abbrev pub versions_with : (ℕ → Mark) → ℕ → Items → Items
versions_with m v no_items = no_items
versions_with m v (item j js) = item (version_with (m v) j) (versions_with m (suc v) js)

abbrev pub list_with : (ℕ → Mark) → Json → Json
list_with m null = null
list_with m (boolean b) = boolean b
list_with m (whole z) = whole z
list_with m (text s) = text s
list_with m (list js) = list (versions_with m 0 js)
list_with m (object ms) = object ms

-- the value at a name of `spec`
abbrev pub spec_value : (ℕ → Mark) → List ℕ → Json → Json
spec_value m k j = if bytes_eq k versions_name then list_with m j else j

abbrev pub spec_fields : (ℕ → Mark) → Members → Members
spec_fields m no_members = no_members
spec_fields m (member k j ms) = member k (spec_value m k j) (spec_fields m ms)

-- `spec` with these values at `served` and `storage` of each of its versions
abbrev pub spec_with : (ℕ → Mark) → Json → Json
spec_with m null = null
spec_with m (boolean b) = boolean b
spec_with m (whole z) = whole z
spec_with m (text s) = text s
spec_with m (list js) = list js
spec_with m (object ms) = object (spec_fields m ms)

-- the definition's `spec`, but for the values of `served` and `storage` of each version
abbrev pub IsOwnSpec : DefinitionView → Option Json → Type 0
IsOwnSpec d given = given ≡ Some (spec_with (mark_in (versions_given given)) d.spec)
