-- Which documents are schemas, with no walk and no order in it: every keyword at every node is allowed, no node is nested
-- too deep, and there aren't too many nodes.
use Rattle.std.specs.Prelude.{◌≡◌, ◌≤◌, ℕ, suc, ◌+◌, List, Bool, true, false, ◌&&◌, ◌||◌, cond, Option, Some, None, is_none, nat_lt}
use Rattle.std.specs.Str.{bytes_eq}
use Rattle.kj_value.specs.Json.{Json, null, boolean, whole, text, list, object, Members, no_members, member}
use Rattle.struct_schema.specs.Names.{is_name, value_at}
use Rattle.struct_schema.specs.Shape.{Shape}
use Rattle.struct_schema.specs.declared.kind.NodeKind.{NodeKind}
use Rattle.schema_reading.specs.Words.{word, passed_type}
use Rattle.schema_reading.specs.Kind.{node_kind, type_allowed}
use Rattle.schema_reading.specs.Allowed.{is_allowed, items_allowed, additional_allowed}
use Rattle.schema_reading.specs.ShapeRead.{bare_read}
use Rattle.schema_reading.specs.Visits.{default_allowed, is_meta_type}
use Rattle.schema_reading.specs.declared.words.Keyword.{Keyword}
use Rattle.schema_reading.specs.declared.words.Keyword.TheVariants.{Additional, Default, Items as ItemsWord, Properties, Kind as TypeWord}
use Rattle.schema_reading.specs.declared.words.Scope.TheVariants.{Node, Meta}
use Rattle.schema_reading.specs.declared.walk.TheConstants.{MAX_NESTING, MAX_NODES}

-- a name of a node is one of the three keywords that are tried by themselves, or it's allowed
abbrev pub name_allowed : Option NodeKind → List ℕ → Json → Bool
name_allowed k n j =
    bytes_eq n (word Additional) || (bytes_eq n (word ItemsWord) || (bytes_eq n (word TypeWord) || is_allowed (Node k) n j))

abbrev pub names_allowed : Option NodeKind → Members → Bool
names_allowed k no_members = true
names_allowed k (member n j ms) = name_allowed k n j && names_allowed k ms

-- a default that is there is allowed
abbrev pub no_bad_default : Bool → Shape → Option Json → Bool
no_bad_default root s None = true
no_bad_default root s (Some d) = default_allowed root s d

-- the keywords of one node
abbrev pub node_allowed : Bool → Members → Bool
node_allowed root ms =
    names_allowed (node_kind ms) ms && (additional_allowed (node_kind ms) ms (value_at (word Additional) ms) && (items_allowed (node_kind ms) (value_at (word ItemsWord) ms)
    && (type_allowed root (node_kind ms) && no_bad_default root (bare_read root ms) (value_at (word Default) ms))))

-- one of the three names that the root passes over
abbrev pub meta_names : Members → Bool
meta_names no_members = true
meta_names (member n j ms) = (bytes_eq n (word TypeWord) || is_allowed Meta n j) && meta_names ms

abbrev pub meta_allowed : List ℕ → Json → Bool
meta_allowed w (object ms) = meta_names ms && (is_meta_type w (value_at (word TypeWord) ms) && is_none (value_at (word Default) ms))
meta_allowed w _ = false

abbrev pub property_allowed : Option (List ℕ) → Json → Bool → Bool
property_allowed None j b = b
property_allowed (Some w) j b = meta_allowed w j

abbrev mutual
  -- a node so deep below the root, with the nodes inside it
  pub all_allowed : Bool → ℕ → Json → Bool
  all_allowed root d null = false
  all_allowed root d (boolean b) = false
  all_allowed root d (whole z) = false
  all_allowed root d (text t) = false
  all_allowed root d (list js) = false
  all_allowed root d (object ms) =
      nat_lt d (suc MAX_NESTING) && (node_allowed root ms && (inner_allowed Additional d ms && (inner_allowed ItemsWord d ms && map_allowed root d ms)))

  pub inner_allowed : Keyword → ℕ → Members → Bool
  inner_allowed w d no_members = true
  inner_allowed w d (member k j ms) = cond (is_name (word w) k) (all_allowed false (d + 1) j) (inner_allowed w d ms)

  pub map_allowed : Bool → ℕ → Members → Bool
  map_allowed root d no_members = true
  map_allowed root d (member k j ms) = cond (is_name (word Properties) k) (named_allowed root d j) (map_allowed root d ms)

  pub named_allowed : Bool → ℕ → Json → Bool
  named_allowed root d null = true
  named_allowed root d (boolean b) = true
  named_allowed root d (whole z) = true
  named_allowed root d (text t) = true
  named_allowed root d (list js) = true
  named_allowed root d (object ps) = each_allowed root d ps

  pub each_allowed : Bool → ℕ → Members → Bool
  each_allowed root d no_members = true
  each_allowed root d (member n j ps) = property_allowed (passed_type root n) j (all_allowed false (d + 1) j) && each_allowed root d ps

-- how many nodes there are; what the root passes over is none
abbrev pub property_nodes : Option (List ℕ) → ℕ → ℕ
property_nodes None n = n
property_nodes (Some w) n = 0

abbrev mutual
  pub nodes : Bool → Json → ℕ
  nodes root null = 1
  nodes root (boolean b) = 1
  nodes root (whole z) = 1
  nodes root (text t) = 1
  nodes root (list js) = 1
  nodes root (object ms) = 1 + (inner_nodes Additional ms + (inner_nodes ItemsWord ms + map_nodes root ms))

  pub inner_nodes : Keyword → Members → ℕ
  inner_nodes w no_members = 0
  inner_nodes w (member k j ms) = cond (is_name (word w) k) (nodes false j) (inner_nodes w ms)

  pub map_nodes : Bool → Members → ℕ
  map_nodes root no_members = 0
  map_nodes root (member k j ms) = cond (is_name (word Properties) k) (named_nodes root j) (map_nodes root ms)

  pub named_nodes : Bool → Json → ℕ
  named_nodes root null = 0
  named_nodes root (boolean b) = 0
  named_nodes root (whole z) = 0
  named_nodes root (text t) = 0
  named_nodes root (list js) = 0
  named_nodes root (object ps) = each_nodes root ps

  pub each_nodes : Bool → Members → ℕ
  each_nodes root no_members = 0
  each_nodes root (member n j ps) = property_nodes (passed_type root n) (nodes false j) + each_nodes root ps

abbrev pub IsSchema : Json → Type 0
IsSchema j = (all_allowed true 0 j ≡ true) × (nodes true j ≤ MAX_NODES)
