-- What a walk over a schema document tries, in its order: the node, its keywords by name with the schema under `items` or
-- `additionalProperties` at that keyword's place, the properties by name, and the default.
use Rattle.std.specs.Prelude.{ℕ, suc, ◌+◌, List, [], ◌∷◌, ◌++◌, Bool, true, false, ◌&&◌, not, cond, Option, Some, None, is_none, nat_lt}
use Rattle.std.specs.Ordering.{nat_cmp, is_lt}
use Rattle.std.specs.Cmp.Lexicographic.{slice_cmp}
use Rattle.kj_value.specs.Json.{Json, null, boolean, whole, text, list, object, Members, no_members, member, depth}
use Rattle.struct_schema.specs.Shape.{Shape}
use Rattle.struct_schema.specs.Names.{is_name, value_at}
use Rattle.struct_schema.specs.Path.{named}
use Rattle.struct_schema.specs.Valid.{valid}
use Rattle.struct_schema.specs.Stays.{stays}
use Rattle.std.specs.Str.{bytes_eq}
use Rattle.struct_schema.specs.declared.kind.NodeKind.{NodeKind}
use Rattle.schema_reading.specs.Words.{word, passed_type}
use Rattle.schema_reading.specs.Kind.{node_kind, type_allowed}
use Rattle.schema_reading.specs.Allowed.{is_allowed, items_allowed, additional_allowed}
use Rattle.schema_reading.specs.ShapeRead.{bare_read}
use Rattle.schema_reading.specs.Visit.{entered, keyword, Visit, Refusal, here, within, first}
use Rattle.schema_reading.specs.declared.words.Keyword.{Keyword}
use Rattle.schema_reading.specs.declared.words.Keyword.TheVariants.{Additional, Default, Items as ItemsWord, Properties, Kind as TypeWord}
use Rattle.schema_reading.specs.declared.words.Scope.{Scope}
use Rattle.schema_reading.specs.declared.words.Scope.TheVariants.{Node, Meta}
use Rattle.schema_reading.specs.declared.words.Part.{Part}
use Rattle.schema_reading.specs.declared.words.Part.TheVariants.{BeforeAdditional, BeforeItems, BeforeType, AfterType, AnyBeforeType}
use Rattle.schema_reading.specs.declared.walk.TheConstants.{MAX_DEFAULT_DEPTH}

abbrev pub is_below : List ℕ → List ℕ → Bool
is_below k l = is_lt (slice_cmp nat_cmp k l)

-- the names in front of, between and behind the three keywords that have a place of their own
abbrev pub in_part : Part → List ℕ → Bool
in_part BeforeAdditional k = is_below k (word Additional)
in_part BeforeItems k = is_below (word Additional) k && is_below k (word ItemsWord)
in_part BeforeType k = is_below (word ItemsWord) k && is_below k (word TypeWord)
in_part AfterType k = is_below (word TypeWord) k
in_part AnyBeforeType k = is_below k (word TypeWord)

abbrev pub tries : Keyword → Bool → List Visit
tries w b = here (keyword (word w) b) ∷ []

-- the keywords of one part, by name
abbrev pub part_visits : Part → Scope → Members → List Visit
part_visits p s no_members = []
part_visits p s (member k j ms) = cond (in_part p k) (here (keyword k (is_allowed s k j)) ∷ part_visits p s ms) (part_visits p s ms)

-- for private clauses: the first of them that isn't allowed
abbrev pub unallowed : Part → Scope → Members → Option (List ℕ)
unallowed p s no_members = None
unallowed p s (member k j ms) = cond (in_part p k) (cond (is_allowed s k j) (unallowed p s ms) (Some k)) (unallowed p s ms)

-- a default is valid, equal to its own filling and not too deep, in the node's schema without it; the root has none
abbrev pub default_allowed : Bool → Shape → Json → Bool
default_allowed root s d = not root && valid s d && stays s d && nat_lt (depth d) (suc MAX_DEFAULT_DEPTH)

abbrev pub default_visits : Bool → Shape → Option Json → List Visit
default_visits root s None = []
default_visits root s (Some d) = tries Default (default_allowed root s d)

-- `type` with the one value that a name of every object has
abbrev pub is_meta_type : List ℕ → Option Json → Bool
is_meta_type w (Some (text t)) = bytes_eq t w
is_meta_type w _ = false

-- what comes behind the type of one of the three names that the root passes over
abbrev pub meta_rest : Members → List Visit
meta_rest ms = part_visits AfterType Meta ms ++ tries Default (is_none (value_at (word Default) ms))

abbrev pub meta_typed : List ℕ → Members → List Visit
meta_typed w ms = tries TypeWord (is_meta_type w (value_at (word TypeWord) ms)) ++ meta_rest ms

-- the schema of one of the three: its type, and what is passed over
abbrev pub meta_object : List ℕ → Members → List Visit
meta_object w ms = part_visits AnyBeforeType Meta ms ++ meta_typed w ms

abbrev pub meta_visits : List ℕ → Json → List Visit
meta_visits w (object ms) = meta_object w ms
meta_visits w _ = tries TypeWord false

-- a property, or one of the three
abbrev pub property_visits : Option (List ℕ) → Json → List Visit → List Visit
property_visits None j vs = vs
property_visits (Some w) j vs = meta_visits w j

-- `type`, with the keywords behind it, and with those before it
abbrev pub typed_visits : Bool → Option NodeKind → Members → List Visit
typed_visits root k ms = tries TypeWord (type_allowed root k) ++ part_visits AfterType (Node k) ms

abbrev pub type_visits : Bool → Option NodeKind → Members → List Visit
type_visits root k ms = part_visits BeforeType (Node k) ms ++ typed_visits root k ms

-- the keyword `additionalProperties` or `items`, with those before it
abbrev pub additional_visits : Option NodeKind → Members → List Visit
additional_visits k ms =
    part_visits BeforeAdditional (Node k) ms ++ tries Additional (additional_allowed k ms (value_at (word Additional) ms))

abbrev pub items_visits : Option NodeKind → Members → List Visit
items_visits k ms =
    part_visits BeforeItems (Node k) ms ++ tries ItemsWord (items_allowed k (value_at (word ItemsWord) ms))

abbrev mutual
  -- a node so deep below the root
  pub visits : Bool → ℕ → Json → List Visit
  visits root d null = here (entered d) ∷ tries TypeWord false
  visits root d (boolean b) = here (entered d) ∷ tries TypeWord false
  visits root d (whole z) = here (entered d) ∷ tries TypeWord false
  visits root d (text t) = here (entered d) ∷ tries TypeWord false
  visits root d (list js) = here (entered d) ∷ tries TypeWord false
  visits root d (object ms) =
      here (entered d) ∷ ((additional_visits (node_kind ms) ms ++ inner_visits Additional d ms)
      ++ ((items_visits (node_kind ms) ms ++ inner_visits ItemsWord d ms)
      ++ (type_visits root (node_kind ms) ms
      ++ (map_visits root d ms
      ++ default_visits root (bare_read root ms) (value_at (word Default) ms)))))

  -- the schema under `additionalProperties` or `items`
  pub inner_visits : Keyword → ℕ → Members → List Visit
  inner_visits w d no_members = []
  inner_visits w d (member k j ms) = cond (is_name (word w) k) (within (named (word w)) (visits false (d + 1) j)) (inner_visits w d ms)

  -- the schemas under `properties`
  pub map_visits : Bool → ℕ → Members → List Visit
  map_visits root d no_members = []
  map_visits root d (member k j ms) = cond (is_name (word Properties) k) (within (named (word Properties)) (named_visits root d j)) (map_visits root d ms)

  pub named_visits : Bool → ℕ → Json → List Visit
  named_visits root d null = []
  named_visits root d (boolean b) = []
  named_visits root d (whole z) = []
  named_visits root d (text t) = []
  named_visits root d (list js) = []
  named_visits root d (object ps) = each_visits root d ps

  pub each_visits : Bool → ℕ → Members → List Visit
  each_visits root d no_members = []
  each_visits root d (member n j ps) = within (named n) (property_visits (passed_type root n) j (visits false (d + 1) j)) ++ each_visits root d ps

-- a node that is an object, once it is counted
abbrev pub object_visits : Bool → ℕ → Members → List Visit
object_visits root d ms =
    (additional_visits (node_kind ms) ms ++ inner_visits Additional d ms) ++ ((items_visits (node_kind ms) ms ++ inner_visits ItemsWord d ms)
    ++ (type_visits root (node_kind ms) ms ++ (map_visits root d ms ++ default_visits root (bare_read root ms) (value_at (word Default) ms))))

-- the first refusal of the walk over a whole document
abbrev pub first_refusal : Json → Option Refusal
first_refusal j = first 0 (visits true 0 j)
