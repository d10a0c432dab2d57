-- The defaults of the schemas of an accepted definition are within the levels of an object.
use Rattle.std.proofs.Common.{◌≡◌, ℕ, zero, suc, ◌+◌, ◌≤◌, List, [], ◌∷◌, Bool, true, false, ◌&&◌, cond, Option, Some, None, refl, subst, arith}
use Rattle.std.specs.Prelude.{not, nat_lt, slice_index_or}
use Rattle.std.proofs.lemmas.Bool.Decides.{nat_tests}
use Rattle.kj_value.specs.Json.{Json, null, boolean, whole, text, list, object, Items, no_items, item, Members, no_members, member, depth}
use Rattle.struct_schema.specs.Names.{is_name, value_at}
use Rattle.struct_schema.specs.Shape.{Shape, Shapes, MaybeShapes, MaybeShape, some_shape}
use Rattle.struct_schema.specs.OwnDefaults.{HasOwnDefaults}
use Rattle.struct_schema.specs.Valid.{valid}
use Rattle.struct_schema.specs.Stays.{stays}
use Rattle.schema_reading.specs.Words.{word, passed_type}
use Rattle.schema_reading.specs.Kind.{node_kind, type_allowed}
use Rattle.schema_reading.specs.Allowed.{items_allowed, additional_allowed}
use Rattle.schema_reading.specs.ShapeRead.{property_read, shape_read, inner_read, map_read, named_read, shapes_read, bare_read}
use Rattle.schema_reading.specs.Accepted.{names_allowed, no_bad_default, node_allowed, property_allowed, all_allowed, inner_allowed, map_allowed, named_allowed, each_allowed}
use Rattle.schema_reading.specs.declared.walk.TheConstants.{MAX_NESTING, MAX_DEFAULT_DEPTH}
use Rattle.crd_reading.specs.View.{VersionView, DefinitionView}
use Rattle.crd_reading.specs.Spelled.{schema_in, version_items, versions_read}
use Rattle.crd_reading.specs.Accepted.{HaveSchemas}
use Rattle.crd_reading.specs.Whole.{HaveOwnDefaults, IsWholeDefinition}
use Rattle.crd_admission.specs.Low.{WithinAt, HasLowDefaults, LowInMap, LowInShapes, LowInMaybe}

-- ---- tests joined by and

both_true : (a b : Bool) → a && b ≡ true → (a ≡ true) × (b ≡ true)
both_true true b h = (refl, h)
both_true false b h = absurd (cc)

fourth_true : (a b c d : Bool) → a && b && c && d ≡ true → d ≡ true
fourth_true true true true d h = h
fourth_true true true false d h = absurd (cc)
fourth_true true false c d h = absurd (cc)
fourth_true false b c d h = absurd (cc)

five_true : (a b c d e : Bool) → a && (b && (c && (d && e))) ≡ true → e ≡ true
five_true true true true true e h = h
five_true true true true false e h = absurd (cc)
five_true true true false d e h = absurd (cc)
five_true true false c d e h = absurd (cc)
five_true false b c d e h = absurd (cc)

-- ---- a node, and what is inside it

sum_within : (d n : ℕ) → nat_lt d (suc MAX_NESTING) ≡ true → nat_lt n (suc MAX_DEFAULT_DEPTH) ≡ true → d + n ≤ 64
sum_within d n p q = grind (arith, nat_tests)

default_low : (root : Bool) (d : ℕ) (ms : Members) (v : Option Json) → nat_lt d (suc MAX_NESTING) ≡ true → no_bad_default root (bare_read root ms) v ≡ true → WithinAt d v
default_low root d ms None n h = tt
default_low root d ms (Some j) n h =
    sum_within d (depth j) n (fourth_true (not root) (valid (bare_read root ms) j) (stays (bare_read root ms) j) (nat_lt (depth j) (suc MAX_DEFAULT_DEPTH)) h)

own_low : (u v w : _) (root : Bool) (d : ℕ) (ms : Members) → nat_lt d (suc MAX_NESTING) ≡ true
    → names_allowed (node_kind ms) ms && (additional_allowed (node_kind ms) ms (value_at (word u) ms) && (items_allowed (node_kind ms) (value_at (word v) ms)
    && (type_allowed root (node_kind ms) && no_bad_default root (bare_read root ms) (value_at (word w) ms)))) ≡ true
    → WithinAt d (value_at (word w) ms)
own_low u v w root d ms n h =
    default_low root d ms (value_at (word w) ms) n (five_true (names_allowed (node_kind ms) ms) (additional_allowed (node_kind ms) ms (value_at (word u) ms)) (items_allowed (node_kind ms) (value_at (word v) ms)) (type_allowed root (node_kind ms)) (no_bad_default root (bare_read root ms) (value_at (word w) ms)) h)

parts_true : (u v : _) (root : Bool) (d : ℕ) (ms : Members) → inner_allowed u d ms && (inner_allowed v d ms && map_allowed root d ms) ≡ true
    → (inner_allowed u d ms ≡ true) × (inner_allowed v d ms ≡ true) × (map_allowed root d ms ≡ true)
parts_true u v root d ms h =
    let p = both_true (inner_allowed u d ms) (inner_allowed v d ms && map_allowed root d ms) h in
    let q = both_true (inner_allowed v d ms) (map_allowed root d ms) p.1 in
    (p.0, q.0, q.1)

one_inside : (n : ℕ) (b : Bool) (s : Shape) (m : MaybeShape) (x y : Bool) → cond b x y ≡ true → (x ≡ true → HasLowDefaults n s) → (y ≡ true → LowInMaybe n m) → LowInMaybe n (cond b (some_shape s) m)
one_inside n true s m x y h here later = here h
one_inside n false s m x y h here later = later h

map_inside : (n : ℕ) (b : Bool) (p q : MaybeShapes) (x y : Bool) → cond b x y ≡ true → (x ≡ true → LowInMap n p) → (y ≡ true → LowInMap n q) → LowInMap n (cond b p q)
map_inside n true p q x y h here later = here h
map_inside n false p q x y h here later = later h

-- what the root passes over has no schema
property_inside : (d : ℕ) (o : Option (List ℕ)) (n : List ℕ) (j : Json) (s : Shape) (ss : Shapes) (x : Bool) → property_allowed o j x ≡ true → (x ≡ true → HasLowDefaults d s) → LowInShapes d ss → LowInShapes d (property_read o n s ss)
property_inside d None n j s ss x h here rest = (here h, rest)
property_inside d (Some w) n j s ss x h here rest = rest

mutual
  low_node : (root : Bool) (d : ℕ) (j : Json) → all_allowed root d j ≡ true → HasLowDefaults d (shape_read root j)
  low_node root d null h = (tt, tt, tt, tt)
  low_node root d (boolean b) h = (tt, tt, tt, tt)
  low_node root d (whole z) h = (tt, tt, tt, tt)
  low_node root d (text t) h = (tt, tt, tt, tt)
  low_node root d (list js) h = (tt, tt, tt, tt)
  low_node root d (object ms) h =
      let p = both_true (nat_lt d (suc MAX_NESTING)) _ h in
      let q = both_true (node_allowed root ms) _ p.1 in
      let r = parts_true _ _ root d ms q.1 in
      (own_low _ _ _ root d ms p.0 q.0, low_map root d ms r.2, low_inner _ d ms r.0, low_inner _ d ms r.1)

  low_inner : (w : _) (d : ℕ) (ms : Members) → inner_allowed w d ms ≡ true → LowInMaybe (d + 1) (inner_read w ms)
  low_inner w d no_members h = tt
  low_inner w d (member k j ms) h =
      one_inside (d + 1) (is_name (word w) k) (shape_read false j) (inner_read w ms) (all_allowed false (d + 1) j) (inner_allowed w d ms) h (λ q. low_node false (d + 1) j q) (λ q. low_inner w d ms q)

  low_map : (root : Bool) (d : ℕ) (ms : Members) → map_allowed root d ms ≡ true → LowInMap (d + 1) (map_read root ms)
  low_map root d no_members h = tt
  low_map root d (member k j ms) h =
      map_inside (d + 1) _ (named_read root j) (map_read root ms) (named_allowed root d j) (map_allowed root d ms) h (λ q. low_named root d j q) (λ q. low_map root d ms q)

  low_named : (root : Bool) (d : ℕ) (j : Json) → named_allowed root d j ≡ true → LowInMap (d + 1) (named_read root j)
  low_named root d null h = tt
  low_named root d (boolean b) h = tt
  low_named root d (whole z) h = tt
  low_named root d (text t) h = tt
  low_named root d (list js) h = tt
  low_named root d (object ps) h = low_each root d ps h

  low_each : (root : Bool) (d : ℕ) (ps : Members) → each_allowed root d ps ≡ true → LowInShapes (d + 1) (shapes_read root ps)
  low_each root d no_members h = tt
  low_each root d (member n j ps) h =
      let p = both_true (property_allowed (passed_type root n) j (all_allowed false (d + 1) j)) (each_allowed root d ps) h in
      property_inside (d + 1) (passed_type root n) n j (shape_read false j) (shapes_read root ps) (all_allowed false (d + 1) j) p.0 (λ q. low_node false (d + 1) j q) (low_each root d ps p.1)

-- ---- versions

low_version : (js : Items) (w : VersionView) (v : ℕ) → HasLowDefaults 0 w.schema → HaveSchemas js → HasLowDefaults 0 (slice_index_or (versions_read js) v w).schema
low_version no_items w v none h = none
low_version (item j js) w zero none h = low_node true 0 (schema_in j) h.0.0
low_version (item j js) w (suc v) none h = low_version js w v none h.1

-- of a definition, at each place and beyond them
pub low_schema : (d : DefinitionView) (w : VersionView) (v : ℕ) → HasLowDefaults 0 w.schema → IsWholeDefinition d → HasLowDefaults 0 (slice_index_or d.versions v w).schema
low_schema d w v none known =
    let spelled = known.spelled in
    subst (λ (x : DefinitionView). HasLowDefaults 0 (slice_index_or x.versions v w).schema) spelled.2 (low_version (version_items spelled.0) w v none spelled.1.schemas)

-- each default of a version's schema is its own filling
pub own_schema : (vs : List VersionView) (w : VersionView) (v : ℕ) → HasOwnDefaults w.schema → HaveOwnDefaults vs → HasOwnDefaults (slice_index_or vs v w).schema
own_schema [] w v none h = none
own_schema (u ∷ vs) w zero none h = h.0
own_schema (u ∷ vs) w (suc v) none h = own_schema vs w v none h.1
