-- Each default of the schema that an accepted document spells is valid and its own filling.
use Rattle.std.proofs.Common.{◌≡◌, ◌<◌, ℕ, suc, ◌+◌, List, Bool, true, false, ◌&&◌, not, cond, Option, Some, None, nat_lt, refl, sym, ◌∙◌, arith}
use Rattle.std.proofs.lemmas.Bool.Decides.{nat_tests}
use Rattle.kj_value.specs.Json.{Json, null, boolean, whole, text, list, object, Members, no_members, member, depth}
use Rattle.struct_schema.specs.Names.{is_name, value_at}
use Rattle.struct_schema.specs.Shape.{Shape, Shapes, MaybeShapes, MaybeShape, some_shape}
use Rattle.struct_schema.specs.Valid.{valid}
use Rattle.struct_schema.specs.Stays.{stays}
use Rattle.struct_schema.specs.laws.BelowLaws.{valid-below, stays-below}
use Rattle.schema_reading.specs.Words.{word, passed_type}
use Rattle.schema_reading.specs.Kind.{node_kind, type_allowed}
use Rattle.schema_reading.specs.Allowed.{items_allowed, additional_allowed}
use Rattle.schema_reading.specs.ShapeRead.{with_default, property_read, shape_read, inner_read, map_read, named_read, shapes_read, bare_read}
use Rattle.schema_reading.specs.Accepted.{names_allowed, no_bad_default, node_allowed, property_allowed, all_allowed, inner_allowed, map_allowed, named_allowed, each_allowed, IsSchema}
use Rattle.schema_reading.specs.ValidDefaults.{IsValidDefault, HasValidDefaults, ValidInMap, ValidInShapes, ValidInMaybe}
use Rattle.schema_reading.specs.declared.words.Keyword.{Keyword}
use Rattle.schema_reading.specs.declared.words.Keyword.TheVariants.{Additional, Default, Items as ItemsWord, Properties}
use Rattle.schema_reading.specs.declared.walk.TheConstants.{MAX_NESTING, MAX_DEFAULT_DEPTH}

lies : false ≡ true → ⊥
lies e = cc

first : (a b : Bool) → (a && b) ≡ true → a ≡ true
first true b h = refl
first false b h = absurd (lies h)

second : (a b : Bool) → (a && b) ≡ true → b ≡ true
second true b h = h
second false b h = absurd (lies h)

less : (a b : ℕ) → nat_lt a b ≡ true → a < b
less a b h = grind (arith, nat_tests)

-- the default of a node, in the node's schema with it
default_valid : (root : Bool) (ms : Members) (o : Option Json) → no_bad_default root (bare_read root ms) o ≡ true → IsValidDefault (with_default o (bare_read root ms)) o
default_valid root ms None h = tt
default_valid root ms (Some d) h =
    let s : Shape = bare_read root ms in
    let t : Shape = with_default (Some d) s in
    let v : Bool = valid s d in
    let u : Bool = stays s d in
    let w : Bool = nat_lt (depth d) (suc MAX_DEFAULT_DEPTH) in
    let three = first (not root && v && u) w h in
    let deep : depth d < suc MAX_DEFAULT_DEPTH = less (depth d) (suc MAX_DEFAULT_DEPTH) (second (not root && v && u) w h) in (
      sym (valid-below t d) ∙ second (not root) v (first (not root && v) u three),
      sym (stays-below t d) ∙ second (not root && v) u three,
      omega (arith, deep),
    )

-- the default is the last thing that a node is tried for
default_last : (root : Bool) (ms : Members) → node_allowed root ms ≡ true → no_bad_default root (bare_read root ms) (value_at (word Default) ms) ≡ true
default_last root ms h =
    let a = names_allowed (node_kind ms) ms in
    let b = additional_allowed (node_kind ms) ms (value_at (word Additional) ms) in
    let c = items_allowed (node_kind ms) (value_at (word ItemsWord) ms) in
    let d = type_allowed root (node_kind ms) in
    let e = no_bad_default root (bare_read root ms) (value_at (word Default) ms) in
    second d e (second c (d && e) (second b (c && (d && e)) (second a (b && (c && (d && e))) h)))

one_inside : (b w x : Bool) (s : Shape) (m : MaybeShape) → (w ≡ true → HasValidDefaults s) → (x ≡ true → ValidInMaybe m) → cond b w x ≡ true → ValidInMaybe (cond b (some_shape s) m)
one_inside true w x s m h k e = h e
one_inside false w x s m h k e = k e

map_inside : (b w x : Bool) (p q : MaybeShapes) → (w ≡ true → ValidInMap p) → (x ≡ true → ValidInMap q) → cond b w x ≡ true → ValidInMap (cond b p q)
map_inside true w x p q h k e = h e
map_inside false w x p q h k e = k e

-- what the root passes over has no schema
property_inside : (o : Option (List ℕ)) (n : List ℕ) (j : Json) (w : Bool) (s : Shape) (ss : Shapes) → (w ≡ true → HasValidDefaults s) → ValidInShapes ss → property_allowed o j w ≡ true → ValidInShapes (property_read o n s ss)
property_inside None n j w s ss h k e = (h e, k)
property_inside (Some x) n j w s ss h k e = k

mutual
  pub in_node : (root : Bool) (d : ℕ) (j : Json) → all_allowed root d j ≡ true → HasValidDefaults (shape_read root j)
  in_node root d null h = absurd (lies h)
  in_node root d (boolean b) h = absurd (lies h)
  in_node root d (whole z) h = absurd (lies h)
  in_node root d (text t) h = absurd (lies h)
  in_node root d (list js) h = absurd (lies h)
  in_node root d (object ms) h =
      let n = node_allowed root ms in
      let a = inner_allowed Additional d ms in
      let i = inner_allowed ItemsWord d ms in
      let m = map_allowed root d ms in
      let all = second (nat_lt d (suc MAX_NESTING)) (n && (a && (i && m))) h in
      let inside = second n (a && (i && m)) all in
      let last = second a (i && m) inside in (
        default_valid root ms (value_at (word Default) ms) (default_last root ms (first n (a && (i && m)) all)),
        in_map root d ms (second i m last),
        in_inner Additional d ms (first a (i && m) inside),
        in_inner ItemsWord d ms (first i m last),
      )

  in_inner : (w : Keyword) (d : ℕ) (ms : Members) → inner_allowed w d ms ≡ true → ValidInMaybe (inner_read w ms)
  in_inner w d no_members h = tt
  in_inner w d (member k j ms) h =
      one_inside (is_name (word w) k) (all_allowed false (d + 1) j) (inner_allowed w d ms) (shape_read false j) (inner_read w ms) (λ e. in_node false (d + 1) j e) (λ e. in_inner w d ms e) h

  in_map : (root : Bool) (d : ℕ) (ms : Members) → map_allowed root d ms ≡ true → ValidInMap (map_read root ms)
  in_map root d no_members h = tt
  in_map root d (member k j ms) h =
      map_inside (is_name (word Properties) k) (named_allowed root d j) (map_allowed root d ms) (named_read root j) (map_read root ms) (λ e. in_named root d j e) (λ e. in_map root d ms e) h

  in_named : (root : Bool) (d : ℕ) (j : Json) → named_allowed root d j ≡ true → ValidInMap (named_read root j)
  in_named root d null h = tt
  in_named root d (boolean b) h = tt
  in_named root d (whole z) h = tt
  in_named root d (text t) h = tt
  in_named root d (list js) h = tt
  in_named root d (object ps) h = in_each root d ps h

  in_each : (root : Bool) (d : ℕ) (ps : Members) → each_allowed root d ps ≡ true → ValidInShapes (shapes_read root ps)
  in_each root d no_members h = tt
  in_each root d (member n j ps) h =
      let p = property_allowed (passed_type root n) j (all_allowed false (d + 1) j) in
      let r = each_allowed root d ps in
      property_inside (passed_type root n) n j (all_allowed false (d + 1) j) (shape_read false j) (shapes_read root ps) (λ e. in_node false (d + 1) j e) (in_each root d ps (second p r h)) (first p r h)

-- ---- a whole document

pub valid_defaults : (j : Json) → IsSchema j → HasValidDefaults (shape_read true j)
valid_defaults j h = in_node true 0 j h.0
