-- Each default of the schema that an allowed document spells is its own filling.
use Rattle.std.proofs.Common.{◌≡◌, ℕ, suc, ◌+◌, List, Bool, true, false, ◌&&◌, cond, Option, Some, None, refl, sym, subst}
use Rattle.std.specs.Prelude.{not, nat_lt}
use Rattle.kj_value.specs.Json.{Json, null, boolean, whole, text, list, object, Members, no_members, member, depth}
use Rattle.struct_schema.specs.Names.{is_name, value_at}
use Rattle.struct_schema.specs.Shape.{Shape, Shapes, MaybeShapes, MaybeShape, some_shape}
use Rattle.struct_schema.specs.Valid.{valid}
use Rattle.struct_schema.specs.Stays.{stays}
use Rattle.struct_schema.specs.laws.Own.{stays_filled}
use Rattle.struct_schema.specs.OwnDefaults.{IsOwnFilling, HasOwnDefaults, InMap, InShapes, InMaybe}
use Rattle.schema_reading.specs.Words.{word, passed_type}
use Rattle.schema_reading.specs.Kind.{node_kind, type_allowed}
use Rattle.schema_reading.specs.Allowed.{items_allowed, additional_allowed}
use Rattle.schema_reading.specs.ShapeRead.{with_default, property_read, shape_read, inner_read, map_read, named_read, shapes_read, bare_read}
use Rattle.schema_reading.specs.Visits.{first_refusal}
use Rattle.schema_reading.specs.Accepted.{names_allowed, no_bad_default, node_allowed, property_allowed, all_allowed, inner_allowed, map_allowed, named_allowed, each_allowed}
use Rattle.schema_reading.specs.declared.words.Keyword.{Keyword}
use Rattle.schema_reading.specs.declared.words.Keyword.TheVariants.{Additional, Default, Items as ItemsWord, Properties}
use Rattle.schema_reading.specs.declared.walk.TheConstants.{MAX_NESTING, MAX_DEFAULT_DEPTH}
use Rattle.schema_reading.proofs.Accepting.{accepted}

-- ---- tests joined by and

both_true : (a b : Bool) → a && b ≡ true → (a ≡ true) × (b ≡ true)
both_true true b h = (refl, h)
both_true false b h = absurd (cc)

third_true : (a b c d : Bool) → a && b && c && d ≡ true → c ≡ true
third_true true true true d h = refl
third_true true true false d h = absurd (cc)
third_true true false c d h = absurd (cc)
third_true false b c d h = absurd (cc)

rest_true : (a b c d e : Bool) → a && (b && (c && (d && e))) ≡ true → (b ≡ true) × (c ≡ true) × (d ≡ true) × (e ≡ true)
rest_true true true true true e h = (refl, refl, refl, h)
rest_true true true true false e h = absurd (cc)
rest_true true true false d e h = absurd (cc)
rest_true true false c d e h = absurd (cc)
rest_true false b c d e h = absurd (cc)

-- ---- a node, and what is inside it

-- a filling doesn't look at the node's own default
own_filling : (root : Bool) (ms : Members) (v : Option Json) → no_bad_default root (bare_read root ms) v ≡ true → IsOwnFilling (with_default v (bare_read root ms)) v
own_filling root ms None h = tt
own_filling root ms (Some d) h =
    stays_filled (bare_read root ms) d (third_true (not root) (valid (bare_read root ms) d) (stays (bare_read root ms) d) (nat_lt (depth d) (suc MAX_DEFAULT_DEPTH)) h)

one_inside : (b : Bool) (s : Shape) (m : MaybeShape) (x y : Bool) → cond b x y ≡ true → (x ≡ true → HasOwnDefaults s) → (y ≡ true → InMaybe m) → InMaybe (cond b (some_shape s) m)
one_inside true s m x y h here later = here h
one_inside false s m x y h here later = later h

map_inside : (b : Bool) (p q : MaybeShapes) (x y : Bool) → cond b x y ≡ true → (x ≡ true → InMap p) → (y ≡ true → InMap q) → InMap (cond b p q)
map_inside true p q x y h here later = here h
map_inside false p q x y h here later = later h

-- what the root passes over has no schema
property_inside : (o : Option (List ℕ)) (n : List ℕ) (j : Json) (s : Shape) (ss : Shapes) (x : Bool) → property_allowed o j x ≡ true → (x ≡ true → HasOwnDefaults s) → InShapes ss → InShapes (property_read o n s ss)
property_inside None n j s ss x h here rest = (here h, rest)
property_inside (Some w) n j s ss x h here rest = rest

mutual
  pub in_node : (root : Bool) (d : ℕ) (j : Json) → all_allowed root d j ≡ true → HasOwnDefaults (shape_read root j)
  in_node root d null h = (tt, tt, tt, tt)
  in_node root d (boolean b) h = (tt, tt, tt, tt)
  in_node root d (whole z) h = (tt, tt, tt, tt)
  in_node root d (text t) h = (tt, tt, tt, tt)
  in_node root d (list js) h = (tt, tt, tt, tt)
  in_node root d (object ms) h =
      let p = rest_true (nat_lt d (suc MAX_NESTING)) (node_allowed root ms) (inner_allowed Additional d ms) (inner_allowed ItemsWord d ms) (map_allowed root d ms) h in
      let q = rest_true (names_allowed (node_kind ms) ms) (additional_allowed (node_kind ms) ms (value_at (word Additional) ms)) (items_allowed (node_kind ms) (value_at (word ItemsWord) ms)) (type_allowed root (node_kind ms)) (no_bad_default root (bare_read root ms) (value_at (word Default) ms)) p.0 in
      (own_filling root ms (value_at (word Default) ms) q.3, in_map root d ms p.3, in_inner Additional d ms p.1, in_inner ItemsWord d ms p.2)

  in_inner : (w : Keyword) (d : ℕ) (ms : Members) → inner_allowed w d ms ≡ true → InMaybe (inner_read w ms)
  in_inner w d no_members h = tt
  in_inner w d (member k j ms) h =
      one_inside (is_name (word w) k) (shape_read false j) (inner_read w ms) (all_allowed false (d + 1) j) (inner_allowed w d ms) h (λ q. in_node false (d + 1) j q) (λ q. in_inner w d ms q)

  in_map : (root : Bool) (d : ℕ) (ms : Members) → map_allowed root d ms ≡ true → InMap (map_read root ms)
  in_map root d no_members h = tt
  in_map root d (member k j ms) h =
      map_inside (is_name (word Properties) k) (named_read root j) (map_read root ms) (named_allowed root d j) (map_allowed root d ms) h (λ q. in_named root d j q) (λ q. in_map root d ms q)

  in_named : (root : Bool) (d : ℕ) (j : Json) → named_allowed root d j ≡ true → InMap (named_read root j)
  in_named root d null h = tt
  in_named root d (boolean b) h = tt
  in_named root d (whole z) h = tt
  in_named root d (text t) h = tt
  in_named root d (list js) h = tt
  in_named root d (object ps) h = in_each root d ps h

  in_each : (root : Bool) (d : ℕ) (ps : Members) → each_allowed root d ps ≡ true → InShapes (shapes_read root ps)
  in_each root d no_members h = tt
  in_each root d (member n j ps) h =
      let p = both_true (property_allowed (passed_type root n) j (all_allowed false (d + 1) j)) (each_allowed root d ps) h in
      property_inside (passed_type root n) n j (shape_read false j) (shapes_read root ps) (all_allowed false (d + 1) j) p.0 (λ q. in_node false (d + 1) j q) (in_each root d ps p.1)

-- ---- a whole document

pub in_schema : (j : Json) (s : Shape) → first_refusal j ≡ None → s ≡ shape_read true j → HasOwnDefaults s
in_schema j s h e = subst HasOwnDefaults (sym e) (in_node true 0 j (accepted j h).0)
