-- The schemas that documents spell leave the three names of every object to the object's own values.
use Rattle.std.proofs.Common.{◌≡◌, ◌<◌, ℕ, zero, suc, List, length, Bool, true, false, cond, Option, Some, None, refl, ap, arith}
use Rattle.std.specs.Prelude.{slice_index_or, codes}
use Rattle.kj_value.specs.Json.{Json, null, boolean, whole, text, list, object, Items, no_items, item, Members, no_members, member}
use Rattle.struct_schema.specs.Shape.{Shape, Shapes, some_shape, MaybeShapes, properties, no_shape}
use Rattle.struct_schema.specs.Names.{is_name, shape_named, property}
use Rattle.struct_schema.specs.OwnDefaults.{HasOwnDefaults}
use Rattle.struct_schema.specs.laws.NameLaws.{one_name}
use Rattle.prune_default.specs.SoundDefaults.{HasSoundDefaults}
use Rattle.schema_reading.specs.Words.{meta_type}
use Rattle.schema_reading.specs.ShapeRead.{shape_read, map_read, named_read, shapes_read, property_read}
use Rattle.crd_reading.specs.Spelled.{schema_in, versions_read}
use Rattle.crd_reading.specs.Whole.{HaveOwnDefaults, HaveSoundDefaults}
use Rattle.crd_meaning.specs.Definition.{no_version, IsRoot}

-- ---- a name that the root passes over is no property

passed_one : (k n t : List ℕ) (s : Shape) (ss : Shapes) → meta_type k ≡ Some t → shape_named k ss ≡ no_shape → shape_named k (property_read (meta_type n) n s ss) ≡ no_shape
passed_one k n t s ss p h = by_type (meta_type n) refl
  where
    by_name : (b : Bool) → is_name k n ≡ b → meta_type n ≡ None → cond b (some_shape s) (shape_named k ss) ≡ no_shape
    by_name true e q =
        let same : meta_type k ≡ meta_type n = ap meta_type (one_name k n e) in
        absurd (cc)
    by_name false e q = h

    by_type : (o : Option (List ℕ)) → meta_type n ≡ o → shape_named k (property_read o n s ss) ≡ no_shape
    by_type None q = by_name (is_name k n) refl q
    by_type (Some u) q = h

in_shapes : (k t : List ℕ) (ps : Members) → meta_type k ≡ Some t → shape_named k (shapes_read true ps) ≡ no_shape
in_shapes k t no_members p = refl
in_shapes k t (member n j ps) p =
    passed_one k n t (shape_read false j) (shapes_read true ps) p (in_shapes k t ps p)

in_named : (k t : List ℕ) (j : Json) → meta_type k ≡ Some t → property k (named_read true j) ≡ no_shape
in_named k t null p = refl
in_named k t (boolean b) p = refl
in_named k t (whole z) p = refl
in_named k t (text s) p = refl
in_named k t (list js) p = refl
in_named k t (object ps) p = in_shapes k t ps p

either : (k : List ℕ) (b : Bool) (x y : MaybeShapes) → property k x ≡ no_shape → property k y ≡ no_shape → property k (cond b x y) ≡ no_shape
either k true x y g h = g
either k false x y g h = h

in_map : (k t : List ℕ) (ms : Members) → meta_type k ≡ Some t → property k (map_read true ms) ≡ no_shape
in_map k t no_members p = refl
in_map k t (member l j ms) p =
    either k _ (named_read true j) (map_read true ms) (in_named k t j p) (in_map k t ms p)

passed_over : (k t : List ℕ) (j : Json) → meta_type k ≡ Some t → property k (properties (shape_read true j)) ≡ no_shape
passed_over k t null p = refl
passed_over k t (boolean b) p = refl
passed_over k t (whole z) p = refl
passed_over k t (text s) p = refl
passed_over k t (list js) p = refl
passed_over k t (object ms) p = in_map k t ms p

-- ---- the schemas of versions

version_type : meta_type (codes "apiVersion") ≡ Some (codes "string")
unfolding meta_type
version_type = refl

kind_type : meta_type (codes "kind") ≡ Some (codes "string")
unfolding meta_type
kind_type = refl

metadata_type : meta_type (codes "metadata") ≡ Some (codes "object")
unfolding meta_type
metadata_type = refl

root : (j : Json) → HasOwnDefaults (shape_read true j) → HasSoundDefaults (shape_read true j) → IsRoot (shape_read true j)
root j h k = record {
  api_version = passed_over (codes "apiVersion") (codes "string") j version_type;
  kind = passed_over (codes "kind") (codes "string") j kind_type;
  metadata = passed_over (codes "metadata") (codes "object") j metadata_type;
  defaults = h;
  sound = k;
}

pub roots : (js : Items) (v : ℕ) → HaveOwnDefaults (versions_read js) → HaveSoundDefaults (versions_read js) → v < length (versions_read js) → IsRoot (slice_index_or (versions_read js) v no_version).schema
roots no_items v d e h =
    let none : v < 0 = h in
    absurd (omega arith)
roots (item j js) zero d e h = root (schema_in j) d.0 e.0
roots (item j js) (suc v) d e h =
    let more : suc v < suc (length (versions_read js)) = h in
    roots js v d.1 e.1 (omega arith)
