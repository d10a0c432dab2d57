-- A filled body has none of the names that its schema leaves free.
use Rattle.std.proofs.Common.{◌≡◌, ◌∙◌, ℕ, List, [], ◌∷◌, Bool, true, false, cond, Option, Some, None, nat_cmp, is_eq, refl, ap, sym, subst}
use Rattle.std.specs.Prelude.{MatchBool}
use Rattle.std.specs.Cmp.Lexicographic.{slice_cmp}
use Rattle.kj_value.specs.Json.{Json, object, members_of}
use Rattle.kj_value.specs.Fields.{Pairs, field}
use Rattle.struct_schema.specs.Shape.{Shape, shape, own, properties, Shapes, no_shapes, shape_at, MaybeShapes, no_map, some_map, MaybeShape, no_shape, some_shape}
use Rattle.struct_schema.specs.Names.{is_name, value_at, shape_named, property}
use Rattle.struct_schema.specs.Filled.{is_object, PropertyFilled, AtEachName, Filled, NameFilled, NamedFilled, RestFilled}
use Rattle.hub_cells.specs.Side.{Side}
use Rattle.hub_cells.specs.Level.{Level, level}
use Rattle.hub_cells.specs.Fit.{IsClosedObject, Stands}

value_field : (k : List ℕ) (es : Pairs) → value_at k (members_of es) ≡ field k es
value_field k [] = refl
value_field k (e ∷ es) =
    ap (λ (o : Option Json). cond (is_eq (slice_cmp nat_cmp k e.0)) (Some e.1) o) (value_field k es)

abbrev Relation : Type 1
Relation = Option Json → Option Json → Type 0

named_rest : (ss : Shapes) (R : Relation) (n : List ℕ) (v w : Option Json) → shape_named n ss ≡ no_shape → NamedFilled ss R n v w → R v w
named_rest no_shapes R n v w e h = h
named_rest (shape_at l s ss) R n v w e h = by_test (named_rest ss R n v w) (is_name n l) e h
  where
    by_test : (shape_named n ss ≡ no_shape → NamedFilled ss R n v w → R v w) → (b : Bool) → cond b (some_shape s) (shape_named n ss) ≡ no_shape
        → MatchBool b (PropertyFilled (own s) (λ x y. Filled s x y) v w) (NamedFilled ss R n v w) → R v w
    by_test more true e h = absurd (cc)
    by_test more false e h = more e h

map_rest : (ps : MaybeShapes) (R : Relation) (n : List ℕ) (v w : Option Json) → property n ps ≡ no_shape → NameFilled ps R n v w → R v w
map_rest no_map R n v w e h = h
map_rest (some_map ss) R n v w e h = named_rest ss R n v w e h

rest_none : (a : MaybeShape) (p : Bool) (v w : Option Json) → a ≡ no_shape → p ≡ false → RestFilled a p v w → w ≡ None
rest_none no_shape p v w e q h = h ∙ ap (λ (b : Bool). cond b v None) q
rest_none (some_shape s) p v w e q h = absurd (cc)

pub name_free : (s : Shape) (k : List ℕ) (b : Pairs) → IsClosedObject s → property k (properties s) ≡ no_shape → Filled s (object (members_of b)) (object (members_of b)) → field k b ≡ None
name_free (shape o ps a i) k b c e f =
    let there : AtEachName (NameFilled ps (RestFilled a o.preserve)) (members_of b) (object (members_of b)) =
    subst (λ (t : Bool). MatchBool t (AtEachName (NameFilled ps (RestFilled a o.preserve)) (members_of b) (object (members_of b))) (object (members_of b) ≡ object (members_of b))) (ap is_object c.kind) f in
    sym (value_field k b) ∙ rest_none a o.preserve (value_at k (members_of b)) (value_at k (members_of b)) c.additional c.preserve (map_rest ps (RestFilled a o.preserve) k (value_at k (members_of b)) (value_at k (members_of b)) e (there k))

pub closed_of : (d : Side) (n : ℕ) (s : Shape) (l : Level) → Stands d n s l → IsClosedObject s
closed_of d n s (level cs is) h = h.0
