-- How the logic stores a shape: as a tree of numbers, one for each shape.
use Rattle.std.specs.Prelude.{◌≡◌, ℕ, ℤ, List, Bool, Option, refl}
use Rattle.std.proofs.Common.{ap}
use Rattle.std.specs.Coded.{Coded, code_by, coded_ℕ, coded_ℤ, coded_bool, coded_list, coded_option, coded×}
use base.Stored.{Gv, gnil, gcons}
use Rattle.kj_value.specs.Json.{Json}
use Rattle.kj_value.specs.laws.JsonCode.{json_code, bytes_tree, bytes_back, bytes_back-bytes_tree}
use Rattle.std.proofs.Common.{sym, ◌∙◌}
use Rattle.struct_schema.specs.declared.kind.NodeKind.{NodeKind}
use Rattle.struct_schema.specs.declared.kind.IntFormat.{IntFormat}
use Rattle.struct_schema.specs.KindLaws.{kind_number, kind_back, kind_back-kind_number, format_number, format_back, format_back-format_number}
use Rattle.struct_schema.specs.Shape.{Own, Shape, shape, Shapes, no_shapes, shape_at, MaybeShapes, no_map, some_map, MaybeShape, no_shape, some_shape}

abbrev pub kind_code : Coded NodeKind
kind_code = code_by ℕ coded_ℕ kind_number kind_back kind_back-kind_number

abbrev pub format_code : Coded IntFormat
format_code = code_by ℕ coded_ℕ format_number format_back format_back-format_number

-- the keywords one inside the other, as pairs
abbrev Limits : Type 0
Limits = Option ℤ × (Option ℤ × (Option ℤ × (Option ℤ × (Option ℤ × Option ℤ))))

abbrev Rest : Type 0
Rest = Option IntFormat × (List (List ℕ) × Option Json)

abbrev Tuple : Type 0
Tuple = NodeKind × (Bool × (Bool × (Option (List Json) × (Limits × Rest))))

abbrev limits_code : Coded Limits
limits_code =
    let z : Coded (Option ℤ) = coded_option coded_ℤ in
    coded× z (coded× z (coded× z (coded× z (coded× z z))))

abbrev rest_code : Coded Rest
rest_code =
    coded× (coded_option format_code) (coded× (coded_list (coded_list coded_ℕ)) (coded_option json_code))

abbrev tuple_code : Coded Tuple
tuple_code =
    coded× kind_code (coded× coded_bool (coded× coded_bool (coded× (coded_option (coded_list json_code)) (coded× limits_code rest_code))))

abbrev to_tuple : Own → Tuple
to_tuple o =
    (o.kind, (o.preserve, (o.nullable, (o.choices, ((o.minimum, (o.maximum, (o.min_length, (o.max_length, (o.min_items, o.max_items))))), (o.format, (o.required, o.default_value)))))))

abbrev of_tuple : Tuple → Own
of_tuple t = record {
  kind = t.0;
  preserve = t.1.0;
  nullable = t.1.1.0;
  choices = t.1.1.1.0;
  minimum = t.1.1.1.1.0.0;
  maximum = t.1.1.1.1.0.1.0;
  format = t.1.1.1.1.1.0;
  min_length = t.1.1.1.1.0.1.1.0;
  max_length = t.1.1.1.1.0.1.1.1.0;
  min_items = t.1.1.1.1.0.1.1.1.1.0;
  max_items = t.1.1.1.1.0.1.1.1.1.1;
  required = t.1.1.1.1.1.1.0;
  default_value = t.1.1.1.1.1.1.1;
}

abbrev pub own_code : Coded Own
own_code = code_by Tuple tuple_code to_tuple of_tuple (λ _. refl)

abbrev mutual
  pub shape_tree : Shape → Gv
  shape_tree (shape o ps a i) = gcons (own_code.code o) (gcons (map_tree ps) (gcons (maybe_tree a) (maybe_tree i)))

  pub shapes_tree : Shapes → Gv
  shapes_tree no_shapes = gnil
  shapes_tree (shape_at k s ss) = gcons (gcons (bytes_tree k) (shape_tree s)) (shapes_tree ss)

  pub map_tree : MaybeShapes → Gv
  map_tree no_map = gnil
  map_tree (some_map ss) = gcons (shapes_tree ss) gnil

  pub maybe_tree : MaybeShape → Gv
  maybe_tree no_shape = gnil
  maybe_tree (some_shape s) = gcons (shape_tree s) gnil

-- ---- a tree is that of one shape

left : (a b c d : Gv) → gcons a b ≡ gcons c d → a ≡ c
left a b c d e = cc

right : (a b c d : Gv) → gcons a b ≡ gcons c d → b ≡ d
right a b c d e = cc

bytes_inj : (k l : List ℕ) → bytes_tree k ≡ bytes_tree l → k ≡ l
bytes_inj k l e = sym (bytes_back-bytes_tree k) ∙ ap bytes_back e ∙ bytes_back-bytes_tree l

mutual
  pub shape_inj : (s t : Shape) → shape_tree s ≡ shape_tree t → s ≡ t
  shape_inj (shape o ps a i) (shape p qs b j) e =
      let e1 = right (own_code.code o) (gcons (map_tree ps) (gcons (maybe_tree a) (maybe_tree i))) (own_code.code p) (gcons (map_tree qs) (gcons (maybe_tree b) (maybe_tree j))) e in
      let e2 = right (map_tree ps) (gcons (maybe_tree a) (maybe_tree i)) (map_tree qs) (gcons (maybe_tree b) (maybe_tree j)) e1 in
      let own_is : o ≡ p = own_code.inj o p (left (own_code.code o) _ (own_code.code p) _ e) in
      let map_is : ps ≡ qs = map_inj ps qs (left (map_tree ps) _ (map_tree qs) _ e1) in
      let additional_is : a ≡ b = maybe_inj a b (left (maybe_tree a) _ (maybe_tree b) _ e2) in
      let items_is : i ≡ j = maybe_inj i j (right (maybe_tree a) _ (maybe_tree b) _ e2) in
      cc (own_is, map_is, additional_is, items_is)

  pub shapes_inj : (ss ts : Shapes) → shapes_tree ss ≡ shapes_tree ts → ss ≡ ts
  shapes_inj no_shapes no_shapes e = refl
  shapes_inj no_shapes (shape_at l t ts) e = absurd (cc)
  shapes_inj (shape_at k s ss) no_shapes e = absurd (cc)
  shapes_inj (shape_at k s ss) (shape_at l t ts) e =
      let e1 = left (gcons (bytes_tree k) (shape_tree s)) (shapes_tree ss) (gcons (bytes_tree l) (shape_tree t)) (shapes_tree ts) e in
      let name_is : k ≡ l = bytes_inj k l (left (bytes_tree k) (shape_tree s) (bytes_tree l) (shape_tree t) e1) in
      let shape_is : s ≡ t = shape_inj s t (right (bytes_tree k) (shape_tree s) (bytes_tree l) (shape_tree t) e1) in
      let rest_is : ss ≡ ts = shapes_inj ss ts (right (gcons (bytes_tree k) (shape_tree s)) (shapes_tree ss) (gcons (bytes_tree l) (shape_tree t)) (shapes_tree ts) e) in
      cc (name_is, shape_is, rest_is)

  pub map_inj : (m n : MaybeShapes) → map_tree m ≡ map_tree n → m ≡ n
  map_inj no_map no_map e = refl
  map_inj no_map (some_map ts) e = absurd (cc)
  map_inj (some_map ss) no_map e = absurd (cc)
  map_inj (some_map ss) (some_map ts) e =
      ap some_map (shapes_inj ss ts (left (shapes_tree ss) gnil (shapes_tree ts) gnil e))

  pub maybe_inj : (m n : MaybeShape) → maybe_tree m ≡ maybe_tree n → m ≡ n
  maybe_inj no_shape no_shape e = refl
  maybe_inj no_shape (some_shape t) e = absurd (cc)
  maybe_inj (some_shape s) no_shape e = absurd (cc)
  maybe_inj (some_shape s) (some_shape t) e =
      ap some_shape (shape_inj s t (left (shape_tree s) gnil (shape_tree t) gnil e))

abbrev pub shape_code : Coded Shape
shape_code = record { code = shape_tree; inj = shape_inj }
