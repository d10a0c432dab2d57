-- For private clauses: whether two shapes are the same, by cases.
use Rattle.std.specs.Prelude.{ℤ, List, [], ◌∷◌, Bool, true, false, ◌&&◌, ◌==◌, Option}
use Rattle.std.specs.Bool.{beq}
use Rattle.std.specs.Option.{option_eq}
use Rattle.std.specs.Ordering.{int_eq}
use Rattle.std.specs.Str.{bytes_eq}
use Rattle.kj_value.specs.Json.{Json, items_of}
use Rattle.kj_value.specs.Same.{json_same, items_same}
use Rattle.struct_schema.specs.KindLaws.{kind_number, format_number}
use Rattle.struct_schema.specs.declared.kind.IntFormat.{IntFormat}
use Rattle.struct_schema.specs.Shape.{Own, Shape, shape, Shapes, no_shapes, shape_at, MaybeShapes, no_map, some_map, MaybeShape, no_shape, some_shape}

abbrev pub all_same : {A : Type 0} → (A → A → Bool) → List A → List A → Bool
all_same E [] [] = true
all_same E [] (y ∷ ys) = false
all_same E (x ∷ xs) [] = false
all_same E (x ∷ xs) (y ∷ ys) = E x y && all_same E xs ys

abbrev pub kinds_same : Own → Own → Bool
kinds_same o p = (kind_number o.kind == kind_number p.kind) && beq o.preserve p.preserve && beq o.nullable p.nullable

abbrev pub same_bound : Option ℤ → Option ℤ → Bool
same_bound a b = option_eq int_eq a b

abbrev pub bounds_same : Own → Own → Bool
bounds_same o p =
    same_bound o.minimum p.minimum && same_bound o.maximum p.maximum && same_bound o.min_length p.min_length && same_bound o.max_length p.max_length && same_bound o.min_items p.min_items && same_bound o.max_items p.max_items

abbrev pub same_format : Option IntFormat → Option IntFormat → Bool
same_format a b = option_eq (λ f g. format_number f == format_number g) a b

abbrev pub same_choices : Option (List Json) → Option (List Json) → Bool
same_choices a b = option_eq (λ xs ys. items_same (items_of xs) (items_of ys)) a b

abbrev pub same_default : Option Json → Option Json → Bool
same_default a b = option_eq json_same a b

abbrev pub lists_same : Own → Own → Bool
lists_same o p =
    same_format o.format p.format && same_choices o.choices p.choices && all_same bytes_eq o.required p.required

-- every keyword but `default`
abbrev pub keywords_same : Own → Own → Bool
keywords_same o p = kinds_same o p && bounds_same o p && lists_same o p

abbrev pub own_same : Own → Own → Bool
own_same o p = keywords_same o p && same_default o.default_value p.default_value

abbrev mutual
  pub shape_same : Shape → Shape → Bool
  shape_same (shape o ps a i) (shape p qs b j) = own_same o p && map_same ps qs && maybe_same a b && maybe_same i j

  pub shapes_same : Shapes → Shapes → Bool
  shapes_same no_shapes no_shapes = true
  shapes_same no_shapes (shape_at l t ts) = false
  shapes_same (shape_at k s ss) no_shapes = false
  shapes_same (shape_at k s ss) (shape_at l t ts) = bytes_eq k l && shape_same s t && shapes_same ss ts

  pub map_same : MaybeShapes → MaybeShapes → Bool
  map_same no_map no_map = true
  map_same no_map (some_map ts) = false
  map_same (some_map ss) no_map = false
  map_same (some_map ss) (some_map ts) = shapes_same ss ts

  pub maybe_same : MaybeShape → MaybeShape → Bool
  maybe_same no_shape no_shape = true
  maybe_same no_shape (some_shape t) = false
  maybe_same (some_shape s) no_shape = false
  maybe_same (some_shape s) (some_shape t) = shape_same s t
