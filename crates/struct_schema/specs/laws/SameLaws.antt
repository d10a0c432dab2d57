-- That the test by cases tells the same shapes from others.
use Rattle.std.proofs.Common.{◌≡◌, ℕ, ℤ, List, [], ◌∷◌, length, map, Bool, true, false, ◌&&◌, Decides, Option, Some, None, refl, ap, sym, ◌∙◌, arith}
use Rattle.std.specs.Prelude.{◌==◌}
use Rattle.std.specs.Bool.{beq}
use Rattle.std.specs.Cmp.{booleans_Decides, signed_Decides}
use Rattle.std.specs.Option.{option_eq}
use Rattle.std.specs.Ordering.{int_eq}
use Rattle.std.specs.Str.{bytes_eq}
use Rattle.std.proofs.lemmas.Bool.Decides.{Decides-eqb}
use Rattle.std.proofs.lemmas.Slice.Eq.{bytes_eq-Decides}
use Rattle.kj_value.specs.Json.{Json, items_of}
use Rattle.kj_value.specs.Same.{json_same, items_same}
use Rattle.kj_value.specs.laws.SameLaws.{json_same-Decides, items_same-Decides}
use Rattle.struct_schema.specs.KindLaws.{kind_number, kind_back, kind_back-kind_number, format_number, format_back, format_back-format_number}
use Rattle.struct_schema.specs.declared.kind.NodeKind.{NodeKind}
use Rattle.struct_schema.specs.declared.kind.IntFormat.{IntFormat}
use Rattle.struct_schema.specs.Shape.{Own, Shape, shape, Shapes, no_shapes, shape_at, MaybeShapes, no_map, some_map, MaybeShape, no_shape, some_shape, shapes_of}
use Rattle.struct_schema.specs.ShapeOf.{named_shape}
use Rattle.struct_schema.specs.declared.schema.SchemaField.{SchemaField}
use Rattle.struct_schema.specs.ShapeSame.{all_same, kinds_same, same_bound, bounds_same, same_format, same_choices, same_default, lists_same, keywords_same, own_same, shape_same, shapes_same, map_same, maybe_same}

both_true : (a b : Bool) → (a && b) ≡ true → (a ≡ true) × (b ≡ true)
both_true true b h = (refl, h)
both_true false b h = absurd (cc)

and_true : (a b : Bool) → a ≡ true → b ≡ true → (a && b) ≡ true
and_true true b h k = k
and_true false b h k = absurd (cc)

-- ---- values that are one are the same

option_refl : {A : Type 0} (E : A → A → Bool) → ((x : A) → E x x ≡ true) → (o : Option A) → option_eq E o o ≡ true
option_refl E h None = refl
option_refl E h (Some x) = h x

option_is : {A : Type 0} (E : A → A → Bool) → ((x y : A) → E x y ≡ true → x ≡ y) → (o p : Option A) → option_eq E o p ≡ true → o ≡ p
option_is E h None None e = refl
option_is E h None (Some y) e = absurd (cc)
option_is E h (Some x) None e = absurd (cc)
option_is E h (Some x) (Some y) e = ap Some (h x y e)

all_refl : {A : Type 0} (E : A → A → Bool) → ((x : A) → E x x ≡ true) → (xs : List A) → all_same E xs xs ≡ true
all_refl E h [] = refl
all_refl E h (x ∷ xs) = and_true (E x x) (all_same E xs xs) (h x) (all_refl E h xs)

all_is : {A : Type 0} (E : A → A → Bool) → ((x y : A) → E x y ≡ true → x ≡ y) → (xs ys : List A) → all_same E xs ys ≡ true → xs ≡ ys
all_is E h [] [] e = refl
all_is E h [] (y ∷ ys) e = absurd (cc)
all_is E h (x ∷ xs) [] e = absurd (cc)
all_is E h (x ∷ xs) (y ∷ ys) e =
    let p = both_true (E x y) (all_same E xs ys) e in
    cc (h x y p.0, all_is E h xs ys p.1)

kind_is : (k l : NodeKind) → (kind_number k == kind_number l) ≡ true → k ≡ l
kind_is k l e =
    sym (kind_back-kind_number k) ∙ ap kind_back ((Decides-eqb (kind_number k) (kind_number l)).0 e) ∙ kind_back-kind_number l

format_is : (f g : IntFormat) → (format_number f == format_number g) ≡ true → f ≡ g
format_is f g e =
    sym (format_back-format_number f) ∙ ap format_back ((Decides-eqb (format_number f) (format_number g)).0 e) ∙ format_back-format_number g

bound_is : (a b : Option ℤ) → same_bound a b ≡ true → a ≡ b
bound_is a b e = option_is int_eq (λ x y q. (signed_Decides x y).0 q) a b e

bound_refl : (a : Option ℤ) → same_bound a a ≡ true
bound_refl a = option_refl int_eq (λ x. (signed_Decides x x).1 refl) a

format_option_is : (a b : Option IntFormat) → same_format a b ≡ true → a ≡ b
format_option_is a b e = option_is (λ f g. format_number f == format_number g) format_is a b e

choices_is : (a b : Option (List Json)) → same_choices a b ≡ true → a ≡ b
choices_is a b e =
    option_is (λ xs ys. items_same (items_of xs) (items_of ys)) (λ xs ys q. (items_same-Decides xs ys).0 q) a b e

names_is : (a b : List (List ℕ)) → all_same bytes_eq a b ≡ true → a ≡ b
names_is a b e = all_is bytes_eq (λ x y q. (bytes_eq-Decides x y).0 q) a b e

default_is : (a b : Option Json) → same_default a b ≡ true → a ≡ b
default_is a b e = option_is json_same (λ x y q. (json_same-Decides x y).0 q) a b e

-- ---- keywords

kinds_refl : (o : Own) → kinds_same o o ≡ true
kinds_refl o =
    and_true _ _ (and_true _ _ ((Decides-eqb (kind_number o.kind) (kind_number o.kind)).1 refl) ((booleans_Decides o.preserve o.preserve).1 refl)) ((booleans_Decides o.nullable o.nullable).1 refl)

bounds_refl : (o : Own) → bounds_same o o ≡ true
bounds_refl o =
    and_true _ _ (and_true _ _ (and_true _ _ (and_true _ _ (and_true _ _ (bound_refl o.minimum) (bound_refl o.maximum)) (bound_refl o.min_length)) (bound_refl o.max_length)) (bound_refl o.min_items)) (bound_refl o.max_items)

lists_refl : (o : Own) → lists_same o o ≡ true
lists_refl o =
    and_true _ _ (and_true _ _ (option_refl (λ f g. format_number f == format_number g) (λ f. (Decides-eqb (format_number f) (format_number f)).1 refl) o.format) (option_refl (λ xs ys. items_same (items_of xs) (items_of ys)) (λ xs. (items_same-Decides xs xs).1 refl) o.choices)) (all_refl bytes_eq (λ x. (bytes_eq-Decides x x).1 refl) o.required)

keywords_refl : (o : Own) → keywords_same o o ≡ true
keywords_refl o = and_true _ _ (and_true _ _ (kinds_refl o) (bounds_refl o)) (lists_refl o)

own_refl : (o : Own) → own_same o o ≡ true
own_refl o =
    and_true _ _ (keywords_refl o) (option_refl json_same (λ x. (json_same-Decides x x).1 refl) o.default_value)

record KindsAre (o p : Own) : Type 0 where
  kind : o.kind ≡ p.kind
  preserve : o.preserve ≡ p.preserve
  nullable : o.nullable ≡ p.nullable

kinds_are : (o p : Own) → kinds_same o p ≡ true → KindsAre o p
kinds_are o p h =
    let q = both_true ((kind_number o.kind == kind_number p.kind) && beq o.preserve p.preserve) (beq o.nullable p.nullable) h in
    let r = both_true (kind_number o.kind == kind_number p.kind) (beq o.preserve p.preserve) q.0 in
    record {
      kind = kind_is o.kind p.kind r.0;
      preserve = (booleans_Decides o.preserve p.preserve).0 r.1;
      nullable = (booleans_Decides o.nullable p.nullable).0 q.1;
    }

record BoundsAre (o p : Own) : Type 0 where
  minimum : o.minimum ≡ p.minimum
  maximum : o.maximum ≡ p.maximum
  min_length : o.min_length ≡ p.min_length
  max_length : o.max_length ≡ p.max_length
  min_items : o.min_items ≡ p.min_items
  max_items : o.max_items ≡ p.max_items

bounds_are : (o p : Own) → bounds_same o p ≡ true → BoundsAre o p
bounds_are o p h =
    let a = same_bound o.minimum p.minimum in
    let b = same_bound o.maximum p.maximum in
    let c = same_bound o.min_length p.min_length in
    let d = same_bound o.max_length p.max_length in
    let e = same_bound o.min_items p.min_items in
    let f = same_bound o.max_items p.max_items in
    let h5 = both_true (a && b && c && d && e) f h in
    let h4 = both_true (a && b && c && d) e h5.0 in
    let h3 = both_true (a && b && c) d h4.0 in
    let h2 = both_true (a && b) c h3.0 in
    let h1 = both_true a b h2.0 in
    record {
      minimum = bound_is o.minimum p.minimum h1.0;
      maximum = bound_is o.maximum p.maximum h1.1;
      min_length = bound_is o.min_length p.min_length h2.1;
      max_length = bound_is o.max_length p.max_length h3.1;
      min_items = bound_is o.min_items p.min_items h4.1;
      max_items = bound_is o.max_items p.max_items h5.1;
    }

record ListsAre (o p : Own) : Type 0 where
  format : o.format ≡ p.format
  choices : o.choices ≡ p.choices
  required : o.required ≡ p.required

lists_are : (o p : Own) → lists_same o p ≡ true → ListsAre o p
lists_are o p h =
    let a = same_format o.format p.format in
    let b = same_choices o.choices p.choices in
    let c = all_same bytes_eq o.required p.required in
    let h2 = both_true (a && b) c h in
    let h1 = both_true a b h2.0 in
    record {
      format = format_option_is o.format p.format h1.0;
      choices = choices_is o.choices p.choices h1.1;
      required = names_is o.required p.required h2.1;
    }

joined : (o p : Own) → KindsAre o p → BoundsAre o p → ListsAre o p → o.default_value ≡ p.default_value → o ≡ p
joined o p k b r d = λ i. record {
  kind = k.kind i;
  preserve = k.preserve i;
  nullable = k.nullable i;
  choices = r.choices i;
  minimum = b.minimum i;
  maximum = b.maximum i;
  format = r.format i;
  min_length = b.min_length i;
  max_length = b.max_length i;
  min_items = b.min_items i;
  max_items = b.max_items i;
  required = r.required i;
  default_value = d i;
}

own_is : (o p : Own) → own_same o p ≡ true → o ≡ p
own_is o p h =
    let s = both_true (keywords_same o p) (same_default o.default_value p.default_value) h in
    let q = both_true (kinds_same o p && bounds_same o p) (lists_same o p) s.0 in
    let r = both_true (kinds_same o p) (bounds_same o p) q.0 in
    joined o p (kinds_are o p r.0) (bounds_are o p r.1) (lists_are o p q.1) (default_is o.default_value p.default_value s.1)

-- ---- shapes

mutual
  shape_is : (s t : Shape) → shape_same s t ≡ true → s ≡ t
  shape_is (shape o ps a i) (shape p qs b j) h =
      let h3 = both_true (own_same o p && map_same ps qs && maybe_same a b) (maybe_same i j) h in
      let h2 = both_true (own_same o p && map_same ps qs) (maybe_same a b) h3.0 in
      let h1 = both_true (own_same o p) (map_same ps qs) h2.0 in
      cc (own_is o p h1.0, map_is ps qs h1.1, maybe_is a b h2.1, maybe_is i j h3.1)

  shapes_is : (ss ts : Shapes) → shapes_same ss ts ≡ true → ss ≡ ts
  shapes_is no_shapes no_shapes h = refl
  shapes_is no_shapes (shape_at l t ts) h = absurd (cc)
  shapes_is (shape_at k s ss) no_shapes h = absurd (cc)
  shapes_is (shape_at k s ss) (shape_at l t ts) h =
      let h2 = both_true (bytes_eq k l && shape_same s t) (shapes_same ss ts) h in
      let h1 = both_true (bytes_eq k l) (shape_same s t) h2.0 in
      cc ((bytes_eq-Decides k l).0 h1.0, shape_is s t h1.1, shapes_is ss ts h2.1)

  map_is : (m n : MaybeShapes) → map_same m n ≡ true → m ≡ n
  map_is no_map no_map h = refl
  map_is no_map (some_map ts) h = absurd (cc)
  map_is (some_map ss) no_map h = absurd (cc)
  map_is (some_map ss) (some_map ts) h = ap some_map (shapes_is ss ts h)

  maybe_is : (m n : MaybeShape) → maybe_same m n ≡ true → m ≡ n
  maybe_is no_shape no_shape h = refl
  maybe_is no_shape (some_shape t) h = absurd (cc)
  maybe_is (some_shape s) no_shape h = absurd (cc)
  maybe_is (some_shape s) (some_shape t) h = ap some_shape (shape_is s t h)

mutual
  shape_refl : (s : Shape) → shape_same s s ≡ true
  shape_refl (shape o ps a i) =
      and_true _ _ (and_true _ _ (and_true _ _ (own_refl o) (map_refl ps)) (maybe_refl a)) (maybe_refl i)

  shapes_refl : (ss : Shapes) → shapes_same ss ss ≡ true
  shapes_refl no_shapes = refl
  shapes_refl (shape_at k s ss) =
      and_true _ _ (and_true _ _ ((bytes_eq-Decides k k).1 refl) (shape_refl s)) (shapes_refl ss)

  map_refl : (m : MaybeShapes) → map_same m m ≡ true
  map_refl no_map = refl
  map_refl (some_map ss) = shapes_refl ss

  maybe_refl : (m : MaybeShape) → maybe_same m m ≡ true
  maybe_refl no_shape = refl
  maybe_refl (some_shape s) = shape_refl s

pub shape_same-Decides : (s t : Shape) → Decides (shape_same s t) (s ≡ t)
shape_same-Decides s t = (shape_is s t, λ e. rw (← e) (shape_refl s))

-- ---- lists of other lengths differ

and_false : (a b : Bool) → b ≡ false → false ≡ (a && b)
and_false true b h = sym h
and_false false b h = refl

pub lists_differ : {A B : Type 0} (E : B → B → Bool) (f : A → B) (xs ys : List A) → (length xs ≡ length ys → ⊥) → false ≡ all_same E (map f xs) (map f ys)
lists_differ E f [] [] h = absurd (h refl)
lists_differ E f [] (y ∷ ys) h = refl
lists_differ E f (x ∷ xs) [] h = refl
lists_differ E f (x ∷ xs) (y ∷ ys) h =
    and_false _ _ (sym (lists_differ E f xs ys (λ e. h (omega (arith, e)))))

pub maps_differ : (xs ys : List SchemaField) → (length xs ≡ length ys → ⊥) → false ≡ shapes_same (shapes_of (map named_shape xs)) (shapes_of (map named_shape ys))
maps_differ [] [] h = absurd (h refl)
maps_differ [] (y ∷ ys) h = refl
maps_differ (x ∷ xs) [] h = refl
maps_differ (x ∷ xs) (y ∷ ys) h = and_false _ _ (sym (maps_differ xs ys (λ e. h (omega (arith, e)))))
