-- What a value becomes where it is pruned and where defaults are set (Kubernetes, "Field pruning" and "Defaulting"): a
-- relation of two whole values, with no passes and no order in it.
use Rattle.std.specs.Prelude.{◌≡◌, ℕ, List, Bool, true, false, not, cond, Option, Some, None, unwrap_or, MatchBool, IsSomeAnd}
use Rattle.kj_value.specs.Json.{Json, null, boolean, whole, text, list, object, Items, no_items, item, Members}
use Rattle.struct_schema.specs.Shape.{Own, Shape, shape, own, Shapes, no_shapes, shape_at, MaybeShapes, no_map, some_map, MaybeShape, no_shape, some_shape}
use Rattle.struct_schema.specs.Names.{is_name, value_at}
use Rattle.struct_schema.specs.declared.kind.NodeKind.{NodeKind}
use Rattle.struct_schema.specs.declared.kind.NodeKind.TheVariants.{Object, Array, Text, Whole, Truth, IntOrText, Any}

abbrev pub is_object : NodeKind → Bool
is_object Object = true
is_object Array = false
is_object Text = false
is_object Whole = false
is_object Truth = false
is_object IntOrText = false
is_object Any = false

abbrev pub is_array : NodeKind → Bool
is_array Object = false
is_array Array = true
is_array Text = false
is_array Whole = false
is_array Truth = false
is_array IntOrText = false
is_array Any = false

-- a null that the node doesn't allow
abbrev pub is_forbidden : Own → Json → Bool
is_forbidden o null = not o.nullable
is_forbidden o (boolean b) = false
is_forbidden o (whole z) = false
is_forbidden o (text s) = false
is_forbidden o (list js) = false
is_forbidden o (object ms) = false

-- a value that is there, under a name that has a schema: filled by it, and a forbidden null is its default, or else not there
abbrev pub PresentFilled : Own → (Json → Json → Type 0) → Json → Option Json → Type 0
PresentFilled o R v w = MatchBool (is_forbidden o v) (w ≡ o.default_value) (IsSomeAnd w (λ k. R v k))

-- under a named property: what isn't there is the default, where there is one
abbrev pub PropertyFilled : Own → (Json → Json → Type 0) → Option Json → Option Json → Type 0
PropertyFilled o R None w = w ≡ o.default_value
PropertyFilled o R (Some v) w = PresentFilled o R v w

-- under `additionalProperties`: what isn't there stays away
abbrev pub OtherFilled : Own → (Json → Json → Type 0) → Option Json → Option Json → Type 0
OtherFilled o R None w = w ≡ None
OtherFilled o R (Some v) w = PresentFilled o R v w

-- an item: filled, and a forbidden null is the default of the items, or else null
abbrev pub ElementFilled : Own → (Json → Json → Type 0) → Json → Json → Type 0
ElementFilled o R v w = MatchBool (is_forbidden o v) (w ≡ unwrap_or o.default_value null) (R v w)

-- an object that is related at each name
abbrev pub AtEachName : (List ℕ → Option Json → Option Json → Type 0) → Members → Json → Type 0
AtEachName R ms null = ⊥
AtEachName R ms (boolean b) = ⊥
AtEachName R ms (whole z) = ⊥
AtEachName R ms (text s) = ⊥
AtEachName R ms (list ks) = ⊥
AtEachName R ms (object ns) = (n : List ℕ) → R n (value_at n ms) (value_at n ns)

-- as many items, each related
abbrev pub EachItem : (Json → Json → Type 0) → Items → Items → Type 0
EachItem R no_items no_items = Unit {0}
EachItem R no_items (item k ks) = ⊥
EachItem R (item j js) no_items = ⊥
EachItem R (item j js) (item k ks) = R j k × EachItem R js ks

abbrev pub AtEachItem : (Json → Json → Type 0) → Items → Json → Type 0
AtEachItem R js null = ⊥
AtEachItem R js (boolean b) = ⊥
AtEachItem R js (whole z) = ⊥
AtEachItem R js (text s) = ⊥
AtEachItem R js (list ks) = EachItem R js ks
AtEachItem R js (object ns) = ⊥

-- an object at an object's node name by name, a list at an array's node item by item; any other value stays
abbrev pub KindFilled : NodeKind → (List ℕ → Option Json → Option Json → Type 0) → (Json → Json → Type 0) → Json → Json → Type 0
KindFilled d N I null k = k ≡ null
KindFilled d N I (boolean b) k = k ≡ boolean b
KindFilled d N I (whole z) k = k ≡ whole z
KindFilled d N I (text s) k = k ≡ text s
KindFilled d N I (list js) k = MatchBool (is_array d) (AtEachItem I js k) (k ≡ list js)
KindFilled d N I (object ms) k = MatchBool (is_object d) (AtEachName N ms k) (k ≡ object ms)

abbrev mutual
  pub Filled : Shape → Json → Json → Type 0
  Filled (shape o ps a i) j k = KindFilled o.kind (NameFilled ps (RestFilled a o.preserve)) (ItemFilled i) j k

  -- a name of an object: by its property, where it is one, and else as the rest
  pub NameFilled : MaybeShapes → (Option Json → Option Json → Type 0) → List ℕ → Option Json → Option Json → Type 0
  NameFilled no_map R n v w = R v w
  NameFilled (some_map ss) R n v w = NamedFilled ss R n v w

  pub NamedFilled : Shapes → (Option Json → Option Json → Type 0) → List ℕ → Option Json → Option Json → Type 0
  NamedFilled no_shapes R n v w = R v w
  NamedFilled (shape_at l s ss) R n v w =
      MatchBool (is_name n l) (PropertyFilled (own s) (λ x y. Filled s x y) v w) (NamedFilled ss R n v w)

  -- the rest: by `additionalProperties`, and without it unchanged exactly where the node preserves
  pub RestFilled : MaybeShape → Bool → Option Json → Option Json → Type 0
  RestFilled no_shape preserve v w = w ≡ cond preserve v None
  RestFilled (some_shape s) preserve v w = OtherFilled (own s) (λ x y. Filled s x y) v w

  pub ItemFilled : MaybeShape → Json → Json → Type 0
  ItemFilled no_shape v w = w ≡ v
  ItemFilled (some_shape s) v w = ElementFilled (own s) (λ x y. Filled s x y) v w
