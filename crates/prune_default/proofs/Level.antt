-- What a level of a value becomes, part by part.
use Rattle.std.proofs.Common.{◌≡◌, ℕ, List, [], ◌∷◌, ◌++◌, Bool, true, false, cond, Option, Some, None, refl, ap, sym, subst, ◌∙◌}
use Rattle.std.specs.Prelude.{MatchBool, IsSomeAnd}
use Rattle.kj_value.specs.Json.{Json, Items, no_items, item, items_of, members_of}
use Rattle.kj_value.specs.Fields.{Pairs, with_field}
use Rattle.struct_schema.specs.Shape.{Own, Shape, own, Shapes, no_shapes, shape_at, MaybeShapes, no_map, some_map, MaybeShape, no_shape, some_shape}
use Rattle.struct_schema.specs.Names.{is_name, value_at, shape_named, property, or_shape, shape_for}
use Rattle.struct_schema.specs.Filled.{is_forbidden, PresentFilled, PropertyFilled, EachItem, Filled, NameFilled, NamedFilled, RestFilled, ItemFilled}
use Rattle.struct_schema.specs.laws.NameLaws.{one_name}
use Rattle.prune_default.specs.inner.Missing.{or_value, default_of}
use Rattle.prune_default.proofs.Lookup.{value_at-with}
use Rattle.prune_default.proofs.Missing.{or_none}

-- ---- the filling of a name, with the schema at the name looked up

abbrev pub By : MaybeShape → (Option Json → Option Json → Type 0) → Option Json → Option Json → Type 0
By no_shape R v w = R v w
By (some_shape t) R v w = PropertyFilled (own t) (λ x y. Filled t x y) v w

to_named : (ss : Shapes) (R : Option Json → Option Json → Type 0) (n : List ℕ) (v w : Option Json) → By (shape_named n ss) R v w → NamedFilled ss R n v w
to_named no_shapes R n v w h = h
to_named (shape_at l s ss) R n v w h = by_test (is_name n l) h (λ k. to_named ss R n v w k)
  where
    by_test : (b : Bool) → By (cond b (some_shape s) (shape_named n ss)) R v w → (By (shape_named n ss) R v w → NamedFilled ss R n v w) → MatchBool b (PropertyFilled (own s) (λ x y. Filled s x y) v w) (NamedFilled ss R n v w)
    by_test true g later = g
    by_test false g later = later g

of_named : (ss : Shapes) (R : Option Json → Option Json → Type 0) (n : List ℕ) (v w : Option Json) → NamedFilled ss R n v w → By (shape_named n ss) R v w
of_named no_shapes R n v w h = h
of_named (shape_at l s ss) R n v w h = by_test (is_name n l) h (λ k. of_named ss R n v w k)
  where
    by_test : (b : Bool) → MatchBool b (PropertyFilled (own s) (λ x y. Filled s x y) v w) (NamedFilled ss R n v w) → (NamedFilled ss R n v w → By (shape_named n ss) R v w) → By (cond b (some_shape s) (shape_named n ss)) R v w
    by_test true g later = g
    by_test false g later = later g

pub to_name : (ps : MaybeShapes) (R : Option Json → Option Json → Type 0) (n : List ℕ) (v w : Option Json) → By (property n ps) R v w → NameFilled ps R n v w
to_name no_map R n v w h = h
to_name (some_map ss) R n v w h = to_named ss R n v w h

pub of_name : (ps : MaybeShapes) (R : Option Json → Option Json → Type 0) (n : List ℕ) (v w : Option Json) → NameFilled ps R n v w → By (property n ps) R v w
of_name no_map R n v w h = h
of_name (some_map ss) R n v w h = of_named ss R n v w h

-- ---- an object: what is there is filled, and then what isn't there is set

or_same : (d : Option Json) → or_value d d ≡ d
or_same None = refl
or_same (Some j) = refl

present_filled : (o : Own) (R : Json → Json → Type 0) (j : Json) (u : Option Json) → PresentFilled o R j u → PresentFilled o R j (or_value u o.default_value)
present_filled o R j u h = by_test (is_forbidden o j) h
  where
    kept : (x : Option Json) → IsSomeAnd x (λ k. R j k) → IsSomeAnd (or_value x o.default_value) (λ k. R j k)
    kept None q = absurd q
    kept (Some k) q = q

    by_test : (b : Bool) → MatchBool b (u ≡ o.default_value) (IsSomeAnd u (λ k. R j k)) → MatchBool b (or_value u o.default_value ≡ o.default_value) (IsSomeAnd (or_value u o.default_value) (λ k. R j k))
    by_test true e = ap (λ (x : Option Json). or_value x o.default_value) e ∙ or_same o.default_value
    by_test false q = kept u q

by_schema : (m a : MaybeShape) (preserve : Bool) (v u : Option Json) → RestFilled (or_shape m a) preserve v u → By m (λ x y. RestFilled a preserve x y) v (or_value u (default_of m))
by_schema no_shape a preserve v u h = subst (λ (w : Option Json). RestFilled a preserve v w) (sym (or_none u)) h
by_schema (some_shape t) a preserve None u h = ap (λ (x : Option Json). or_value x (own t).default_value) h
by_schema (some_shape t) a preserve (Some j) u h = present_filled (own t) (λ x y. Filled t x y) j u h

pub name_filled : (ps : MaybeShapes) (a : MaybeShape) (preserve : Bool) (n : List ℕ) (v u w : Option Json) → RestFilled (or_shape (property n ps) a) preserve v u → w ≡ or_value u (default_of (property n ps)) → NameFilled ps (λ x y. RestFilled a preserve x y) n v w
name_filled ps a preserve n v u w h e =
    to_name ps (λ x y. RestFilled a preserve x y) n v w (subst (λ (x : Option Json). By (property n ps) (λ y z. RestFilled a preserve y z) v x) (sym e) (by_schema (property n ps) a preserve v u h))

-- ---- a turn of the walk over the fields

pub rest_none : (m : MaybeShape) (preserve : Bool) → RestFilled m preserve None None
rest_none no_shape true = refl
rest_none no_shape false = refl
rest_none (some_shape t) preserve = refl

none_rest : (m : MaybeShape) (preserve : Bool) (w : Option Json) → RestFilled m preserve None w → w ≡ None
none_rest no_shape true w h = h
none_rest no_shape false w h = h
none_rest (some_shape t) preserve w h = h

pub rest_end : (m : MaybeShape) (preserve : Bool) (v : Option Json) → RestFilled m preserve v (or_value v None) → RestFilled m preserve v v
rest_end m preserve v h = subst (λ (w : Option Json). RestFilled m preserve v w) (or_none v) h

pub start : (m : MaybeShape) (preserve : Bool) (v w : Option Json) → RestFilled m preserve v w → RestFilled m preserve v (or_value w None)
start m preserve v w h = subst (λ (x : Option Json). RestFilled m preserve v x) (sym (or_none w)) h

-- what is left, and what was kept before and after the field (k, j), which became f
pub names_turn : (s : Shape) (preserve : Bool) (n k : List ℕ) (j : Json) (f : Option Json) (rest : Pairs) (all kept new w : Option Json)
    → ((x : Option Json) → RestFilled (shape_for s n) preserve (value_at n (members_of ((k, j) ∷ rest))) x → RestFilled (shape_for s n) preserve all (or_value x kept))
    → RestFilled (shape_for s k) preserve (Some j) f → value_at k (members_of rest) ≡ None → new ≡ cond (is_name n k) (or_value f kept) kept
    → RestFilled (shape_for s n) preserve (value_at n (members_of rest)) w → RestFilled (shape_for s n) preserve all (or_value w new)
names_turn s preserve n k j f rest all kept new w before here none is after = by_test (is_name n k) refl before is
  where
    by_test : (b : Bool) → is_name n k ≡ b → ((x : Option Json) → RestFilled (shape_for s n) preserve (cond b (Some j) (value_at n (members_of rest))) x → RestFilled (shape_for s n) preserve all (or_value x kept)) → new ≡ cond b (or_value f kept) kept
        → RestFilled (shape_for s n) preserve all (or_value w new)
    by_test true q known e =
        let same : k ≡ n = sym (one_name n k q) in
        let there : RestFilled (shape_for s n) preserve (Some j) f = subst (λ (m : List ℕ). RestFilled (shape_for s m) preserve (Some j) f) same here in
        let nothing : value_at n (members_of rest) ≡ None = subst (λ (m : List ℕ). value_at m (members_of rest) ≡ None) same none in
        let gone : w ≡ None = none_rest (shape_for s n) preserve w (subst (λ (v : Option Json). RestFilled (shape_for s n) preserve v w) nothing after) in
        let all_is : or_value f kept ≡ or_value w new = sym e ∙ ap (λ (x : Option Json). or_value x new) (sym gone) in
        subst (λ (x : Option Json). RestFilled (shape_for s n) preserve all x) all_is (known f there)
    by_test false q known e =
        subst (λ (x : Option Json). RestFilled (shape_for s n) preserve all (or_value w x)) (sym e) (known w after)

-- ---- items

pub each_push : (R : Json → Json → Type 0) (xs ys : List Json) (x y : Json) → EachItem R (items_of xs) (items_of ys) → R x y → EachItem R (items_of (xs ++ x ∷ [])) (items_of (ys ++ y ∷ []))
each_push R [] [] x y h p = (p, tt)
each_push R [] (k ∷ ys) x y h p = absurd h
each_push R (j ∷ xs) [] x y h p = absurd h
each_push R (j ∷ xs) (k ∷ ys) x y h p = (h.0, each_push R xs ys x y h.1 p)

pub each_same : (js : Items) → EachItem (λ x y. ItemFilled no_shape x y) js js
each_same no_items = tt
each_same (item j js) = (refl, each_same js)

-- ---- a value that is kept

cond_same : (b : Bool) (x : Option Json) → x ≡ cond b x x
cond_same true x = refl
cond_same false x = refl

pub kept_none : (n k : List ℕ) (v : Option Json) (es : Pairs) → v ≡ None → value_at n (members_of es) ≡ cond (is_name n k) (or_value v (value_at n (members_of es))) (value_at n (members_of es))
kept_none n k v es e =
    cond_same (is_name n k) (value_at n (members_of es)) ∙ ap (λ (x : Option Json). cond (is_name n k) (or_value x (value_at n (members_of es))) (value_at n (members_of es))) (sym e)

pub kept_some : (n k : List ℕ) (v : Option Json) (j : Json) (es fs : Pairs) → v ≡ Some j → fs ≡ with_field k j es → value_at n (members_of fs) ≡ cond (is_name n k) (or_value v (value_at n (members_of es))) (value_at n (members_of es))
kept_some n k v j es fs e set =
    ap (λ (x : Pairs). value_at n (members_of x)) set ∙ value_at-with n k j es ∙ ap (λ (x : Option Json). cond (is_name n k) (or_value x (value_at n (members_of es))) (value_at n (members_of es))) (sym e)
