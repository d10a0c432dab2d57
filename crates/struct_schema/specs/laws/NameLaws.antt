-- Names in an object and in a map of schemas.
use Rattle.std.proofs.Common.{◌≡◌, ℕ, List, [], ◌∷◌, Bool, true, false, ◌&&◌, cond, Some, None, Less, nat_cmp, refl, ap, sym, subst, ◌∙◌}
use Rattle.std.specs.Prelude.{is_some, ◌||◌}
use Rattle.std.specs.Ordering.{is_eq, ordering_reverse}
use Rattle.std.specs.Cmp.Lexicographic.{slice_cmp}
use Rattle.std.specs.Map.{keys_of}
use Rattle.std.proofs.lemmas.Cmp.{nat_list_cmp_total}
use Rattle.std.proofs.lemmas.Slice.Eq.{bytes_eq-Decides}
use Rattle.std.proofs.lemmas.Map.Text.{is_eq-slice_cmp}
use Rattle.kj_value.specs.Json.{Json, Members, no_members, member}
use Rattle.kj_value.specs.Sound.{ComesFirst, AreRising}
use Rattle.kj_value.specs.Fields.{IsBelowFirst, AreInOrder}
use Rattle.struct_schema.specs.Shape.{Shape, shapes_of, MaybeShapes, some_map, MaybeShape, some_shape}
use Rattle.struct_schema.specs.Names.{is_name, value_at, shape_named, property}
use Rattle.struct_schema.specs.Stays.{each_default, no_default, lacks_default}

pub one_name : (k l : List ℕ) → is_name k l ≡ true → k ≡ l
one_name k l h = (bytes_eq-Decides k l).0 (sym (is_eq-slice_cmp k l) ∙ h)

pub own_name : (k : List ℕ) → is_name k k ≡ true
own_name k = is_eq-slice_cmp k k ∙ (bytes_eq-Decides k k).1 refl

-- a name is none that comes before it
pub other_name : (k n : List ℕ) → slice_cmp nat_cmp k n ≡ Less → is_name n k ≡ false
other_name k n p = ap is_eq (nat_list_cmp_total.antisymm n k ∙ ap ordering_reverse p)

-- a name that comes before all is none of them
pub gone : (k : List ℕ) (ms : Members) → ComesFirst k ms → AreRising ms → value_at k ms ≡ None
gone k no_members p h = refl
gone k (member l j ms) p h = by_test (is_name k l) refl (λ q r. gone k ms (past ms q) r)
  where
    past : (ns : Members) → ComesFirst l ns → ComesFirst k ns
    past no_members q = tt
    past (member m x ns) q = nat_list_cmp_total.trans k l m p q

    by_test : (b : Bool) → is_name k l ≡ b → (ComesFirst l ms → AreRising ms → value_at k ms ≡ None) → cond b (Some j) (value_at k ms) ≡ None
    by_test true q later =
        let other : is_name k l ≡ false = ap is_eq p in
        absurd (cc)
    by_test false q later = later h.0 h.2

pub below_found : (k : List ℕ) (ms : Members) (n : List ℕ) (v : Json) → ComesFirst k ms → AreRising ms → value_at n ms ≡ Some v → slice_cmp nat_cmp k n ≡ Less
below_found k no_members n v p h e = absurd (cc)
below_found k (member l j ms) n v p h e = by_test (is_name n l) refl e (λ q. below_found l ms n v h.0 h.2 q)
  where
    by_test : (b : Bool) → is_name n l ≡ b → cond b (Some j) (value_at n ms) ≡ Some v → (value_at n ms ≡ Some v → slice_cmp nat_cmp l n ≡ Less) → slice_cmp nat_cmp k n ≡ Less
    by_test true q f later = subst (λ (m : List ℕ). slice_cmp nat_cmp k m ≡ Less) (sym (one_name n l q)) p
    by_test false q f later = nat_list_cmp_total.trans k l n p (later f)

pub below_shape : (k : List ℕ) (es : List (List ℕ × Shape)) (n : List ℕ) (t : Shape) → IsBelowFirst k (keys_of es) → AreInOrder es → shape_named n (shapes_of es) ≡ some_shape t → slice_cmp nat_cmp k n ≡ Less
below_shape k [] n t p h e = absurd (cc)
below_shape k (f ∷ es) n t p h e = by_test (is_name n f.0) refl e (λ q. below_shape f.0 es n t h.0 h.1 q)
  where
    by_test : (b : Bool) → is_name n f.0 ≡ b → cond b (some_shape f.1) (shape_named n (shapes_of es)) ≡ some_shape t → (shape_named n (shapes_of es) ≡ some_shape t → slice_cmp nat_cmp f.0 n ≡ Less) → slice_cmp nat_cmp k n ≡ Less
    by_test true q g later = subst (λ (m : List ℕ). slice_cmp nat_cmp k m ≡ Less) (sym (one_name n f.0 q)) p
    by_test false q g later = nat_list_cmp_total.trans k f.0 n p (later g)

-- the schema beside a name is the one that is looked up
each_is : (ps : MaybeShapes) (es : List (List ℕ × Shape)) (ms : Members) → AreInOrder es → ((n : List ℕ) (t : Shape) → shape_named n (shapes_of es) ≡ some_shape t → property n ps ≡ some_shape t) → each_default (shapes_of es) ms ≡ no_default ps (shapes_of es) ms
each_is ps [] ms h found = refl
each_is ps (e ∷ es) ms h found =
    let here : property e.0 ps ≡ some_shape e.1 = found e.0 e.1 (ap (λ (b : Bool). cond b (some_shape e.1) (shape_named e.0 (shapes_of es))) (own_name e.0)) in
    let later : each_default (shapes_of es) ms ≡ no_default ps (shapes_of es) ms = each_is ps es ms h.1 (λ n t q. found n t (ap (λ (b : Bool). cond b (some_shape e.1) (shape_named n (shapes_of es))) (other_name e.0 n (below_shape e.0 es n t h.0 h.1 q)) ∙ q)) in
    ap (λ (m : MaybeShape). (is_some (value_at e.0 ms) || lacks_default m) && each_default (shapes_of es) ms) (sym here) ∙ ap (λ (b : Bool). (is_some (value_at e.0 ms) || lacks_default (property e.0 ps)) && b) later

pub each_default-is : (es : List (List ℕ × Shape)) (ms : Members) → AreInOrder es → each_default (shapes_of es) ms ≡ no_default (some_map (shapes_of es)) (shapes_of es) ms
each_default-is es ms h = each_is (some_map (shapes_of es)) es ms h (λ n t q. q)
