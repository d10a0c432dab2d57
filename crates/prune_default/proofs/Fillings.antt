-- That a value has one filling, and that it stays as it is.
use Rattle.std.proofs.Common.{◌≡◌, ℕ, List, Bool, true, false, cond, Option, Some, None, Ordering, Less, Equal, Greater, nat_cmp, refl, ap, sym, subst, ◌∙◌}
use Rattle.std.specs.Prelude.{MatchBool, IsSomeAnd, unwrap_or, not}
use Rattle.std.specs.Ordering.{is_eq, ordering_reverse}
use Rattle.std.specs.Cmp.Lexicographic.{slice_cmp}
use Rattle.std.proofs.lemmas.Cmp.{nat_list_cmp_total}
use Rattle.kj_value.specs.Json.{Json, null, boolean, whole, text, list, object, Items, no_items, item, Members, no_members, member}
use Rattle.kj_value.specs.Sound.{IsSoundJson, AreSoundItems, AreRising}
use Rattle.struct_schema.specs.Shape.{Own, Shape, shape, own, Shapes, no_shapes, shape_at, MaybeShapes, no_map, some_map, MaybeShape, no_shape, some_shape}
use Rattle.struct_schema.specs.Names.{is_name, value_at, shape_named, property}
use Rattle.struct_schema.specs.Filled.{is_object, is_array, is_forbidden, PresentFilled, PropertyFilled, OtherFilled, EachItem, AtEachItem, AtEachName, Filled, NameFilled, RestFilled, ItemFilled}
use Rattle.struct_schema.specs.OwnDefaults.{IsOwnFilling, HasOwnDefaults, InMap, InShapes, InMaybe}
use Rattle.struct_schema.specs.laws.NameLaws.{one_name, own_name, gone}
use Rattle.prune_default.proofs.Lookup.{sound_at}
use Rattle.prune_default.proofs.Level.{By, to_name, of_name}

-- ---- objects that have the same values at all names are one

rest_same : (k : List ℕ) (j : Json) (ms : Members) (l : List ℕ) (i : Json) (ns : Members) → k ≡ l → AreRising (member k j ms) → AreRising (member l i ns) → ((n : List ℕ) → value_at n (member k j ms) ≡ value_at n (member l i ns)) → (n : List ℕ) → value_at n ms ≡ value_at n ns
rest_same k j ms l i ns same p q h n = by_test (is_name n k) refl (h n)
  where
    by_test : (b : Bool) → is_name n k ≡ b → cond (is_name n k) (Some j) (value_at n ms) ≡ cond (is_name n l) (Some i) (value_at n ns) → value_at n ms ≡ value_at n ns
    by_test true r e =
        let first : n ≡ k = one_name n k r in
        let left : value_at n ms ≡ None = ap (λ (m : List ℕ). value_at m ms) first ∙ gone k ms p.0 p.2 in
        let right : value_at n ns ≡ None = ap (λ (m : List ℕ). value_at m ns) (first ∙ same) ∙ gone l ns q.0 q.2 in
        left ∙ sym right
    by_test false r e =
        let other : is_name n l ≡ false = ap (is_name n) (sym same) ∙ r in
        ap (λ (b : Bool). cond b (Some j) (value_at n ms)) (sym r) ∙ e ∙ ap (λ (b : Bool). cond b (Some i) (value_at n ns)) other

-- a first name that comes before all of the other object
never_first : (k : List ℕ) (j : Json) (ms : Members) (l : List ℕ) (i : Json) (ns : Members) → slice_cmp nat_cmp k l ≡ Less → AreRising (member l i ns) → value_at k (member k j ms) ≡ value_at k (member l i ns) → ⊥
never_first k j ms l i ns p q e =
    let here : value_at k (member k j ms) ≡ Some j = ap (λ (b : Bool). cond b (Some j) (value_at k ms)) (own_name k) in
    let there : value_at k (member l i ns) ≡ None = gone k (member l i ns) p q in
    cc

pub one_object : (ms ns : Members) → AreRising ms → AreRising ns → ((n : List ℕ) → value_at n ms ≡ value_at n ns) → ms ≡ ns
one_object no_members no_members p q h = refl
one_object no_members (member l i ns) p q h =
    let here : value_at l (member l i ns) ≡ Some i = ap (λ (b : Bool). cond b (Some i) (value_at l ns)) (own_name l) in
    let both = h l in
    absurd (cc)
one_object (member k j ms) no_members p q h =
    let here : value_at k (member k j ms) ≡ Some j = ap (λ (b : Bool). cond b (Some j) (value_at k ms)) (own_name k) in
    let both = h k in
    absurd (cc)
one_object (member k j ms) (member l i ns) p q h =
    by_order (slice_cmp nat_cmp k l) refl (λ e. one_object ms ns p.2 q.2 (rest_same k j ms l i ns e p q h))
  where
    by_order : (o : Ordering) → slice_cmp nat_cmp k l ≡ o → (k ≡ l → ms ≡ ns) → member k j ms ≡ member l i ns
    by_order Less r later = absurd (never_first k j ms l i ns r q (h k))
    by_order Equal r later =
        let same : k ≡ l = one_name k l (ap is_eq r) in
        let rest : ms ≡ ns = later same in
        let left : value_at k (member k j ms) ≡ Some j = ap (λ (b : Bool). cond b (Some j) (value_at k ms)) (own_name k) in
        let right : value_at k (member l i ns) ≡ Some i = ap (λ (b : Bool). cond b (Some i) (value_at k ns)) (ap (is_name k) (sym same) ∙ own_name k) in
        let both = h k in
        cc
    by_order Greater r later =
        absurd (never_first l i ns k j ms (nat_list_cmp_total.antisymm l k ∙ ap ordering_reverse r) p (sym (h l)))

-- ---- one filling

-- that a value becomes one value
abbrev IsOne : Json → Type 0
IsOne j = (t : Shape) (x y : Json) → IsSoundJson x → IsSoundJson y → Filled t j x → Filled t j y → x ≡ y

-- what stands at a name is sound
abbrev AtSound : Option Json → Type 0
AtSound None = Unit {0}
AtSound (Some x) = IsSoundJson x

at_sound : (n : List ℕ) (ms : Members) → AreRising ms → AtSound (value_at n ms)
at_sound n ms p = by_value (value_at n ms) refl
  where
    by_value : (v : Option Json) → value_at n ms ≡ v → AtSound v
    by_value None e = tt
    by_value (Some x) e = sound_at n ms x p e

one_some : (t : Shape) (j : Json) (v w : Option Json) → IsOne j → AtSound v → AtSound w → IsSomeAnd v (λ k. Filled t j k) → IsSomeAnd w (λ k. Filled t j k) → v ≡ w
one_some t j None w one p q g h = absurd g
one_some t j (Some x) None one p q g h = absurd h
one_some t j (Some x) (Some y) one p q g h = ap Some (one t x y p q g h)

one_present : (t : Shape) (j : Json) (v w : Option Json) → IsOne j → AtSound v → AtSound w → PresentFilled (own t) (λ x y. Filled t x y) j v → PresentFilled (own t) (λ x y. Filled t x y) j w → v ≡ w
one_present t j v w one p q g h = by_test (is_forbidden (own t) j) g h
  where
    by_test : (b : Bool) → MatchBool b (v ≡ (own t).default_value) (IsSomeAnd v (λ k. Filled t j k)) → MatchBool b (w ≡ (own t).default_value) (IsSomeAnd w (λ k. Filled t j k)) → v ≡ w
    by_test true d e = d ∙ sym e
    by_test false d e = one_some t j v w one p q d e

-- each value that stands at a name becomes one
abbrev IsOneAt : Option Json → Type 0
IsOneAt None = Unit {0}
IsOneAt (Some j) = IsOne j

one_rest : (a : MaybeShape) (preserve : Bool) (u v w : Option Json) → IsOneAt u → AtSound v → AtSound w → RestFilled a preserve u v → RestFilled a preserve u w → v ≡ w
one_rest no_shape preserve u v w one p q g h = g ∙ sym h
one_rest (some_shape t) preserve None v w one p q g h = g ∙ sym h
one_rest (some_shape t) preserve (Some j) v w one p q g h = one_present t j v w one p q g h

one_by : (m a : MaybeShape) (preserve : Bool) (u v w : Option Json) → IsOneAt u → AtSound v → AtSound w → By m (λ x y. RestFilled a preserve x y) u v → By m (λ x y. RestFilled a preserve x y) u w → v ≡ w
one_by no_shape a preserve u v w one p q g h = one_rest a preserve u v w one p q g h
one_by (some_shape t) a preserve None v w one p q g h = g ∙ sym h
one_by (some_shape t) a preserve (Some j) v w one p q g h = one_present t j v w one p q g h

one_element : (m : MaybeShape) (j x y : Json) → IsOne j → IsSoundJson x → IsSoundJson y → ItemFilled m j x → ItemFilled m j y → x ≡ y
one_element no_shape j x y one p q g h = g ∙ sym h
one_element (some_shape t) j x y one p q g h = by_test (is_forbidden (own t) j) g h
  where
    by_test : (b : Bool) → MatchBool b (x ≡ unwrap_or (own t).default_value null) (Filled t j x) → MatchBool b (y ≡ unwrap_or (own t).default_value null) (Filled t j y) → x ≡ y
    by_test true d e = d ∙ sym e
    by_test false d e = one t x y p q d e

-- the same of each item, whatever the schema of the items
abbrev AreOne : Items → Type 0
AreOne js = (m : MaybeShape) (xs ys : Items) → AreSoundItems xs → AreSoundItems ys → EachItem (λ x y. ItemFilled m x y) js xs → EachItem (λ x y. ItemFilled m x y) js ys → xs ≡ ys

one_list : (d : Bool) (m : MaybeShape) (js : Items) (k l : Json) → AreOne js → IsSoundJson k → IsSoundJson l → MatchBool d (AtEachItem (λ x y. ItemFilled m x y) js k) (k ≡ list js) → MatchBool d (AtEachItem (λ x y. ItemFilled m x y) js l) (l ≡ list js) → k ≡ l
one_list false m js k l one p q g h = g ∙ sym h
one_list true m js (list xs) (list ys) one p q g h = ap list (one m xs ys p q g h)
one_list true m js (list xs) null one p q g h = absurd h
one_list true m js (list xs) (boolean b) one p q g h = absurd h
one_list true m js (list xs) (whole z) one p q g h = absurd h
one_list true m js (list xs) (text t) one p q g h = absurd h
one_list true m js (list xs) (object ns) one p q g h = absurd h
one_list true m js null l one p q g h = absurd g
one_list true m js (boolean b) l one p q g h = absurd g
one_list true m js (whole z) l one p q g h = absurd g
one_list true m js (text t) l one p q g h = absurd g
one_list true m js (object ns) l one p q g h = absurd g

-- the values at all names
abbrev AllOne : Members → Type 0
AllOne ms = (n : List ℕ) → IsOneAt (value_at n ms)

one_fields : (d : Bool) (ps : MaybeShapes) (a : MaybeShape) (preserve : Bool) (ms : Members) (k l : Json) → AllOne ms → IsSoundJson k → IsSoundJson l → MatchBool d (AtEachName (NameFilled ps (λ x y. RestFilled a preserve x y)) ms k) (k ≡ object ms) → MatchBool d (AtEachName (NameFilled ps (λ x y. RestFilled a preserve x y)) ms l) (l ≡ object ms) → k ≡ l
one_fields false ps a preserve ms k l one p q g h = g ∙ sym h
one_fields true ps a preserve ms (object xs) (object ys) one p q g h =
    ap object (one_object xs ys p q (λ n. one_by (property n ps) a preserve (value_at n ms) (value_at n xs) (value_at n ys) (one n) (at_sound n xs p) (at_sound n ys q) (of_name ps (λ x y. RestFilled a preserve x y) n (value_at n ms) (value_at n xs) (g n)) (of_name ps (λ x y. RestFilled a preserve x y) n (value_at n ms) (value_at n ys) (h n))))
one_fields true ps a preserve ms (object xs) null one p q g h = absurd h
one_fields true ps a preserve ms (object xs) (boolean b) one p q g h = absurd h
one_fields true ps a preserve ms (object xs) (whole z) one p q g h = absurd h
one_fields true ps a preserve ms (object xs) (text t) one p q g h = absurd h
one_fields true ps a preserve ms (object xs) (list js) one p q g h = absurd h
one_fields true ps a preserve ms null l one p q g h = absurd g
one_fields true ps a preserve ms (boolean b) l one p q g h = absurd g
one_fields true ps a preserve ms (whole z) l one p q g h = absurd g
one_fields true ps a preserve ms (text t) l one p q g h = absurd g
one_fields true ps a preserve ms (list js) l one p q g h = absurd g

one_here : (n l : List ℕ) (j : Json) (v : Option Json) → IsOne j → IsOneAt v → (b : Bool) → IsOneAt (cond b (Some j) v)
one_here n l j v p q true = p
one_here n l j v p q false = q

mutual
  pub one_value : (j : Json) → IsOne j
  one_value null (shape o ps a i) x y p q g h = g ∙ sym h
  one_value (boolean b) (shape o ps a i) x y p q g h = g ∙ sym h
  one_value (whole z) (shape o ps a i) x y p q g h = g ∙ sym h
  one_value (text t) (shape o ps a i) x y p q g h = g ∙ sym h
  one_value (list js) (shape o ps a i) x y p q g h = one_list (is_array o.kind) i js x y (one_items js) p q g h
  one_value (object ms) (shape o ps a i) x y p q g h =
      one_fields (is_object o.kind) ps a o.preserve ms x y (one_members ms) p q g h

  one_items : (js : Items) → AreOne js
  one_items no_items m no_items no_items p q g h = refl
  one_items no_items m no_items (item y ys) p q g h = absurd h
  one_items no_items m (item x xs) ys p q g h = absurd g
  one_items (item j js) m no_items ys p q g h = absurd g
  one_items (item j js) m (item x xs) no_items p q g h = absurd h
  one_items (item j js) m (item x xs) (item y ys) p q g h =
      let first : x ≡ y = one_element m j x y (one_value j) p.0 q.0 g.0 h.0 in
      let rest : xs ≡ ys = one_items js m xs ys p.1 q.1 g.1 h.1 in
      cc (first, rest)

  one_members : (ms : Members) → AllOne ms
  one_members no_members n = tt
  one_members (member l j ms) n = one_here n l j (value_at n ms) (one_value j) (one_members ms n) (is_name n l)

-- ---- a filling stays

-- that what a value becomes stays as it is
abbrev Again : Json → Type 0
Again j = (t : Shape) (k : Json) → HasOwnDefaults t → Filled t j k → Filled t k k

abbrev AgainAt : Option Json → Type 0
AgainAt None = Unit {0}
AgainAt (Some j) = Again j

-- only null is forbidden, and null is no filling of another value
still_allowed : (t : Shape) (j k : Json) → Filled t j k → is_forbidden (own t) j ≡ false → is_forbidden (own t) k ≡ false
still_allowed (shape o ps a i) null k h f = ap (is_forbidden o) h ∙ f
still_allowed (shape o ps a i) (boolean b) k h f = ap (is_forbidden o) h
still_allowed (shape o ps a i) (whole z) k h f = ap (is_forbidden o) h
still_allowed (shape o ps a i) (text s) k h f = ap (is_forbidden o) h
still_allowed (shape o ps a i) (list js) k h f = by_test (is_array o.kind) k h
  where
    by_test : (b : Bool) (x : Json) → MatchBool b (AtEachItem (λ y z. ItemFilled i y z) js x) (x ≡ list js) → is_forbidden o x ≡ false
    by_test false x q = ap (is_forbidden o) q
    by_test true null q = absurd q
    by_test true (boolean b) q = refl
    by_test true (whole z) q = refl
    by_test true (text s) q = refl
    by_test true (list ks) q = refl
    by_test true (object ns) q = refl
still_allowed (shape o ps a i) (object ms) k h f = by_test (is_object o.kind) k h
  where
    by_test : (b : Bool) (x : Json) → MatchBool b (AtEachName (NameFilled ps (λ y z. RestFilled a o.preserve y z)) ms x) (x ≡ object ms) → is_forbidden o x ≡ false
    by_test false x q = ap (is_forbidden o) q
    by_test true null q = absurd q
    by_test true (boolean b) q = refl
    by_test true (whole z) q = refl
    by_test true (text s) q = refl
    by_test true (list ks) q = refl
    by_test true (object ns) q = refl

own_default : (t : Shape) (d : Json) → HasOwnDefaults t → (own t).default_value ≡ Some d → Filled t d d
own_default (shape o ps a i) d h e =
    subst (λ (v : Option Json). IsOwnFilling (shape o ps a i) v) e h.0

-- a default stays under its schema
default_stays : (t : Shape) (d : Json) → HasOwnDefaults t → (own t).default_value ≡ Some d → PresentFilled (own t) (λ x y. Filled t x y) d (Some d)
default_stays t d h e = by_test (is_forbidden (own t) d)
  where
    by_test : (b : Bool) → MatchBool b (Some d ≡ (own t).default_value) (Filled t d d)
    by_test true = sym e
    by_test false = own_default t d h e

present_stays : (t : Shape) (j k : Json) → HasOwnDefaults t → Again j → is_forbidden (own t) j ≡ false → Filled t j k → PresentFilled (own t) (λ x y. Filled t x y) k (Some k)
present_stays t j k h again f g =
    subst (λ (b : Bool). MatchBool b (Some k ≡ (own t).default_value) (Filled t k k)) (sym (still_allowed t j k g f)) (again t k h g)

-- a filling at a name: nothing where there is no default, or a value that stays
abbrev Stays : Shape → Option Json → Type 0
Stays t None = (own t).default_value ≡ None
Stays t (Some k) = PresentFilled (own t) (λ x y. Filled t x y) k (Some k)

filled_default : (t : Shape) (w : Option Json) → HasOwnDefaults t → w ≡ (own t).default_value → Stays t w
filled_default t None h e = sym e
filled_default t (Some d) h e = default_stays t d h (sym e)

filled_present : (t : Shape) (j : Json) (w : Option Json) → HasOwnDefaults t → Again j → PresentFilled (own t) (λ x y. Filled t x y) j w → Stays t w
filled_present t j w h again g = by_test (is_forbidden (own t) j) refl g
  where
    by_some : (v : Option Json) → is_forbidden (own t) j ≡ false → IsSomeAnd v (λ k. Filled t j k) → Stays t v
    by_some None f q = absurd q
    by_some (Some k) f q = present_stays t j k h again f q

    by_test : (b : Bool) → is_forbidden (own t) j ≡ b → MatchBool b (w ≡ (own t).default_value) (IsSomeAnd w (λ k. Filled t j k)) → Stays t w
    by_test true f q = filled_default t w h q
    by_test false f q = by_some w f q

property_again : (t : Shape) (w : Option Json) → Stays t w → PropertyFilled (own t) (λ x y. Filled t x y) w w
property_again t None h = sym h
property_again t (Some k) h = h

other_again : (t : Shape) (w : Option Json) → Stays t w → OtherFilled (own t) (λ x y. Filled t x y) w w
other_again t None h = refl
other_again t (Some k) h = h

rest_again : (a : MaybeShape) (preserve : Bool) (u w : Option Json) → InMaybe a → AgainAt u → RestFilled a preserve u w → RestFilled a preserve w w
rest_again no_shape true u w h again g = refl
rest_again no_shape false u w h again g = g
rest_again (some_shape t) preserve None w h again g =
    subst (λ (v : Option Json). OtherFilled (own t) (λ x y. Filled t x y) v v) (sym g) refl
rest_again (some_shape t) preserve (Some j) w h again g = other_again t w (filled_present t j w h again g)

by_again : (m a : MaybeShape) (preserve : Bool) (u w : Option Json) → InMaybe m → InMaybe a → AgainAt u → By m (λ x y. RestFilled a preserve x y) u w → By m (λ x y. RestFilled a preserve x y) w w
by_again no_shape a preserve u w h i again g = rest_again a preserve u w i again g
by_again (some_shape t) a preserve None w h i again g = property_again t w (filled_default t w h g)
by_again (some_shape t) a preserve (Some j) w h i again g = property_again t w (filled_present t j w h again g)

in_named : (n : List ℕ) (ss : Shapes) → InShapes ss → InMaybe (shape_named n ss)
in_named n no_shapes h = tt
in_named n (shape_at l s ss) h = by_test (is_name n l) (in_named n ss h.1)
  where
    by_test : (b : Bool) → InMaybe (shape_named n ss) → InMaybe (cond b (some_shape s) (shape_named n ss))
    by_test true later = h.0
    by_test false later = later

in_property : (n : List ℕ) (ps : MaybeShapes) → InMap ps → InMaybe (property n ps)
in_property n no_map h = tt
in_property n (some_map ss) h = in_named n ss h

abbrev AllAgain : Members → Type 0
AllAgain ms = (n : List ℕ) → AgainAt (value_at n ms)

object_again : (o : Own) (ps : MaybeShapes) (a i : MaybeShape) (ms : Members) → InMap ps → InMaybe a → AllAgain ms → (b : Bool) → is_object o.kind ≡ b → (k : Json) → MatchBool b (AtEachName (NameFilled ps (λ x y. RestFilled a o.preserve x y)) ms k) (k ≡ object ms) → Filled (shape o ps a i) k k
object_again o ps a i ms h r again false f k q =
    subst (λ (x : Json). Filled (shape o ps a i) x x) (sym q) (subst (λ (c : Bool). MatchBool c (AtEachName (NameFilled ps (λ x y. RestFilled a o.preserve x y)) ms (object ms)) (object ms ≡ object ms)) (sym f) refl)
object_again o ps a i ms h r again true f (object ns) q =
    subst (λ (c : Bool). MatchBool c (AtEachName (NameFilled ps (λ x y. RestFilled a o.preserve x y)) ns (object ns)) (object ns ≡ object ns)) (sym f) (λ n. to_name ps (λ x y. RestFilled a o.preserve x y) n (value_at n ns) (value_at n ns) (by_again (property n ps) a o.preserve (value_at n ms) (value_at n ns) (in_property n ps h) r (again n) (of_name ps (λ x y. RestFilled a o.preserve x y) n (value_at n ms) (value_at n ns) (q n))))
object_again o ps a i ms h r again true f null q = absurd q
object_again o ps a i ms h r again true f (boolean b) q = absurd q
object_again o ps a i ms h r again true f (whole z) q = absurd q
object_again o ps a i ms h r again true f (text t) q = absurd q
object_again o ps a i ms h r again true f (list js) q = absurd q

null_stays : (t : Shape) → Filled t null null
null_stays (shape o ps a i) = refl

element_again : (m : MaybeShape) (j k : Json) → InMaybe m → Again j → ItemFilled m j k → ItemFilled m k k
element_again no_shape j k h again g = refl
element_again (some_shape t) j k h again g = by_test (is_forbidden (own t) j) refl g
  where
    null_again : (d : Option Json) → (own t).default_value ≡ d → k ≡ unwrap_or d null → MatchBool (is_forbidden (own t) k) (k ≡ unwrap_or d null) (Filled t k k)
    null_again None e q =
        subst (λ (x : Json). MatchBool (is_forbidden (own t) x) (x ≡ null) (Filled t x x)) (sym q) (by_null (not (own t).nullable))
      where
        by_null : (b : Bool) → MatchBool b (null ≡ null) (Filled t null null)
        by_null true = refl
        by_null false = null_stays t
    null_again (Some x) e q = by_default (is_forbidden (own t) k)
      where
        by_default : (b : Bool) → MatchBool b (k ≡ x) (Filled t k k)
        by_default true = q
        by_default false = own_default t k h (e ∙ ap Some (sym q))

    by_test : (b : Bool) → is_forbidden (own t) j ≡ b → MatchBool b (k ≡ unwrap_or (own t).default_value null) (Filled t j k) → MatchBool (is_forbidden (own t) k) (k ≡ unwrap_or (own t).default_value null) (Filled t k k)
    by_test true f q = null_again (own t).default_value refl q
    by_test false f q =
        subst (λ (b : Bool). MatchBool b (k ≡ unwrap_or (own t).default_value null) (Filled t k k)) (sym (still_allowed t j k q f)) (again t k h q)

abbrev AreAgain : Items → Type 0
AreAgain js = (m : MaybeShape) (ks : Items) → InMaybe m → EachItem (λ x y. ItemFilled m x y) js ks → EachItem (λ x y. ItemFilled m x y) ks ks

list_again : (o : Own) (ps : MaybeShapes) (a i : MaybeShape) (js : Items) → InMaybe i → AreAgain js → (b : Bool) → is_array o.kind ≡ b → (k : Json) → MatchBool b (AtEachItem (λ x y. ItemFilled i x y) js k) (k ≡ list js) → Filled (shape o ps a i) k k
list_again o ps a i js h again false f k q =
    subst (λ (x : Json). Filled (shape o ps a i) x x) (sym q) (subst (λ (c : Bool). MatchBool c (EachItem (λ x y. ItemFilled i x y) js js) (list js ≡ list js)) (sym f) refl)
list_again o ps a i js h again true f (list ks) q =
    subst (λ (c : Bool). MatchBool c (EachItem (λ x y. ItemFilled i x y) ks ks) (list ks ≡ list ks)) (sym f) (again i ks h q)
list_again o ps a i js h again true f null q = absurd q
list_again o ps a i js h again true f (boolean b) q = absurd q
list_again o ps a i js h again true f (whole z) q = absurd q
list_again o ps a i js h again true f (text t) q = absurd q
list_again o ps a i js h again true f (object ns) q = absurd q

scalar_again : (s : Shape) (j k : Json) → Filled s j j → k ≡ j → Filled s k k
scalar_again s j k h e = subst (λ (x : Json). Filled s x x) (sym e) h

again_here : (j : Json) (v : Option Json) → Again j → AgainAt v → (b : Bool) → AgainAt (cond b (Some j) v)
again_here j v p q true = p
again_here j v p q false = q

mutual
  pub again_value : (j : Json) → Again j
  again_value null (shape o ps a i) k h g = scalar_again (shape o ps a i) null k refl g
  again_value (boolean b) (shape o ps a i) k h g = scalar_again (shape o ps a i) (boolean b) k refl g
  again_value (whole z) (shape o ps a i) k h g = scalar_again (shape o ps a i) (whole z) k refl g
  again_value (text t) (shape o ps a i) k h g = scalar_again (shape o ps a i) (text t) k refl g
  again_value (list js) (shape o ps a i) k h g = list_again o ps a i js h.3 (again_items js) (is_array o.kind) refl k g
  again_value (object ms) (shape o ps a i) k h g =
      object_again o ps a i ms h.1 h.2 (again_members ms) (is_object o.kind) refl k g

  again_items : (js : Items) → AreAgain js
  again_items no_items m no_items h g = tt
  again_items no_items m (item k ks) h g = absurd g
  again_items (item j js) m no_items h g = absurd g
  again_items (item j js) m (item k ks) h g =
      (element_again m j k h (again_value j) g.0, again_items js m ks h g.1)

  again_members : (ms : Members) → AllAgain ms
  again_members no_members n = tt
  again_members (member l j ms) n = again_here j (value_at n ms) (again_value j) (again_members ms n) (is_name n l)
