-- A value stays exactly where it is its own filling.
use Rattle.std.proofs.Common.{◌≡◌, ℕ, List, Bool, true, false, ◌&&◌, cond, Option, Some, None, refl, ap, sym, subst, ◌∙◌}
use Rattle.std.specs.Prelude.{is_some, is_none, ◌||◌, unwrap_or, MatchBool}
use Rattle.kj_value.specs.Json.{Json, null, boolean, whole, text, list, object, Items, no_items, item, Members, no_members, member}
use Rattle.kj_value.specs.laws.SameLaws.{json_same-Decides}
use Rattle.kj_value.specs.Sound.{IsSoundJson, AreSoundItems, AreRising}
use Rattle.struct_schema.specs.Shape.{Own, Shape, shape, own, Shapes, no_shapes, shape_at, MaybeShapes, no_map, some_map, MaybeShape, no_shape, some_shape}
use Rattle.struct_schema.specs.Names.{is_name, value_at, shape_named, property, or_shape, shape_for}
use Rattle.struct_schema.specs.Filled.{is_object, is_array, is_forbidden, PresentFilled, PropertyFilled, EachItem, Filled, NameFilled, NamedFilled, RestFilled, ItemFilled}
use Rattle.struct_schema.specs.Stays.{item_null, name_null, item_stays, name_stays, lacks_default, no_default, defaults_there, stays, items_stay, names_stay}
use Rattle.struct_schema.specs.laws.NameLaws.{one_name, own_name, other_name, below_found}

both_true : (a b : Bool) → (a && b) ≡ true → (a ≡ true) × (b ≡ true)
both_true true b h = (refl, h)
both_true false b h = absurd (cc)

and_true : (a b : Bool) → a ≡ true → b ≡ true → (a && b) ≡ true
and_true true b h k = k
and_true false b h k = absurd (cc)

forbidden_null : (o : Own) (j : Json) → is_forbidden o j ≡ true → j ≡ null
forbidden_null o null h = refl
forbidden_null o (boolean b) h = absurd (cc)
forbidden_null o (whole z) h = absurd (cc)
forbidden_null o (text s) h = absurd (cc)
forbidden_null o (list js) h = absurd (cc)
forbidden_null o (object ms) h = absurd (cc)

-- ---- the filling of a name, with the schema at the name looked up

abbrev By : MaybeShape → (Option Json → Option Json → Type 0) → Option Json → Option Json → Type 0
By no_shape R v w = R v w
By (some_shape t) R v w = PropertyFilled (own t) (λ x y. Filled t x y) v w

to_named : (ss : Shapes) (R : Option Json → Option Json → Type 0) (n : List ℕ) (v w : Option Json) → By (shape_named n ss) R v w → NamedFilled ss R n v w
to_named no_shapes R n v w h = h
to_named (shape_at l s ss) R n v w h = by_test (is_name n l) h (λ k. to_named ss R n v w k)
  where
    by_test : (b : Bool) → By (cond b (some_shape s) (shape_named n ss)) R v w → (By (shape_named n ss) R v w → NamedFilled ss R n v w) → MatchBool b (PropertyFilled (own s) (λ x y. Filled s x y) v w) (NamedFilled ss R n v w)
    by_test true g later = g
    by_test false g later = later g

of_named : (ss : Shapes) (R : Option Json → Option Json → Type 0) (n : List ℕ) (v w : Option Json) → NamedFilled ss R n v w → By (shape_named n ss) R v w
of_named no_shapes R n v w h = h
of_named (shape_at l s ss) R n v w h = by_test (is_name n l) h (λ k. of_named ss R n v w k)
  where
    by_test : (b : Bool) → MatchBool b (PropertyFilled (own s) (λ x y. Filled s x y) v w) (NamedFilled ss R n v w) → (NamedFilled ss R n v w → By (shape_named n ss) R v w) → By (cond b (some_shape s) (shape_named n ss)) R v w
    by_test true g later = g
    by_test false g later = later g

pub to_name : (ps : MaybeShapes) (R : Option Json → Option Json → Type 0) (n : List ℕ) (v w : Option Json) → By (property n ps) R v w → NameFilled ps R n v w
to_name no_map R n v w h = h
to_name (some_map ss) R n v w h = to_named ss R n v w h

pub of_name : (ps : MaybeShapes) (R : Option Json → Option Json → Type 0) (n : List ℕ) (v w : Option Json) → NameFilled ps R n v w → By (property n ps) R v w
of_name no_map R n v w h = h
of_name (some_map ss) R n v w h = of_named ss R n v w h

-- a value that is there and stays, under the schema for its name
abbrev Present : MaybeShape → Bool → Json → Type 0
Present no_shape preserve v = preserve ≡ true
Present (some_shape t) preserve v = PresentFilled (own t) (λ x y. Filled t x y) v (Some v)

no_rest : (preserve : Bool) → ◌≡◌ {A = Option Json} None (cond preserve None None)
no_rest true = refl
no_rest false = refl

none_is : (o : Option Json) → is_none o ≡ true → None ≡ o
none_is None h = refl
none_is (Some j) h = absurd (cc)

kept_at : (m a : MaybeShape) (preserve : Bool) (v : Option Json) → ((x : Json) → v ≡ Some x → Present (or_shape m a) preserve x) → (v ≡ None → lacks_default m ≡ true) → By m (RestFilled a preserve) v v
kept_at no_shape no_shape preserve None there gone = no_rest preserve
kept_at no_shape no_shape preserve (Some x) there gone = ap (λ (b : Bool). cond b (Some x) None) (sym (there x refl))
kept_at no_shape (some_shape t) preserve None there gone = refl
kept_at no_shape (some_shape t) preserve (Some x) there gone = there x refl
kept_at (some_shape t) a preserve None there gone = none_is (own t).default_value (gone refl)
kept_at (some_shape t) a preserve (Some x) there gone = there x refl

preserved : (preserve : Bool) (v : Json) → ◌≡◌ {A = Option Json} (Some v) (cond preserve (Some v) None) → preserve ≡ true
preserved true v h = refl
preserved false v h = absurd (cc)

present_of : (m a : MaybeShape) (preserve : Bool) (v : Json) → By m (RestFilled a preserve) (Some v) (Some v) → Present (or_shape m a) preserve v
present_of no_shape no_shape preserve v h = preserved preserve v h
present_of no_shape (some_shape t) preserve v h = h
present_of (some_shape t) a preserve v h = h

lacks_of : (m a : MaybeShape) (preserve : Bool) → By m (RestFilled a preserve) None None → lacks_default m ≡ true
lacks_of no_shape a preserve h = refl
lacks_of (some_shape t) a preserve h = ap (λ (o : Option Json). is_none o) (sym h)

-- ---- defaults

there_in : (qs : MaybeShapes) (ss : Shapes) (ms : Members) (n : List ℕ) (t : Shape) → no_default qs ss ms ≡ true → value_at n ms ≡ None → shape_named n ss ≡ some_shape t → lacks_default (property n qs) ≡ true
there_in qs no_shapes ms n t h none e = absurd (cc)
there_in qs (shape_at l s ss) ms n t h none e =
    let p = both_true (is_some (value_at l ms) || lacks_default (property l qs)) (no_default qs ss ms) h in
    by_test (is_name n l) refl e p.0 (λ q. there_in qs ss ms n t p.1 none q)
  where
    alone : (o : Option Json) (c : Bool) → o ≡ None → (is_some o || c) ≡ true → c ≡ true
    alone None c q k = k
    alone (Some j) c q k = absurd (cc)

    by_test : (b : Bool) → is_name n l ≡ b → cond b (some_shape s) (shape_named n ss) ≡ some_shape t → (is_some (value_at l ms) || lacks_default (property l qs)) ≡ true → (shape_named n ss ≡ some_shape t → lacks_default (property n qs) ≡ true) → lacks_default (property n qs) ≡ true
    by_test true q f here later =
        let same : n ≡ l = one_name n l q in
        subst (λ (k : List ℕ). lacks_default (property k qs) ≡ true) (sym same) (alone (value_at l ms) _ (ap (λ (k : List ℕ). value_at k ms) (sym same) ∙ none) here)
    by_test false q f here later = later f

there : (ps : MaybeShapes) (ms : Members) (n : List ℕ) → defaults_there ps ms ≡ true → value_at n ms ≡ None → lacks_default (property n ps) ≡ true
there no_map ms n h none = refl
there (some_map ss) ms n h none = by_found (shape_named n ss) refl
  where
    by_found : (m : MaybeShape) → shape_named n ss ≡ m → lacks_default (shape_named n ss) ≡ true
    by_found no_shape e = ap lacks_default e
    by_found (some_shape t) e = there_in (some_map ss) ss ms n t h none e

all_there : (qs : MaybeShapes) (ss : Shapes) (ms : Members) → ((n : List ℕ) → value_at n ms ≡ None → lacks_default (property n qs) ≡ true) → no_default qs ss ms ≡ true
all_there qs no_shapes ms h = refl
all_there qs (shape_at l s ss) ms h =
    and_true (is_some (value_at l ms) || lacks_default (property l qs)) (no_default qs ss ms) (either (value_at l ms) refl) (all_there qs ss ms h)
  where
    either : (o : Option Json) → value_at l ms ≡ o → (is_some o || lacks_default (property l qs)) ≡ true
    either None e = h l e
    either (Some j) e = refl

every_there : (ps : MaybeShapes) (ms : Members) → ((n : List ℕ) → value_at n ms ≡ None → lacks_default (property n ps) ≡ true) → defaults_there ps ms ≡ true
every_there no_map ms h = refl
every_there (some_map ss) ms h = all_there (some_map ss) ss ms h

-- ---- what stays is its own filling

null_item : (d : Option Json) → item_null d ≡ true → null ≡ unwrap_or d null
null_item None h = refl
null_item (Some j) h = sym ((json_same-Decides j null).0 h)

null_name : (d : Option Json) → name_null d ≡ true → Some null ≡ d
null_name None h = absurd (cc)
null_name (Some j) h = ap Some (sym ((json_same-Decides j null).0 h))

item_filled : (m : MaybeShape) (j : Json) → item_stays m j (λ t. stays t j) ≡ true → ((t : Shape) → stays t j ≡ true → Filled t j j) → ItemFilled m j j
item_filled no_shape j h deep = refl
item_filled (some_shape t) j h deep = by_test (is_forbidden (own t) j) refl h
  where
    by_test : (b : Bool) → is_forbidden (own t) j ≡ b → cond b (item_null (own t).default_value) (stays t j) ≡ true → MatchBool b (j ≡ unwrap_or (own t).default_value null) (Filled t j j)
    by_test true q e = forbidden_null (own t) j q ∙ null_item (own t).default_value e
    by_test false q e = deep t e

name_filled : (m : MaybeShape) (preserve : Bool) (j : Json) → name_stays m preserve j (λ t. stays t j) ≡ true → ((t : Shape) → stays t j ≡ true → Filled t j j) → Present m preserve j
name_filled no_shape preserve j h deep = h
name_filled (some_shape t) preserve j h deep = by_test (is_forbidden (own t) j) refl h
  where
    by_test : (b : Bool) → is_forbidden (own t) j ≡ b → cond b (name_null (own t).default_value) (stays t j) ≡ true → MatchBool b (Some j ≡ (own t).default_value) (Filled t j j)
    by_test true q e = ap Some (forbidden_null (own t) j q) ∙ null_name (own t).default_value e
    by_test false q e = deep t e

some_is : (x y : Json) → Some x ≡ Some y → x ≡ y
some_is x y e = cc

found_present : (s : Shape) (k : List ℕ) (j : Json) (ms : Members) (n : List ℕ) (v : Json) → Present (shape_for s k) (own s).preserve j → (value_at n ms ≡ Some v → Present (shape_for s n) (own s).preserve v) → value_at n (member k j ms) ≡ Some v → Present (shape_for s n) (own s).preserve v
found_present s k j ms n v here later e = by_test (is_name n k) refl e
  where
    by_test : (b : Bool) → is_name n k ≡ b → cond b (Some j) (value_at n ms) ≡ Some v → Present (shape_for s n) (own s).preserve v
    by_test true q f =
        subst (λ (l : List ℕ). Present (shape_for s l) (own s).preserve v) (sym (one_name n k q)) (subst (λ (x : Json). Present (shape_for s k) (own s).preserve x) (some_is j v f) here)
    by_test false q f = later f

list_filled : (i : MaybeShape) (js : Items) (b : Bool) → cond b (items_stay i js) true ≡ true → (items_stay i js ≡ true → EachItem (λ x y. ItemFilled i x y) js js) → MatchBool b (EachItem (λ x y. ItemFilled i x y) js js) (list js ≡ list js)
list_filled i js true h deep = deep h
list_filled i js false h deep = refl

object_filled : (o : Own) (ps : MaybeShapes) (a i : MaybeShape) (ms : Members) (b : Bool) → cond b (names_stay (shape o ps a i) ms && defaults_there ps ms) true ≡ true → (names_stay (shape o ps a i) ms ≡ true → (n : List ℕ) (v : Json) → value_at n ms ≡ Some v → Present (shape_for (shape o ps a i) n) o.preserve v)
    → MatchBool b ((n : List ℕ) → NameFilled ps (RestFilled a o.preserve) n (value_at n ms) (value_at n ms)) (object ms ≡ object ms)
object_filled o ps a i ms true h deep =
    let p = both_true (names_stay (shape o ps a i) ms) (defaults_there ps ms) h in
    λ n. to_name ps (RestFilled a o.preserve) n (value_at n ms) (value_at n ms) (kept_at (property n ps) a o.preserve (value_at n ms) (λ x e. deep p.0 n x e) (λ e. there ps ms n p.1 e))
object_filled o ps a i ms false h deep = refl

mutual
  pub stays_filled : (s : Shape) (j : Json) → stays s j ≡ true → Filled s j j
  stays_filled (shape o ps a i) null h = refl
  stays_filled (shape o ps a i) (boolean b) h = refl
  stays_filled (shape o ps a i) (whole z) h = refl
  stays_filled (shape o ps a i) (text t) h = refl
  stays_filled (shape o ps a i) (list js) h = list_filled i js (is_array o.kind) h (λ q. items_filled i js q)
  stays_filled (shape o ps a i) (object ms) h =
      object_filled o ps a i ms (is_object o.kind) h (λ q. names_filled (shape o ps a i) ms q)

  items_filled : (m : MaybeShape) (js : Items) → items_stay m js ≡ true → EachItem (λ x y. ItemFilled m x y) js js
  items_filled m no_items h = tt
  items_filled m (item j js) h =
      let p = both_true (item_stays m j (λ t. stays t j)) (items_stay m js) h in
      (item_filled m j p.0 (λ t q. stays_filled t j q), items_filled m js p.1)

  names_filled : (s : Shape) (ms : Members) → names_stay s ms ≡ true → (n : List ℕ) (v : Json) → value_at n ms ≡ Some v → Present (shape_for s n) (own s).preserve v
  names_filled s no_members h n v e = absurd (cc)
  names_filled s (member k j ms) h n v e =
      let p = both_true (name_stays (shape_for s k) (own s).preserve j (λ t. stays t j)) (names_stay s ms) h in
      found_present s k j ms n v (name_filled (shape_for s k) (own s).preserve j p.0 (λ t q. stays_filled t j q)) (λ q. names_filled s ms p.1 n v q) e

-- ---- and its own filling stays

item_null_of : (d : Option Json) → null ≡ unwrap_or d null → item_null d ≡ true
item_null_of None h = refl
item_null_of (Some j) h = (json_same-Decides j null).1 (sym h)

name_null_of : (d : Option Json) → Some null ≡ d → name_null d ≡ true
name_null_of None h = absurd (cc)
name_null_of (Some j) h = (json_same-Decides j null).1 (sym (some_is null j h))

item_stays_of : (m : MaybeShape) (j : Json) → ItemFilled m j j → ((t : Shape) → Filled t j j → stays t j ≡ true) → item_stays m j (λ t. stays t j) ≡ true
item_stays_of no_shape j h deep = refl
item_stays_of (some_shape t) j h deep = by_test (is_forbidden (own t) j) refl h
  where
    by_test : (b : Bool) → is_forbidden (own t) j ≡ b → MatchBool b (j ≡ unwrap_or (own t).default_value null) (Filled t j j) → cond b (item_null (own t).default_value) (stays t j) ≡ true
    by_test true q e = item_null_of (own t).default_value (sym (forbidden_null (own t) j q) ∙ e)
    by_test false q e = deep t e

name_stays_of : (m : MaybeShape) (preserve : Bool) (j : Json) → Present m preserve j → ((t : Shape) → Filled t j j → stays t j ≡ true) → name_stays m preserve j (λ t. stays t j) ≡ true
name_stays_of no_shape preserve j h deep = h
name_stays_of (some_shape t) preserve j h deep = by_test (is_forbidden (own t) j) refl h
  where
    by_test : (b : Bool) → is_forbidden (own t) j ≡ b → MatchBool b (Some j ≡ (own t).default_value) (Filled t j j) → cond b (name_null (own t).default_value) (stays t j) ≡ true
    by_test true q e = name_null_of (own t).default_value (ap Some (sym (forbidden_null (own t) j q)) ∙ e)
    by_test false q e = deep t e

list_stays_of : (i : MaybeShape) (js : Items) (b : Bool) → MatchBool b (EachItem (λ x y. ItemFilled i x y) js js) (list js ≡ list js) → (EachItem (λ x y. ItemFilled i x y) js js → items_stay i js ≡ true) → cond b (items_stay i js) true ≡ true
list_stays_of i js true h deep = deep h
list_stays_of i js false h deep = refl

object_stays_of : (o : Own) (ps : MaybeShapes) (a i : MaybeShape) (ms : Members) (b : Bool) → MatchBool b ((n : List ℕ) → NameFilled ps (RestFilled a o.preserve) n (value_at n ms) (value_at n ms)) (object ms ≡ object ms)
    → (((n : List ℕ) (v : Json) → value_at n ms ≡ Some v → Present (shape_for (shape o ps a i) n) o.preserve v) → names_stay (shape o ps a i) ms ≡ true) → cond b (names_stay (shape o ps a i) ms && defaults_there ps ms) true ≡ true
object_stays_of o ps a i ms true h deep =
    let at_name : (n : List ℕ) → By (property n ps) (RestFilled a o.preserve) (value_at n ms) (value_at n ms) = λ n. of_name ps (RestFilled a o.preserve) n (value_at n ms) (value_at n ms) (h n) in
    and_true (names_stay (shape o ps a i) ms) (defaults_there ps ms) (deep (λ n v e. present_of (property n ps) a o.preserve v (subst (λ (w : Option Json). By (property n ps) (RestFilled a o.preserve) w w) e (at_name n)))) (every_there ps ms (λ n e. lacks_of (property n ps) a o.preserve (subst (λ (w : Option Json). By (property n ps) (RestFilled a o.preserve) w w) e (at_name n))))
object_stays_of o ps a i ms false h deep = refl

mutual
  pub filled_stays : (s : Shape) (j : Json) → IsSoundJson j → Filled s j j → stays s j ≡ true
  filled_stays (shape o ps a i) null p h = refl
  filled_stays (shape o ps a i) (boolean b) p h = refl
  filled_stays (shape o ps a i) (whole z) p h = refl
  filled_stays (shape o ps a i) (text t) p h = refl
  filled_stays (shape o ps a i) (list js) p h = list_stays_of i js (is_array o.kind) h (λ q. items_stay_of i js p q)
  filled_stays (shape o ps a i) (object ms) p h =
      object_stays_of o ps a i ms (is_object o.kind) h (λ q. names_stay_of (shape o ps a i) ms p q)

  items_stay_of : (m : MaybeShape) (js : Items) → AreSoundItems js → EachItem (λ x y. ItemFilled m x y) js js → items_stay m js ≡ true
  items_stay_of m no_items p h = refl
  items_stay_of m (item j js) p h =
      and_true (item_stays m j (λ t. stays t j)) (items_stay m js) (item_stays_of m j h.0 (λ t q. filled_stays t j p.0 q)) (items_stay_of m js p.1 h.1)

  names_stay_of : (s : Shape) (ms : Members) → AreRising ms → ((n : List ℕ) (v : Json) → value_at n ms ≡ Some v → Present (shape_for s n) (own s).preserve v) → names_stay s ms ≡ true
  names_stay_of s no_members p h = refl
  names_stay_of s (member k j ms) p h =
      let here : value_at k (member k j ms) ≡ Some j = ap (λ (b : Bool). cond b (Some j) (value_at k ms)) (own_name k) in
      and_true (name_stays (shape_for s k) (own s).preserve j (λ t. stays t j)) (names_stay s ms) (name_stays_of (shape_for s k) (own s).preserve j (h k j here) (λ t q. filled_stays t j p.1 q)) (names_stay_of s ms p.2 (λ n v e. h n v (ap (λ (b : Bool). cond b (Some j) (value_at n ms)) (other_name k n (below_found k ms n v p.0 p.2 e)) ∙ e)))
