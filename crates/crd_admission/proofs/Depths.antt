-- What a value becomes is no deeper than the value and the defaults of its schema allow.
use Rattle.std.proofs.Common.{◌≡◌, ◌∙◌, ℕ, ◌+◌, ◌≤◌, max, List, Bool, true, false, cond, Option, Some, None, refl, ap, sym, subst, arith}
use Rattle.std.specs.Prelude.{MatchBool, IsSomeAnd, unwrap_or}
use Rattle.kj_value.specs.Json.{Json, null, boolean, whole, text, list, object, Items, no_items, item, Members, no_members, member, depth, items_depth, members_depth}
use Rattle.kj_value.specs.Sound.{IsSoundJson, AreSoundItems, AreRising}
use Rattle.struct_schema.specs.Shape.{Shape, shape, own, Shapes, no_shapes, shape_at, MaybeShapes, no_map, some_map, MaybeShape, no_shape, some_shape}
use Rattle.struct_schema.specs.Names.{is_name, value_at}
use Rattle.struct_schema.specs.Filled.{is_object, is_array, is_forbidden, PresentFilled, PropertyFilled, EachItem, AtEachItem, AtEachName, Filled, NameFilled, NamedFilled, RestFilled, ItemFilled}
use Rattle.struct_schema.specs.laws.NameLaws.{one_name, own_name, gone}
use Rattle.api_calls.specs.declared.versions.TheConstants.{OBJECT_LEVELS}
use Rattle.crd_admission.specs.Low.{IsWithin, WithinAt, HasLowDefaults, LowInMap, LowInShapes, LowInMaybe}
use Rattle.crd_admission.proofs.Lookup.{AtSound, at_sound}

-- that what a value becomes is within the levels, where the value is
abbrev IsLow : Json → Type 0
IsLow j = (t : Shape) (n : ℕ) (k : Json) → IsSoundJson k → HasLowDefaults n t → IsWithin n j → Filled t j k → IsWithin n k

abbrev IsLowAt : Option Json → Type 0
IsLowAt None = Unit {0}
IsLowAt (Some j) = IsLow j

-- ---- at one name

own_low : (t : Shape) (n : ℕ) → HasLowDefaults n t → WithinAt n (own t).default_value
own_low (shape o ps a i) n h = h.0

default_within : (t : Shape) (n : ℕ) (w : Option Json) → HasLowDefaults n t → w ≡ (own t).default_value → WithinAt n w
default_within t n w d e = subst (λ (o : Option Json). WithinAt n o) (sym e) (own_low t n d)

some_within : (t : Shape) (n : ℕ) (j : Json) (w : Option Json) → IsLow j → AtSound w → HasLowDefaults n t → IsWithin n j → IsSomeAnd w (λ k. Filled t j k) → WithinAt n w
some_within t n j None low s d p h = tt
some_within t n j (Some k) low s d p h = low t n k s d p h

present_within : (t : Shape) (n : ℕ) (j : Json) (w : Option Json) → IsLow j → AtSound w → HasLowDefaults n t → IsWithin n j → PresentFilled (own t) (λ x y. Filled t x y) j w → WithinAt n w
present_within t n j w low s d p h = by_test (is_forbidden (own t) j) h
  where
    by_test : (b : Bool) → MatchBool b (w ≡ (own t).default_value) (IsSomeAnd w (λ k. Filled t j k)) → WithinAt n w
    by_test true e = default_within t n w d e
    by_test false q = some_within t n j w low s d p q

property_within : (t : Shape) (n : ℕ) (v w : Option Json) → IsLowAt v → AtSound w → HasLowDefaults n t → WithinAt n v → PropertyFilled (own t) (λ x y. Filled t x y) v w → WithinAt n w
property_within t n None w low s d p h = default_within t n w d h
property_within t n (Some j) w low s d p h = present_within t n j w low s d p h

rest_within : (a : MaybeShape) (preserve : Bool) (n : ℕ) (v w : Option Json) → IsLowAt v → AtSound w → LowInMaybe n a → WithinAt n v → RestFilled a preserve v w → WithinAt n w
rest_within no_shape preserve n v w low s d p h = subst (λ (o : Option Json). WithinAt n o) (sym h) (kept preserve)
  where
    kept : (b : Bool) → WithinAt n (cond b v None)
    kept true = p
    kept false = tt
rest_within (some_shape t) preserve n None w low s d p h = subst (λ (o : Option Json). WithinAt n o) (sym h) tt
rest_within (some_shape t) preserve n (Some j) w low s d p h = present_within t n j w low s d p h

named_within : (ss : Shapes) (a : MaybeShape) (preserve : Bool) (n : ℕ) (l : List ℕ) (v w : Option Json) → IsLowAt v → AtSound w → LowInShapes n ss → LowInMaybe n a → WithinAt n v → NamedFilled ss (λ x y. RestFilled a preserve x y) l v w → WithinAt n w
named_within no_shapes a preserve n l v w low s d e p h = rest_within a preserve n v w low s e p h
named_within (shape_at k t ss) a preserve n l v w low s d e p h =
    by_test (λ q. named_within ss a preserve n l v w low s d.1 e p q) (is_name l k) h
  where
    by_test : (NamedFilled ss (λ x y. RestFilled a preserve x y) l v w → WithinAt n w) → (b : Bool)
        → MatchBool b (PropertyFilled (own t) (λ x y. Filled t x y) v w) (NamedFilled ss (λ x y. RestFilled a preserve x y) l v w) → WithinAt n w
    by_test more true q = property_within t n v w low s d.0 p q
    by_test more false q = more q

name_within : (ps : MaybeShapes) (a : MaybeShape) (preserve : Bool) (n : ℕ) (l : List ℕ) (v w : Option Json) → IsLowAt v → AtSound w → LowInMap n ps → LowInMaybe n a → WithinAt n v → NameFilled ps (λ x y. RestFilled a preserve x y) l v w → WithinAt n w
name_within no_map a preserve n l v w low s d e p h = rest_within a preserve n v w low s e p h
name_within (some_map ss) a preserve n l v w low s d e p h = named_within ss a preserve n l v w low s d e p h

-- ---- an object is as deep as what stands at its names

rest_at : (n : ℕ) (k : List ℕ) (j : Json) (ns : Members) (l : List ℕ) → AreRising (member k j ns) → WithinAt n (value_at l (member k j ns)) → WithinAt n (value_at l ns)
rest_at n k j ns l r h = by_test (is_name l k) refl h
  where
    by_test : (b : Bool) → is_name l k ≡ b → WithinAt n (cond b (Some j) (value_at l ns)) → WithinAt n (value_at l ns)
    by_test true e q =
        let none : value_at l ns ≡ None = ap (λ (m : List ℕ). value_at m ns) (one_name l k e) ∙ gone k ns r.0 r.2 in
        subst (λ (o : Option Json). WithinAt n o) (sym none) tt
    by_test false e q = q

first_at : (n : ℕ) (k : List ℕ) (j : Json) (ns : Members) → WithinAt n (value_at k (member k j ns)) → IsWithin n j
first_at n k j ns h = by_test (is_name k k) (own_name k) h
  where
    by_test : (b : Bool) → b ≡ true → WithinAt n (cond b (Some j) (value_at k ns)) → IsWithin n j
    by_test true e q = q
    by_test false e q = absurd (cc)

larger : (n a b : ℕ) → n + a ≤ OBJECT_LEVELS → n + b ≤ OBJECT_LEVELS → n + max a b ≤ OBJECT_LEVELS
larger n a b p q = omega arith

members_within : (n : ℕ) (ns : Members) → AreRising ns → n ≤ OBJECT_LEVELS → ((l : List ℕ) → WithinAt n (value_at l ns)) → n + members_depth ns ≤ OBJECT_LEVELS
members_within n no_members r m h = omega arith
members_within n (member k j ns) r m h =
    larger n (depth j) (members_depth ns) (first_at n k j ns (h k)) (members_within n ns r.2 m (λ l. rest_at n k j ns l r (h l)))

left_within : (n a b : ℕ) → n + max a b ≤ OBJECT_LEVELS → n + a ≤ OBJECT_LEVELS
left_within n a b p = omega arith

right_within : (n a b : ℕ) → n + max a b ≤ OBJECT_LEVELS → n + b ≤ OBJECT_LEVELS
right_within n a b p = omega arith

at_within : (n : ℕ) (ms : Members) (l : List ℕ) → n + members_depth ms ≤ OBJECT_LEVELS → WithinAt n (value_at l ms)
at_within n no_members l h = tt
at_within n (member k j ms) l h =
    by_test (is_name l k) (at_within n ms l (right_within n (depth j) (members_depth ms) h))
  where
    by_test : (b : Bool) → WithinAt n (value_at l ms) → WithinAt n (cond b (Some j) (value_at l ms))
    by_test true q = left_within n (depth j) (members_depth ms) h
    by_test false q = q

-- the values at all names
abbrev AllLow : Members → Type 0
AllLow ms = (l : List ℕ) → IsLowAt (value_at l ms)

fields_within : (d : Bool) (ps : MaybeShapes) (a : MaybeShape) (preserve : Bool) (n : ℕ) (ms : Members) (k : Json) → AllLow ms → IsSoundJson k → LowInMap (n + 1) ps → LowInMaybe (n + 1) a → IsWithin n (object ms)
    → MatchBool d (AtEachName (NameFilled ps (λ x y. RestFilled a preserve x y)) ms k) (k ≡ object ms) → IsWithin n k
fields_within false ps a preserve n ms k low s d e p h = subst (λ (x : Json). IsWithin n x) (sym h) p
fields_within true ps a preserve n ms (object ns) low s d e p h =
    let inside : (n + 1) + members_depth ms ≤ OBJECT_LEVELS = omega (arith, p) in
    let all : (n + 1) + members_depth ns ≤ OBJECT_LEVELS =
    members_within (n + 1) ns s (omega (arith, p)) (λ l. name_within ps a preserve (n + 1) l (value_at l ms) (value_at l ns) (low l) (at_sound l ns s) d e (at_within (n + 1) ms l inside) (h l)) in
    omega (arith, all)
fields_within true ps a preserve n ms null low s d e p h = absurd h
fields_within true ps a preserve n ms (boolean b) low s d e p h = absurd h
fields_within true ps a preserve n ms (whole z) low s d e p h = absurd h
fields_within true ps a preserve n ms (text t) low s d e p h = absurd h
fields_within true ps a preserve n ms (list js) low s d e p h = absurd h

-- ---- items

null_within : (n : ℕ) (o : Option Json) → WithinAt n o → n ≤ OBJECT_LEVELS → IsWithin n (unwrap_or o null)
null_within n None h m = omega (arith, m)
null_within n (Some d) h m = h

element_within : (i : MaybeShape) (n : ℕ) (j x : Json) → IsLow j → IsSoundJson x → LowInMaybe n i → n ≤ OBJECT_LEVELS → IsWithin n j → ItemFilled i j x → IsWithin n x
element_within no_shape n j x low s d m p h = subst (λ (y : Json). IsWithin n y) (sym h) p
element_within (some_shape t) n j x low s d m p h = by_test (is_forbidden (own t) j) h
  where
    by_test : (b : Bool) → MatchBool b (x ≡ unwrap_or (own t).default_value null) (Filled t j x) → IsWithin n x
    by_test true e = subst (λ (y : Json). IsWithin n y) (sym e) (null_within n (own t).default_value (own_low t n d) m)
    by_test false q = low t n x s d p q

-- the same of each item, whatever the schema of the items
abbrev AreLow : Items → Type 0
AreLow js = (i : MaybeShape) (n : ℕ) (ks : Items) → AreSoundItems ks → LowInMaybe n i → n ≤ OBJECT_LEVELS → n + items_depth js ≤ OBJECT_LEVELS → EachItem (λ x y. ItemFilled i x y) js ks → n + items_depth ks ≤ OBJECT_LEVELS

list_within : (d : Bool) (i : MaybeShape) (n : ℕ) (js : Items) (k : Json) → AreLow js → IsSoundJson k → LowInMaybe (n + 1) i → IsWithin n (list js)
    → MatchBool d (AtEachItem (λ x y. ItemFilled i x y) js k) (k ≡ list js) → IsWithin n k
list_within false i n js k low s d p h = subst (λ (x : Json). IsWithin n x) (sym h) p
list_within true i n js (list ks) low s d p h =
    let all : (n + 1) + items_depth ks ≤ OBJECT_LEVELS = low i (n + 1) ks s d (omega (arith, p)) (omega (arith, p)) h in
    omega (arith, all)
list_within true i n js null low s d p h = absurd h
list_within true i n js (boolean b) low s d p h = absurd h
list_within true i n js (whole z) low s d p h = absurd h
list_within true i n js (text t) low s d p h = absurd h
list_within true i n js (object ms) low s d p h = absurd h

-- ---- a whole value

low_here : (j : Json) (v : Option Json) → IsLow j → IsLowAt v → (b : Bool) → IsLowAt (cond b (Some j) v)
low_here j v p q true = p
low_here j v p q false = q

mutual
  low_value : (j : Json) → IsLow j
  low_value null (shape o ps a i) n k s d p h = subst (λ (x : Json). IsWithin n x) (sym h) p
  low_value (boolean b) (shape o ps a i) n k s d p h = subst (λ (x : Json). IsWithin n x) (sym h) p
  low_value (whole z) (shape o ps a i) n k s d p h = subst (λ (x : Json). IsWithin n x) (sym h) p
  low_value (text t) (shape o ps a i) n k s d p h = subst (λ (x : Json). IsWithin n x) (sym h) p
  low_value (list js) (shape o ps a i) n k s d p h = list_within (is_array o.kind) i n js k (low_items js) s d.3 p h
  low_value (object ms) (shape o ps a i) n k s d p h =
      fields_within (is_object o.kind) ps a o.preserve n ms k (low_members ms) s d.1 d.2 p h

  low_items : (js : Items) → AreLow js
  low_items no_items i n no_items s d m p h = p
  low_items no_items i n (item x xs) s d m p h = absurd h
  low_items (item j js) i n no_items s d m p h = absurd h
  low_items (item j js) i n (item x xs) s d m p h =
      larger n (depth x) (items_depth xs) (element_within i n j x (low_value j) s.0 d m (left_within n (depth j) (items_depth js) p) h.0) (low_items js i n xs s.1 d m (right_within n (depth j) (items_depth js) p) h.1)

  low_members : (ms : Members) → AllLow ms
  low_members no_members l = tt
  low_members (member k j ms) l = low_here j (value_at l ms) (low_value j) (low_members ms l) (is_name l k)

pub filled_within : (t : Shape) (n : ℕ) (j k : Json) → IsSoundJson k → HasLowDefaults n t → IsWithin n j → Filled t j k → IsWithin n k
filled_within t n j k s d p h = low_value j t n k s d p h
