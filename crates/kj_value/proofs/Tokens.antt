-- The grammar's loops over tokens, a turn at a time, under the conversion to the value of `serde_json` that a value is.
use Rattle.std.proofs.Common.{◌≡◌, ℕ, ◌-◌, ◌<◌, ◌≤◌, List, [], ◌∷◌, ◌++◌, length, Option, Some, None, option_map, option_and_then, Ordering, Less, Equal, Greater, nat_cmp, refl, ap, ◌∙◌, arith}
use Rattle.std.specs.Ordering.{match_ordering}
use Rattle.std.specs.Cmp.Lexicographic.{slice_cmp}
use Rattle.json.specs.Token.{Token}
use Rattle.json.specs.Json as grammar
use Rattle.json.specs.Json.{Parse, parse_map, after_end_array, read_key, items, members, if_last}
use Rattle.json.proofs.Grammar.{items_end, items_more, members_end, members_more}
use Rattle.serde_json.specs.Data as serde
use Rattle.serde_json.specs.Read.{of_json, of_items, of_members, converted}
use Rattle.kj_value.specs.Json.{Json, items_of, members_of, depth, items_depth, members_depth}
use Rattle.kj_value.specs.Fields.{Pairs, with_field}
use Rattle.kj_value.specs.Data.{to_data, items_data, members_data}

abbrev pick : {A : Type 0} → A → Option A → A
pick d None = d
pick d (Some a) = a

parted : {A B : Type 0} (a : A) (r s : List Token) (x : Option B) (b : B) → option_map {U = B × List Token} (λ y. (y, r)) x ≡ Some (b, s) → (r ≡ s) × (x ≡ Some b)
parted a r s None b e = absurd (cc)
parted a r s (Some y) b e = let same = ap (pick (y, r)) e in (ap (λ p. p.1) same, ap (λ p. Some p.0) same)

-- what was read before it was converted
pub before_conversion : {A B : Type 0} (f : A → Option B) (o : Option (A × List Token)) (b : B) (r : List Token) → converted f o ≡ Some (b, r) → (a : A) × (o ≡ Some (a, r)) × (f a ≡ Some b)
before_conversion f None b r e = absurd (cc)
before_conversion f (Some p) b r e = let both = parted p.0 p.1 r (f p.0) b e in (p.0, ap (λ s. Some (p.0, s)) both.0, both.1)

twice : {A B : Type 0} (g : A → B) (r : List Token) (x : Option A) → option_map (λ b. (b, r)) (option_map g x) ≡ parse_map g (option_map (λ a. (a, r)) x)
twice g r None = refl
twice g r (Some a) = refl

pub converted-array : (o : Option (grammar.Items × List Token)) → converted of_json (parse_map grammar.array o) ≡ parse_map serde.array (converted of_items o)
converted-array None = refl
converted-array (Some p) = twice serde.array p.1 (of_items p.0)

pub converted-object : (o : Option (grammar.Members × List Token)) → converted of_json (parse_map grammar.object o) ≡ parse_map serde.object (converted (λ ms. of_members ms serde.no_members) o)
converted-object None = refl
converted-object (Some p) = twice serde.object p.1 (of_members p.0 serde.no_members)

with_item : (j : grammar.Json) (d : serde.Data) → of_json j ≡ Some d → (o : Option (grammar.Items × List Token)) → converted of_items (parse_map (grammar.item j) o) ≡ parse_map (serde.item d) (converted of_items o)
with_item j d e None = refl
with_item j d e (Some p) = rw e (twice (serde.item d) p.1 (of_items p.0))

with_member : (k : List ℕ) (j : grammar.Json) (d : serde.Data) (old : serde.Members) → of_json j ≡ Some d → (o : Option (grammar.Members × List Token))
    → converted (λ ms. of_members ms old) (parse_map (grammar.member k j) o) ≡ converted (λ ms. of_members ms (serde.put k d old)) o
with_member k j d old e None = refl
with_member k j d old e (Some p) = rw e

module _ (p : Parse grammar.Json) where
  pub item_read : (n : ℕ) (ts r : List Token) (d : serde.Data) → 0 < n → after_end_array ts ≡ None → converted of_json (p ts) ≡ Some (d, r)
      → converted of_items (items p n ts) ≡ parse_map (serde.item d) (converted of_items (items p (n - 1) r))
  item_read n ts r d some going e =
      let j = before_conversion of_json (p ts) d r e in
      ap (converted of_items) (items_more p n ts r j.0 some going j.1) ∙ with_item j.0 d j.2 _

  pub items_over : (n : ℕ) (ts r : List Token) → length ts ≤ n → after_end_array ts ≡ Some r → converted of_items (items p n ts) ≡ Some (serde.no_items, r)
  items_over n ts r enough e = ap (converted of_items) (items_end p n ts r enough e)

  module _ (old : serde.Members) where
    pub member_read : (n : ℕ) (k : List ℕ) (ts s r : List Token) (d : serde.Data) → 0 < n → read_key ts ≡ Some (Some k, s) → converted of_json (p s) ≡ Some (d, r)
        → converted (λ ms. of_members ms old) (members p n ts) ≡ converted (λ ms. of_members ms (serde.put k d old)) (members p (n - 1) r)
    member_read n k ts s r d some key e =
        let j = before_conversion of_json (p s) d r e in
        ap (converted (λ ms. of_members ms old)) (members_more p n k ts s r j.0 some key j.1) ∙ with_member k j.0 d old j.2 _

    pub members_over : (n : ℕ) (ts r : List Token) → length ts ≤ n → read_key ts ≡ Some (None, r) → converted (λ ms. of_members ms old) (members p n ts) ≡ Some (old, r)
    members_over n ts r enough e = ap (converted (λ ms. of_members ms old)) (members_end p n ts r enough e)

-- ---- a list that grows at its end

abbrev pub items_before : List Json → serde.Items → serde.Items
items_before [] rest = rest
items_before (j ∷ js) rest = serde.item (to_data j) (items_before js rest)

pub items_before-end : (js : List Json) → items_before js serde.no_items ≡ items_data (items_of js)
items_before-end [] = refl
items_before-end (j ∷ js) = ap (serde.item (to_data j)) (items_before-end js)

items_before-push : (js : List Json) (j : Json) (rest : serde.Items) → items_before js (serde.item (to_data j) rest) ≡ items_before (js ++ j ∷ []) rest
items_before-push [] j rest = refl
items_before-push (i ∷ js) j rest = ap (serde.item (to_data i)) (items_before-push js j rest)

pub one_more_item : (js : List Json) (j : Json) (r : Option (serde.Items × List Token)) → parse_map (items_before js) (parse_map (serde.item (to_data j)) r) ≡ parse_map (items_before (js ++ j ∷ [])) r
one_more_item js j None = refl
one_more_item js j (Some p) = ap (λ ds. Some (ds, p.1)) (items_before-push js j p.0)

pub none_before : (r : Option (serde.Items × List Token)) → r ≡ parse_map (λ a. a) r
none_before None = refl
none_before (Some p) = refl

pub items_depth-push : (js : List Json) (j : Json) (n : ℕ) → items_depth (items_of js) ≤ n → depth j ≤ n → items_depth (items_of (js ++ j ∷ [])) ≤ n
items_depth-push [] j n h p = omega arith
items_depth-push (i ∷ js) j n h p = omega (arith, items_depth-push js j n (omega arith) p)

-- ---- an object that takes a field

data-match_ordering : (o : Ordering) (a b c : Pairs) → members_data (members_of (match_ordering o a b c)) ≡ match_ordering o (members_data (members_of a)) (members_data (members_of b)) (members_data (members_of c))
data-match_ordering Less a b c = refl
data-match_ordering Equal a b c = refl
data-match_ordering Greater a b c = refl

pub data-with_field : (k : List ℕ) (j : Json) (es : Pairs) → members_data (members_of (with_field k j es)) ≡ serde.put k (to_data j) (members_data (members_of es))
data-with_field k j [] = refl
data-with_field k j (e ∷ es) = data-match_ordering (slice_cmp nat_cmp k e.0) _ _ _ ∙ rw (data-with_field k j es)

depth-match_ordering : (o : Ordering) (a b c : Pairs) (n : ℕ) → members_depth (members_of a) ≤ n → members_depth (members_of b) ≤ n → members_depth (members_of c) ≤ n → members_depth (members_of (match_ordering o a b c)) ≤ n
depth-match_ordering Less a b c n p q r = p
depth-match_ordering Equal a b c n p q r = q
depth-match_ordering Greater a b c n p q r = r

pub members_depth-with_field : (k : List ℕ) (j : Json) (es : Pairs) (n : ℕ) → members_depth (members_of es) ≤ n → depth j ≤ n → members_depth (members_of (with_field k j es)) ≤ n
members_depth-with_field k j [] n h p = omega arith
members_depth-with_field k j (e ∷ es) n h p =
    depth-match_ordering (slice_cmp nat_cmp k e.0) ((k, j) ∷ e ∷ es) ((e.0, j) ∷ es) (e ∷ with_field k j es) n (omega arith) (omega arith) (omega (arith, members_depth-with_field k j es n (omega arith) p))

-- ---- the whole text

abbrev pub whole : Option (grammar.Json × List Token) → Option serde.Data
whole o = option_and_then of_json (option_and_then (λ p. if_last p.0 p.1) o)

pub whole_read : (o : Option (grammar.Json × List Token)) (d : serde.Data) → converted of_json o ≡ Some (d, []) → whole o ≡ Some d
whole_read o d e = let j = before_conversion of_json o d [] e in ap whole j.1 ∙ j.2
