-- A document is read as a set of rules exactly where it is the set's document, and the set may have one.
use Rattle.std.proofs.Common.{◌≡◌, ◌<◌, ◌≤◌, ◌+◌, ℕ, zero, suc, List, [], ◌∷◌, Bool, true, false, ◌&&◌, cond, Result, Ok, Err, Option, Some, None, Ordering, Less, Equal, Greater, nat_cmp, max, refl, ap, sym, subst, ◌∙◌, arith}
use Rattle.std.specs.Prelude.{ℤ, pos, negsuc, nat_lt}
use Rattle.std.specs.Ordering.{is_eq, match_ordering}
use Rattle.std.specs.Str.{bytes_eq}
use Rattle.std.specs.Cmp.Lexicographic.{slice_cmp}
use Rattle.std.proofs.lemmas.Bool.Decides.{nat_tests}
use Rattle.std.proofs.lemmas.Slice.Eq.{bytes_eq-Decides}
use Rattle.kj_value.specs.Json.{Json, null, boolean, whole, text, list, object, Items, no_items, item, Members, no_members, member}
use Rattle.struct_schema.specs.Names.{is_name}
use Rattle.struct_schema.specs.laws.NameLaws.{one_name, own_name}
use Rattle.hub_cells.specs.Level.{Name}
use Rattle.hub_rules.specs.Rule.{Rule, same, within, spoke_only, hub_only, split, table, scale, Rules, no_rules, rule, rules_of, rule_depth, inner_depth}
use Rattle.hub_rules.specs.declared.rules.TheConstants.{MAX_OBJECTS}
use Rattle.rule_reading.specs.Words.{word}
use Rattle.struct_schema.specs.PathText.{Path, here, in_name}
use Rattle.rule_reading.specs.Tried.{under_name, under_item, as_read, both, with_first, more}
use Rattle.rule_reading.specs.Shapes.{field_at, at_name, named_value, read_in, field_read, beyond, ended, text_read, two_items, two_read, names_read, scalar_read, pair_read, pairs_from, pairs_read, is_factor, factor_of, factor_read}
use Rattle.rule_reading.specs.RuleRead.{rule_size, rules_size, same_read, spoke_only_read, hub_only_read, split_read, table_read, scale_read, plain_read, within_by, rule_by, rule_read, within_read, rules_read, rules_from}
use Rattle.rule_reading.specs.SetRead.{Spoke, spoke_read, spokes_from, spokes_read, spokes_after, set_read}
use Rattle.rule_reading.specs.Written.{two, two_texts, pair_items, one_field, two_fields, table_fields, rule_document, rule_items, spoke_members, set_document, IsPlainScalar, ArePlainScalars, IsRegular, AreRegular, AreRules, AreSpokes, Spells}
use Rattle.rule_reading.specs.declared.rules.TheConstants.{MAX_RULES}
use Rattle.rule_reading.specs.declared.words.Word.{Word}
use Rattle.rule_reading.specs.declared.words.Word.TheVariants as w
use Rattle.rule_reading.proofs.Within.{field_is, within_ok, rule_by_ok}

-- ---- what was read, from what was read of it

ok_name : {A : Type 0} (n : Name) (r : Result A Path) (a : A) → under_name n r ≡ Ok a → r ≡ Ok a
ok_name n (Ok b) a e = e
ok_name n (Err p) a e = absurd (cc)

ok_item : {A : Type 0} (i : ℕ) (r : Result A Path) (a : A) → under_item i r ≡ Ok a → r ≡ Ok a
ok_item i (Ok b) a e = e
ok_item i (Err p) a e = absurd (cc)

ok_as : {A B : Type 0} (f : A → B) (r : Result A Path) (b : B) → as_read f r ≡ Ok b → (a : A) × (r ≡ Ok a) × (f a ≡ b)
ok_as f (Ok a) b e = (a, refl, cc)
ok_as f (Err p) b e = absurd (cc)

ok_both : {A B : Type 0} (r : Result A Path) (q : Result B Path) (p : A × B) → both r q ≡ Ok p → (r ≡ Ok p.0) × (q ≡ Ok p.1)
ok_both (Err x) q p e = absurd (cc)
ok_both (Ok a) (Err x) p e = absurd (cc)
ok_both {A = A} {B = B} (Ok a) (Ok b) p e =
    let s : (a, b) ≡ p = cc in
    let good : A → Result A Path = λ x. Ok x in
    let fine : B → Result B Path = λ x. Ok x in
    (ap (λ (z : A × B). good z.0) s, ap (λ (z : A × B). fine z.1) s)

ok_ended : {A : Type 0} (o : Option Path) (r : Result A Path) (a : A) → ended o r ≡ Ok a → (o ≡ None) × (r ≡ Ok a)
ok_ended None (Ok b) a e = (refl, e)
ok_ended (Some p) (Ok b) a e = absurd (cc)
ok_ended o (Err p) a e = absurd (cc)

ok_more : {A : Type 0} (r : Result A Path) (f : A → Result (List A) Path) (xs : List A) → more r f ≡ Ok xs → (a : A) × (bs : List A) × (r ≡ Ok a) × (f a ≡ Ok bs) × (a ∷ bs ≡ xs)
ok_more (Err p) f xs e = absurd (cc)
ok_more {A = A} (Ok a) f xs e = by_rest (f a) refl e
  where
    by_rest : (r : Result (List A) Path) → f a ≡ r → with_first a r ≡ Ok xs → (b : A) × (bs : List A) × (◌≡◌ {A = Result A Path} (Ok a) (Ok b)) × (f b ≡ Ok bs) × (b ∷ bs ≡ xs)
    by_rest (Ok bs) q h = (a, bs, refl, q, cc)
    by_rest (Err p) q h = absurd (cc)

name_is : {A : Type 0} (x k : Name) (r : Result A Path) (a : A) → at_name x k r ≡ Ok a → (k ≡ x) × (r ≡ Ok a)
name_is {A = A} x k r a e = by_order (slice_cmp nat_cmp k x) refl e
  where
    by_order : (o : Ordering) → slice_cmp nat_cmp k x ≡ o → match_ordering o (Err (in_name k here)) r (Err (in_name x here)) ≡ Ok a → (k ≡ x) × (r ≡ Ok a)
    by_order Less q h = absurd (cc)
    by_order Equal q h = (one_name k x (ap is_eq q), h)
    by_order Greater q h = absurd (cc)

own_at : {A : Type 0} (x : Name) (r : Result A Path) → at_name x x r ≡ r
own_at {A = A} x r = by_order (slice_cmp nat_cmp x x) (own_name x)
  where
    by_order : (o : Ordering) → is_eq o ≡ true → match_ordering o (Err (in_name x here)) r (Err (in_name x here)) ≡ r
    by_order Less q = absurd (cc)
    by_order Equal q = refl
    by_order Greater q = absurd (cc)

in_field : {A : Type 0} (x : Name) (f : Json → Result A Path) (o : Option (Name × Json)) (a : A) → read_in x f (named_value x o) ≡ Ok a → (j : Json) × (o ≡ Some (x, j)) × (f j ≡ Ok a)
in_field x f None a e = absurd (cc)
in_field x f (Some g) a e =
    let n = name_is x g.0 (under_name x (f g.1)) a (sym (field_is x g.0 g.1 f) ∙ e) in
    (g.1, ap (λ (k : Name). Some (k, g.1)) n.0, ok_name x (f g.1) a n.1)

ok_field : {A : Type 0} (x : Name) (f : Json → Result A Path) (i : ℕ) (ms : Members) (a : A) → field_read x f i ms ≡ Ok a → (j : Json) × (field_at i ms ≡ Some (x, j)) × (f j ≡ Ok a)
ok_field x f i ms a e = in_field x f (field_at i ms) a e

none_beyond : (o : Option (Name × Json)) → beyond o ≡ None → o ≡ None
none_beyond None e = refl
none_beyond (Some f) e = absurd (cc)

no_more : (ms : Members) → field_at 0 ms ≡ None → ms ≡ no_members
no_more no_members e = refl
no_more (member k j ms) e = absurd (cc)

first_is : (i : ℕ) (ms : Members) (f : Name × Json) → field_at 0 ms ≡ Some f → (rest : Members) × (ms ≡ member f.0 f.1 rest) × (field_at (suc i) ms ≡ field_at i rest)
first_is i no_members f e = absurd (cc)
first_is i (member k j ms) f e =
    let s : (k, j) ≡ f = cc in
    (ms, ap (λ (g : Name × Json). member g.0 g.1 ms) s, refl)

-- ---- parts of rules

text_is : (j : Json) (t : Name) → text_read j ≡ Ok t → j ≡ text t
text_is null t e = absurd (cc)
text_is (boolean b) t e = absurd (cc)
text_is (whole z) t e = absurd (cc)
text_is (text s) t e = cc
text_is (list js) t e = absurd (cc)
text_is (object ms) t e = absurd (cc)

two_is : {A : Type 0} (f : Json → Result A Path) (j : Json) (p : A × A) → two_read f (two_items j) ≡ Ok p → (a : Json) × (b : Json) × (j ≡ two a b) × (f a ≡ Ok p.0) × (f b ≡ Ok p.1)
two_is f null p e = absurd (cc)
two_is f (boolean b) p e = absurd (cc)
two_is f (whole z) p e = absurd (cc)
two_is f (text s) p e = absurd (cc)
two_is f (list no_items) p e = absurd (cc)
two_is f (list (item a no_items)) p e = absurd (cc)
two_is f (list (item a (item b no_items))) p e =
    let h = ok_both (under_item 0 (f a)) (under_item 1 (f b)) p e in
    (a, b, refl, ok_item 0 (f a) p.0 h.0, ok_item 1 (f b) p.1 h.1)
two_is f (list (item a (item b (item c js)))) p e = absurd (cc)
two_is f (object ms) p e = absurd (cc)

names_is : (j : Json) (p : Name × Name) → names_read j ≡ Ok p → j ≡ two_texts p.0 p.1
names_is j p e =
    let h = two_is text_read j p e in
    let a : h.0 ≡ text p.0 = text_is h.0 p.0 h.3 in
    let b : h.1 ≡ text p.1 = text_is h.1 p.1 h.4 in
    h.2 ∙ ap (λ (x : Json). two x h.1) a ∙ ap (λ (x : Json). two (text p.0) x) b

scalar_is : (j k : Json) → scalar_read j ≡ Ok k → (j ≡ k) × IsPlainScalar k
scalar_is null k e = let s : null ≡ k = cc in (s, subst IsPlainScalar s tt)
scalar_is (boolean b) k e = let s : boolean b ≡ k = cc in (s, subst IsPlainScalar s tt)
scalar_is (whole z) k e = let s : whole z ≡ k = cc in (s, subst IsPlainScalar s tt)
scalar_is (text t) k e = let s : text t ≡ k = cc in (s, subst IsPlainScalar s tt)
scalar_is (list js) k e = absurd (cc)
scalar_is (object ms) k e = absurd (cc)

scalar_read_back : (j : Json) → IsPlainScalar j → scalar_read j ≡ Ok j
scalar_read_back null h = refl
scalar_read_back (boolean b) h = refl
scalar_read_back (whole z) h = refl
scalar_read_back (text t) h = refl
scalar_read_back (list js) h = absurd h
scalar_read_back (object ms) h = absurd h

pairs_are : (i : ℕ) (js : Items) (ps : List (Json × Json)) → pairs_from i js ≡ Ok ps → (js ≡ pair_items ps) × ArePlainScalars ps
pairs_are i no_items ps e = let s : [] ≡ ps = cc in (ap pair_items s, subst ArePlainScalars s tt)
pairs_are i (item j js) ps e =
    let m = ok_more (under_item i (pair_read j)) (λ p. pairs_from (suc i) js) ps e in
    let t = two_is scalar_read j m.0 (ok_item i (pair_read j) m.0 m.2) in
    let a = scalar_is t.0 m.0.0 t.3 in
    let b = scalar_is t.1 m.0.1 t.4 in
    let rest = pairs_are (suc i) js m.1 m.3 in
    let here : j ≡ two m.0.0 m.0.1 = t.2 ∙ ap (λ (x : Json). two x t.1) a.0 ∙ ap (λ (x : Json). two m.0.0 x) b.0 in
    (ap (λ (x : Json). item x js) here ∙ ap (λ (x : Items). item (two m.0.0 m.0.1) x) rest.0 ∙ ap pair_items m.4, subst ArePlainScalars m.4 (a.1, b.1, rest.1))

listed_pairs : (j : Json) (ps : List (Json × Json)) → pairs_read j ≡ Ok ps → (j ≡ list (pair_items ps)) × ArePlainScalars ps
listed_pairs null ps e = absurd (cc)
listed_pairs (boolean b) ps e = absurd (cc)
listed_pairs (whole z) ps e = absurd (cc)
listed_pairs (text t) ps e = absurd (cc)
listed_pairs (list js) ps e = let h = pairs_are 0 js ps e in (ap (λ (x : Items). list x) h.0, h.1)
listed_pairs (object ms) ps e = absurd (cc)

pairs_read_back : (i : ℕ) (ps : List (Json × Json)) → ArePlainScalars ps → pairs_from i (pair_items ps) ≡ Ok ps
pairs_read_back i [] h = refl
pairs_read_back i (p ∷ ps) h =
    let P : Type 0 = List (Json × Json) in
    let f : Result Json Path → Result Json Path → Result P Path → Result P Path = λ a b r. more (under_item i (both (under_item 0 a) (under_item 1 b))) (λ q. r) in
    ap (λ (a : Result Json Path). f a (scalar_read p.1) (pairs_from (suc i) (pair_items ps))) (scalar_read_back p.0 h.0)
    ∙ ap (λ (b : Result Json Path). f (Ok p.0) b (pairs_from (suc i) (pair_items ps))) (scalar_read_back p.1 h.1)
    ∙ ap (λ (r : Result P Path). f (Ok p.0) (Ok p.1) r) (pairs_read_back (suc i) ps h.2)

-- a factor
factor_within : (k : ℕ) → is_factor k ≡ true → (2 ≤ k) × (k ≤ 1000000000)
factor_within k h = by_test (nat_lt 1 k) (nat_lt k 1000000001) refl refl h
  where
    low : nat_lt 1 k ≡ true → 2 ≤ k
    low e = grind (arith, nat_tests)

    high : nat_lt k 1000000001 ≡ true → k ≤ 1000000000
    high e = grind (arith, nat_tests)

    by_test : (a b : Bool) → nat_lt 1 k ≡ a → nat_lt k 1000000001 ≡ b → a && b ≡ true → (2 ≤ k) × (k ≤ 1000000000)
    by_test true true p q e = (low p, high q)
    by_test true false p q e = absurd (cc)
    by_test false b p q e = absurd (cc)

is_factor-within : (k : ℕ) → 2 ≤ k → k ≤ 1000000000 → is_factor k ≡ true
is_factor-within k p q =
    let a : nat_lt 1 k ≡ true = grind (arith, nat_tests) in
    let b : nat_lt k 1000000001 ≡ true = grind (arith, nat_tests) in
    rw (a, b) refl

factor_is : (j : Json) (k : ℕ) → factor_read j ≡ Ok k → (j ≡ whole (pos k)) × (2 ≤ k) × (k ≤ 1000000000)
factor_is null k e = absurd (cc)
factor_is (boolean b) k e = absurd (cc)
factor_is (whole (pos n)) k e = by_test (is_factor n) refl e
  where
    by_test : (b : Bool) → is_factor n ≡ b → cond b (Ok n) (Err here) ≡ Ok k → (whole (pos n) ≡ whole (pos k)) × (2 ≤ k) × (k ≤ 1000000000)
    by_test true q h =
        let s : n ≡ k = cc in
        let g = factor_within n q in
        (ap (λ (x : ℕ). whole (pos x)) s, subst (λ (x : ℕ). 2 ≤ x) s g.0, subst (λ (x : ℕ). x ≤ 1000000000) s g.1)
    by_test false q h = absurd (cc)
factor_is (whole (negsuc n)) k e = absurd (cc)
factor_is (text t) k e = absurd (cc)
factor_is (list js) k e = absurd (cc)
factor_is (object ms) k e = absurd (cc)

factor_read_back : (k : ℕ) → 2 ≤ k → k ≤ 1000000000 → factor_read (whole (pos k)) ≡ Ok k
factor_read_back k p q = ap (λ (b : Bool). cond b (Ok k) (Err here)) (is_factor-within k p q)

-- ---- objects of two names

two_fields_are : {A B : Type 0} (x y : Word) (f : Json → Result A Path) (g : Json → Result B Path) (ms : Members) (p : A × B) → beyond (field_at 2 ms) ≡ None → both (field_read (word x) f 0 ms) (field_read (word y) g 1 ms) ≡ Ok p
    → (i : Json) × (j : Json) × (object ms ≡ two_fields x i y j) × (f i ≡ Ok p.0) × (g j ≡ Ok p.1)
two_fields_are x y f g ms p last e =
    let b = ok_both (field_read (word x) f 0 ms) (field_read (word y) g 1 ms) p e in
    let u = ok_field (word x) f 0 ms p.0 b.0 in
    let v = ok_field (word y) g 1 ms p.1 b.1 in
    let m = first_is 0 ms (word x, u.0) u.1 in
    let n = first_is 0 m.0 (word y, v.0) (sym (second ms m.0 (word x) u.0 m.1) ∙ v.1) in
    let z : n.0 ≡ no_members = no_more n.0 (sym (third ms m.0 n.0 (word x) (word y) u.0 v.0 m.1 n.1) ∙ none_beyond (field_at 2 ms) last) in
    (u.0, v.0, ap (λ (t : Members). object t) (m.1 ∙ ap (λ (t : Members). member (word x) u.0 t) (n.1 ∙ ap (λ (t : Members). member (word y) v.0 t) z)), u.2, v.2)
  where
    second : (ms rest : Members) (k : Name) (i : Json) → ms ≡ member k i rest → field_at 1 ms ≡ field_at 0 rest
    second ms rest k i q = ap (λ (t : Members). field_at 1 t) q

    third : (ms rest more : Members) (k l : Name) (i j : Json) → ms ≡ member k i rest → rest ≡ member l j more → field_at 2 ms ≡ field_at 0 more
    third ms rest more k l i j q r =
        ap (λ (t : Members). field_at 2 t) q ∙ ap (λ (t : Members). field_at 1 t) r

-- an object of four names
table_is : (ms : Members) (r : Rule) → table_read (object ms) ≡ Ok r → (a : Name) × (b : Name) × (ps : List (Json × Json)) × (x : Json) × (y : Json) × (r ≡ table a b ps x y) × (ms ≡ table_fields a b ps x y) × (ArePlainScalars ps × IsPlainScalar x × IsPlainScalar y)
table_is ms r e =
    let h = ok_ended (beyond (field_at 4 ms)) _ r e in
    let s = ok_as (λ (p : Json × ((Name × Name) × (List (Json × Json) × Json))). table p.1.0.0 p.1.0.1 p.1.1.0 p.1.1.1 p.0) _ r h.1 in
    let p = s.0 in
    let b1 = ok_both _ _ p s.1 in
    let b2 = ok_both _ _ p.1 b1.1 in
    let b3 = ok_both _ _ p.1.1 b2.1 in
    let u1 = ok_field (word w.HubBlank) scalar_read 0 ms p.0 b1.0 in
    let u2 = ok_field (word w.Names) names_read 1 ms p.1.0 b2.0 in
    let u3 = ok_field (word w.Pairs) pairs_read 2 ms p.1.1.0 b3.0 in
    let u4 = ok_field (word w.SpokeBlank) scalar_read 3 ms p.1.1.1 b3.1 in
    let y = scalar_is u1.0 p.0 u1.2 in
    let ns = names_is u2.0 p.1.0 u2.2 in
    let ps = listed_pairs u3.0 p.1.1.0 u3.2 in
    let x = scalar_is u4.0 p.1.1.1 u4.2 in
    let m = four ms (word w.HubBlank) (word w.Names) (word w.Pairs) (word w.SpokeBlank) u1.0 u2.0 u3.0 u4.0 u1.1 u2.1 u3.1 u4.1 (none_beyond (field_at 4 ms) h.0) in
    (p.1.0.0, p.1.0.1, p.1.1.0, p.1.1.1, p.0, sym s.2, m ∙ filled u1.0 u2.0 u3.0 u4.0 p.0 (two_texts p.1.0.0 p.1.0.1) (list (pair_items p.1.1.0)) p.1.1.1 y.0 ns ps.0 x.0, (ps.1, x.1, y.1))
  where
    filled : (a b c d a' b' c' d' : Json) → a ≡ a' → b ≡ b' → c ≡ c' → d ≡ d'
        → member (word w.HubBlank) a (member (word w.Names) b (member (word w.Pairs) c (member (word w.SpokeBlank) d no_members))) ≡ member (word w.HubBlank) a' (member (word w.Names) b' (member (word w.Pairs) c' (member (word w.SpokeBlank) d' no_members)))
    filled a b c d a' b' c' d' p q r s = cc

    four : (ms : Members) (k l m n : Name) (a b c d : Json) → field_at 0 ms ≡ Some (k, a) → field_at 1 ms ≡ Some (l, b) → field_at 2 ms ≡ Some (m, c) → field_at 3 ms ≡ Some (n, d) → field_at 4 ms ≡ None
        → ms ≡ member k a (member l b (member m c (member n d no_members)))
    four no_members k l m n a b c d p q r s t = absurd (cc)
    four (member k1 a1 no_members) k l m n a b c d p q r s t = absurd (cc)
    four (member k1 a1 (member k2 a2 no_members)) k l m n a b c d p q r s t = absurd (cc)
    four (member k1 a1 (member k2 a2 (member k3 a3 no_members))) k l m n a b c d p q r s t = absurd (cc)
    four (member k1 a1 (member k2 a2 (member k3 a3 (member k4 a4 no_members)))) k l m n a b c d p q r s t =
        let e1 : (k1, a1) ≡ (k, a) = cc in
        let e2 : (k2, a2) ≡ (l, b) = cc in
        let e3 : (k3, a3) ≡ (m, c) = cc in
        let e4 : (k4, a4) ≡ (n, d) = cc in
        ap (λ (f : Name × Json). member f.0 f.1 (member k2 a2 (member k3 a3 (member k4 a4 no_members)))) e1
        ∙ ap (λ (f : Name × Json). member k a (member f.0 f.1 (member k3 a3 (member k4 a4 no_members)))) e2
        ∙ ap (λ (f : Name × Json). member k a (member l b (member f.0 f.1 (member k4 a4 no_members)))) e3
        ∙ ap (λ (f : Name × Json). member k a (member l b (member m c (member f.0 f.1 no_members)))) e4
    four (member k1 a1 (member k2 a2 (member k3 a3 (member k4 a4 (member k5 a5 ms))))) k l m n a b c d p q r s t = absurd (cc)

-- ---- rules without others inside them

record IsSpelled (k : Name) (j : Json) (r : Rule) : Type 0 where
  document : object (member k j no_members) ≡ rule_document r
  regular : IsRegular r
  depth : rule_depth r ≡ 0
  size : rule_size r ≡ 1

abbrev Field : Word → Json → Json
Field x j = object (member (word x) j no_members)

same_is : (j : Json) (r : Rule) → same_read j ≡ Ok r → IsSpelled (word w.Same) j r
same_is j r e =
    let s = ok_as (λ (p : Name × Name). same p.0 p.1) (names_read j) r e in
    subst (λ (x : Rule). IsSpelled (word w.Same) j x) s.2 (record { document = ap (Field w.Same) (names_is j s.0 s.1); regular = tt; depth = refl; size = refl })

spoke_only_is : (j : Json) (r : Rule) → spoke_only_read j ≡ Ok r → IsSpelled (word w.SpokeOnly) j r
spoke_only_is j r e =
    let s = ok_as spoke_only (text_read j) r e in
    subst (λ (x : Rule). IsSpelled (word w.SpokeOnly) j x) s.2 (record { document = ap (Field w.SpokeOnly) (text_is j s.0 s.1); regular = tt; depth = refl; size = refl })

hub_only_is : (j : Json) (r : Rule) → hub_only_read j ≡ Ok r → IsSpelled (word w.HubOnly) j r
hub_only_is j r e =
    let s = ok_as hub_only (text_read j) r e in
    subst (λ (x : Rule). IsSpelled (word w.HubOnly) j x) s.2 (record { document = ap (Field w.HubOnly) (text_is j s.0 s.1); regular = tt; depth = refl; size = refl })

split_is : (j : Json) (r : Rule) → split_read j ≡ Ok r → IsSpelled (word w.Split) j r
split_is null r e = absurd (cc)
split_is (boolean b) r e = absurd (cc)
split_is (whole z) r e = absurd (cc)
split_is (text t) r e = absurd (cc)
split_is (list js) r e = absurd (cc)
split_is (object ms) r e =
    let h = ok_ended (beyond (field_at 2 ms)) _ r e in
    let s = ok_as (λ (p : (Name × Name) × Name). split p.1 p.0.0 p.0.1) _ r h.1 in
    let t = two_fields_are w.Hub w.Spoke names_read text_read ms s.0 h.0 s.1 in
    let a : t.0 ≡ two_texts s.0.0.0 s.0.0.1 = names_is t.0 s.0.0 t.3 in
    let b : t.1 ≡ text s.0.1 = text_is t.1 s.0.1 t.4 in
    subst (λ (x : Rule). IsSpelled (word w.Split) (object ms) x) s.2 (record {
      document = ap (Field w.Split) (t.2 ∙ ap (λ (x : Json). two_fields w.Hub x w.Spoke t.1) a ∙ ap (λ (x : Json). two_fields w.Hub (two_texts s.0.0.0 s.0.0.1) w.Spoke x) b);
      regular = tt;
      depth = refl;
      size = refl;
    })

scale_is : (j : Json) (r : Rule) → scale_read j ≡ Ok r → IsSpelled (word w.Scale) j r
scale_is null r e = absurd (cc)
scale_is (boolean b) r e = absurd (cc)
scale_is (whole z) r e = absurd (cc)
scale_is (text t) r e = absurd (cc)
scale_is (list js) r e = absurd (cc)
scale_is (object ms) r e =
    let h = ok_ended (beyond (field_at 2 ms)) _ r e in
    let s = ok_as (λ (p : ℕ × (Name × Name)). scale p.1.0 p.1.1 p.0) _ r h.1 in
    let t = two_fields_are w.By w.Names factor_read names_read ms s.0 h.0 s.1 in
    let a = factor_is t.0 s.0.0 t.3 in
    let b : t.1 ≡ two_texts s.0.1.0 s.0.1.1 = names_is t.1 s.0.1 t.4 in
    subst (λ (x : Rule). IsSpelled (word w.Scale) (object ms) x) s.2 (record {
      document = ap (Field w.Scale) (t.2 ∙ ap (λ (x : Json). two_fields w.By x w.Names t.1) a.0 ∙ ap (λ (x : Json). two_fields w.By (whole (pos s.0.0)) w.Names x) b);
      regular = (a.1, a.2);
      depth = refl;
      size = refl;
    })

table_spelled : (j : Json) (r : Rule) → table_read j ≡ Ok r → IsSpelled (word w.Table) j r
table_spelled null r e = absurd (cc)
table_spelled (boolean b) r e = absurd (cc)
table_spelled (whole z) r e = absurd (cc)
table_spelled (text t) r e = absurd (cc)
table_spelled (list js) r e = absurd (cc)
table_spelled (object ms) r e =
    let t = table_is ms r e in
    subst (λ (x : Rule). IsSpelled (word w.Table) (object ms) x) (sym t.5) (record {
      document = ap (λ (x : Members). Field w.Table (object x)) t.6;
      regular = t.7;
      depth = refl;
      size = refl;
    })

named : (k : Name) (x : Word) (j : Json) (r : Rule) → bytes_eq k (word x) ≡ true → IsSpelled (word x) j r → IsSpelled k j r
named k x j r q h = subst (λ (z : Name). IsSpelled z j r) (sym ((bytes_eq-Decides k (word x)).0 q)) h

choose : (b : Bool) (x y : Result Rule Path) (r : Rule) (P : Type 0) → cond b x y ≡ Ok r → (b ≡ true → x ≡ Ok r → P) → (y ≡ Ok r → P) → P
choose true x y r P e f g = f refl e
choose false x y r P e f g = g e

plain_is : (k : Name) (j : Json) (r : Rule) → plain_read k j ≡ Ok r → IsSpelled k j r
plain_is k j r e =
    let P : Type 0 = IsSpelled k j r in
    choose (bytes_eq k (word w.Same)) (same_read j) _ r P e (λ q h. named k w.Same j r q (same_is j r h)) (λ e1.
    choose (bytes_eq k (word w.SpokeOnly)) (spoke_only_read j) _ r P e1 (λ q h. named k w.SpokeOnly j r q (spoke_only_is j r h)) (λ e2.
    choose (bytes_eq k (word w.HubOnly)) (hub_only_read j) _ r P e2 (λ q h. named k w.HubOnly j r q (hub_only_is j r h)) (λ e3.
    choose (bytes_eq k (word w.Split)) (split_read j) _ r P e3 (λ q h. named k w.Split j r q (split_is j r h)) (λ e4.
    choose (bytes_eq k (word w.Table)) (table_read j) _ r P e4 (λ q h. named k w.Table j r q (table_spelled j r h)) (λ e5.
    choose (bytes_eq k (word w.Scale)) (scale_read j) (Err here) r P e5 (λ q h. named k w.Scale j r q (scale_is j r h)) (λ e6. absurd (cc)))))))

-- ---- all rules

record RuleSpelled (d n : ℕ) (j : Json) (r : Rule) : Type 0 where
  document : j ≡ rule_document r
  regular : IsRegular r
  depth : d + rule_depth r ≤ 8
  size : n + rule_size r ≤ 64

record RulesSpelled (d n : ℕ) (js : Items) (rs : Rules) : Type 0 where
  documents : js ≡ rule_items rs
  regular : AreRegular rs
  depth : d + inner_depth rs ≤ 8
  size : n + rules_size rs ≤ 64

-- the value of an `object` rule
record WithinSpelled (d n : ℕ) (j : Json) (r : Rule) : Type 0 where
  spoke : Name
  hub : Name
  rules : List Rule
  listed : Items
  is : within spoke hub (rules_of rules) ≡ r
  document : j ≡ two_fields w.Names (two_texts spoke hub) w.Rules (list listed)
  spelled : RulesSpelled d n listed (rules_of rules)

below : (n m : ℕ) → nat_lt n m ≡ true → n < m
below n m h = grind (arith, nat_tests)

above : (n m : ℕ) → n < m → nat_lt n m ≡ true
above n m h = grind (arith, nat_tests)

plain_spelled : (d n : ℕ) (k : Name) (j : Json) (r : Rule) → d ≤ 8 → n < 64 → IsSpelled k j r → RuleSpelled d n (object (member k j no_members)) r
plain_spelled d n k j r h few s = record {
  document = s.document;
  regular = s.regular;
  depth = let e : rule_depth r ≡ 0 = s.depth in omega (arith, e);
  size = let e : rule_size r ≡ 1 = s.size in omega (arith, e);
}

object_spelled : (d n : ℕ) (k : Name) (j : Json) (r : Rule) → bytes_eq k (word w.Object) ≡ true → WithinSpelled (d + 1) (n + 1) j r → RuleSpelled d n (object (member k j no_members)) r
object_spelled d n k j r q v =
    subst (λ (x : Rule). RuleSpelled d n (object (member k j no_members)) x) v.is (record {
      document = ap (λ (x : Name). object (member x j no_members)) ((bytes_eq-Decides k (word w.Object)).0 q) ∙ ap (Field w.Object) (v.document ∙ ap (λ (x : Items). two_fields w.Names (two_texts v.spoke v.hub) w.Rules (list x)) v.spelled.documents);
      regular = v.spelled.regular;
      depth = let e : (d + 1) + inner_depth (rules_of v.rules) ≤ 8 = v.spelled.depth in omega (arith, e);
      size = let e : (n + 1) + rules_size (rules_of v.rules) ≤ 64 = v.spelled.size in omega (arith, e);
    })

by_name : (d n : ℕ) (k : Name) (j : Json) (r : Rule) (inner : Result Rule Path) → d ≤ 8 → (d < 8 → n < 64 → inner ≡ Ok r → WithinSpelled (d + 1) (n + 1) j r) → rule_by d n k j inner ≡ Ok r → RuleSpelled d n (object (member k j no_members)) r
by_name d n k j r inner h deeper e =
    let G : Type 0 = RuleSpelled d n (object (member k j no_members)) r in
    choose (nat_lt n MAX_RULES) _ (Err here) r G e (λ few e1.
    choose (bytes_eq k (word w.Object)) _ (under_name k (plain_read k j)) r G e1 (λ q e2.
    choose (nat_lt d MAX_OBJECTS) (under_name k inner) (Err here) r G e2 (λ shallow e3. object_spelled d n k j r q (deeper (below d 8 shallow) (below n 64 few) (ok_name k inner r e3))) (λ e3. absurd (cc)))
    (λ e2. plain_spelled d n k j r h (below n 64 few) (plain_is k j r (ok_name k (plain_read k j) r e2))))
    (λ e1. absurd (cc))

alone : (a : Result (Name × Name) Path) (p : Path) (r : Rule) → within_by (both a (Err p)) ≡ Ok r → ⊥
alone (Ok a) p r e = cc
alone (Err q) p r e = cc

whole_object : (k l : Name) (j i : Json) (ms : Members) (k' l' : Name) (j' i' : Json) → k ≡ k' → l ≡ l' → j ≡ j' → i ≡ i' → ms ≡ no_members → object (member k j (member l i ms)) ≡ object (member k' j' (member l' i' no_members))
whole_object k l j i ms k' l' j' i' p q r s t = cc

none_spelled : (d n : ℕ) → d ≤ 8 → n ≤ 64 → RulesSpelled d n no_items no_rules
none_spelled d n h m = record { documents = refl; regular = tt; depth = omega arith; size = omega arith }

more_spelled : (d n : ℕ) (j : Json) (js : Items) (r : Rule) (rs : Rules) → RuleSpelled d n j r → RulesSpelled d (n + rule_size r) js rs → RulesSpelled d n (item j js) (rule r rs)
more_spelled d n j js r rs a b = record {
  documents = ap (λ (x : Json). item x js) a.document ∙ ap (λ (x : Items). item (rule_document r) x) b.documents;
  regular = (a.regular, b.regular);
  depth = let p : d + rule_depth r ≤ 8 = a.depth in let q : d + inner_depth rs ≤ 8 = b.depth in omega (arith, p, q);
  size = let q : (n + rule_size r) + rules_size rs ≤ 64 = b.size in omega (arith, q);
}

mutual
  rule_spelled : (d n : ℕ) (j : Json) (r : Rule) → d ≤ 8 → rule_read d n j ≡ Ok r → RuleSpelled d n j r
  rule_spelled d n null r h e = absurd (cc)
  rule_spelled d n (boolean b) r h e = absurd (cc)
  rule_spelled d n (whole z) r h e = absurd (cc)
  rule_spelled d n (text t) r h e = absurd (cc)
  rule_spelled d n (list js) r h e = absurd (cc)
  rule_spelled d n (object no_members) r h e = absurd (cc)
  rule_spelled d n (object (member k j no_members)) r h e =
      by_name d n k j r (within_read (d + 1) (n + 1) j) h (λ shallow few f. within_spelled (d + 1) (n + 1) j r (omega arith) (omega arith) f) e
  rule_spelled d n (object (member k j (member l i ms))) r h e = absurd (cc)

  within_spelled : (d n : ℕ) (j : Json) (r : Rule) → d ≤ 8 → n ≤ 64 → within_read d n j ≡ Ok r → WithinSpelled d n j r
  within_spelled d n null r h m e = absurd (cc)
  within_spelled d n (boolean b) r h m e = absurd (cc)
  within_spelled d n (whole z) r h m e = absurd (cc)
  within_spelled d n (text t) r h m e = absurd (cc)
  within_spelled d n (list js) r h m e = absurd (cc)
  within_spelled d n (object no_members) r h m e = absurd (cc)
  within_spelled d n (object (member k j no_members)) r h m e = absurd (alone _ _ r e)
  within_spelled d n (object (member k j (member l i ms))) r h m e =
      let g = ok_ended (beyond (field_at 0 ms)) _ r e in
      let s = ok_as (λ (p : (Name × Name) × List Rule). within p.0.0 p.0.1 (rules_of p.1)) _ r g.1 in
      let b = ok_both (at_name (word w.Names) k (under_name (word w.Names) (names_read j))) (at_name (word w.Rules) l (under_name (word w.Rules) (rules_read d n i))) s.0 s.1 in
      let x = name_is (word w.Names) k (under_name (word w.Names) (names_read j)) s.0.0 b.0 in
      let y = name_is (word w.Rules) l (under_name (word w.Rules) (rules_read d n i)) s.0.1 b.1 in
      let names : j ≡ two_texts s.0.0.0 s.0.0.1 = names_is j s.0.0 (ok_name (word w.Names) (names_read j) s.0.0 x.1) in
      let inner = rules_spelled d n i s.0.1 h m (ok_name (word w.Rules) (rules_read d n i) s.0.1 y.1) in
      record {
        spoke = s.0.0.0;
        hub = s.0.0.1;
        rules = s.0.1;
        listed = inner.0;
        is = s.2;
        document = whole_object k l j i ms (word w.Names) (word w.Rules) (two_texts s.0.0.0 s.0.0.1) (list inner.0) x.0 y.0 names inner.1 (no_more ms (none_beyond (field_at 0 ms) g.0));
        spelled = inner.2;
      }

  rules_spelled : (d n : ℕ) (j : Json) (rs : List Rule) → d ≤ 8 → n ≤ 64 → rules_read d n j ≡ Ok rs → (js : Items) × (j ≡ list js) × RulesSpelled d n js (rules_of rs)
  rules_spelled d n null rs h m e = absurd (cc)
  rules_spelled d n (boolean b) rs h m e = absurd (cc)
  rules_spelled d n (whole z) rs h m e = absurd (cc)
  rules_spelled d n (text t) rs h m e = absurd (cc)
  rules_spelled d n (list js) rs h m e = (js, refl, from_spelled d n 0 js rs h m e)
  rules_spelled d n (object ms) rs h m e = absurd (cc)

  from_spelled : (d n i : ℕ) (js : Items) (rs : List Rule) → d ≤ 8 → n ≤ 64 → rules_from d n i js ≡ Ok rs → RulesSpelled d n js (rules_of rs)
  from_spelled d n i no_items rs h m e = let s : [] ≡ rs = cc in subst (λ (xs : List Rule). RulesSpelled d n no_items (rules_of xs)) s (none_spelled d n h m)
  from_spelled d n i (item j js) rs h m e =
      let g = ok_more (under_item i (rule_read d n j)) (λ r. rules_from d (n + rule_size r) (suc i) js) rs e in
      let here : RuleSpelled d n j g.0 = rule_spelled d n j g.0 h (ok_item i (rule_read d n j) g.0 g.2) in
      let later : RulesSpelled d (n + rule_size g.0) js (rules_of g.1) = from_spelled d (n + rule_size g.0) (suc i) js g.1 h here.size g.3 in
      subst (λ (xs : List Rule). RulesSpelled d n (item j js) (rules_of xs)) g.4 (more_spelled d n j js g.0 (rules_of g.1) here later)

-- ---- and back: a rule's document is read as the rule

abbrev list_of : Rules → List Rule
list_of no_rules = []
list_of (rule r rs) = r ∷ list_of rs

list_of-is : (rs : Rules) → rules_of (list_of rs) ≡ rs
list_of-is no_rules = refl
list_of-is (rule r rs) = ap (rule r) (list_of-is rs)

is_list_of : (rs : List Rule) → list_of (rules_of rs) ≡ rs
is_list_of [] = refl
is_list_of (r ∷ rs) = ap (λ (xs : List Rule). r ∷ xs) (is_list_of rs)

abbrev in_place : ℕ → Name → Json → Result Rule Path → Bool → Bool → Result Rule Path
in_place d k j r few is_object =
    cond few (cond is_object (cond (nat_lt d MAX_OBJECTS) (under_name k r) (Err here)) (under_name k (plain_read k j))) (Err here)

plain_back : (d n : ℕ) (k : Name) (j : Json) (r : Rule) → n < 64 → bytes_eq k (word w.Object) ≡ false → plain_read k j ≡ Ok r → rule_by d n k j (within_read (d + 1) (n + 1) j) ≡ Ok r
plain_back d n k j r few q e =
    let inner : Result Rule Path = within_read (d + 1) (n + 1) j in
    ap (λ (b : Bool). in_place d k j inner b (bytes_eq k (word w.Object))) (above n 64 few) ∙ ap (λ (b : Bool). in_place d k j inner true b) q ∙ ap (λ (x : Result Rule Path). under_name k x) e

same_back : (a b : Name) → plain_read (word w.Same) (two_texts a b) ≡ Ok (same a b)
unfolding word
same_back a b = refl

spoke_only_back : (a : Name) → plain_read (word w.SpokeOnly) (text a) ≡ Ok (spoke_only a)
unfolding word
spoke_only_back a = refl

hub_only_back : (a : Name) → plain_read (word w.HubOnly) (text a) ≡ Ok (hub_only a)
unfolding word
hub_only_back a = refl

split_back : (a b c : Name) → plain_read (word w.Split) (two_fields w.Hub (two_texts b c) w.Spoke (text a)) ≡ Ok (split a b c)
unfolding word
split_back a b c = refl

abbrev scale_from : ℕ × (Name × Name) → Rule
scale_from p = scale p.1.0 p.1.1 p.0

abbrev table_from : Json × ((Name × Name) × (List (Json × Json) × Json)) → Rule
table_from p = table p.1.0.0 p.1.0.1 p.1.1.0 p.1.1.1 p.0

scale_by : (a b : Name) (k : ℕ) → plain_read (word w.Scale) (two_fields w.By (whole (pos k)) w.Names (two_texts a b)) ≡ ended None (as_read scale_from (both (under_name (word w.By) (factor_read (whole (pos k)))) (Ok (a, b))))
unfolding word
scale_by a b k = refl

scale_back : (a b : Name) (k : ℕ) → 2 ≤ k → k ≤ 1000000000 → plain_read (word w.Scale) (two_fields w.By (whole (pos k)) w.Names (two_texts a b)) ≡ Ok (scale a b k)
scale_back a b k p q =
    scale_by a b k ∙ ap (λ (r : Result ℕ Path). ended None (as_read scale_from (both (under_name (word w.By) r) (Ok (a, b))))) (factor_read_back k p q)

abbrev table_of : Name → Name → Result Json Path → Result (List (Json × Json)) Path → Result Json Path → Result Rule Path
table_of a b ry rp rx =
    ended None (as_read table_from (both (under_name (word w.HubBlank) ry) (both (Ok (a, b)) (both (under_name (word w.Pairs) rp) (under_name (word w.SpokeBlank) rx)))))

table_by : (a b : Name) (ps : List (Json × Json)) (x y : Json) → plain_read (word w.Table) (object (table_fields a b ps x y)) ≡ table_of a b (scalar_read y) (pairs_from 0 (pair_items ps)) (scalar_read x)
unfolding word
table_by a b ps x y = refl

table_back : (a b : Name) (ps : List (Json × Json)) (x y : Json) → ArePlainScalars ps → IsPlainScalar x → IsPlainScalar y → plain_read (word w.Table) (object (table_fields a b ps x y)) ≡ Ok (table a b ps x y)
table_back a b ps x y p q r =
    table_by a b ps x y ∙ ap (λ (z : Result Json Path). table_of a b z (pairs_from 0 (pair_items ps)) (scalar_read x)) (scalar_read_back y r) ∙ ap (λ (z : Result (List (Json × Json)) Path). table_of a b (Ok y) z (scalar_read x)) (pairs_read_back 0 ps p)
    ∙ ap (λ (z : Result Json Path). table_of a b (Ok y) (Ok ps) z) (scalar_read_back x q)

same_word : bytes_eq (word w.Same) (word w.Object) ≡ false
unfolding word
same_word = refl

spoke_only_word : bytes_eq (word w.SpokeOnly) (word w.Object) ≡ false
unfolding word
spoke_only_word = refl

hub_only_word : bytes_eq (word w.HubOnly) (word w.Object) ≡ false
unfolding word
hub_only_word = refl

split_word : bytes_eq (word w.Split) (word w.Object) ≡ false
unfolding word
split_word = refl

table_word : bytes_eq (word w.Table) (word w.Object) ≡ false
unfolding word
table_word = refl

scale_word : bytes_eq (word w.Scale) (word w.Object) ≡ false
unfolding word
scale_word = refl

object_word : bytes_eq (word w.Object) (word w.Object) ≡ true
object_word = (bytes_eq-Decides (word w.Object) (word w.Object)).1 refl

names_at : (a b : Name) (ts : Rules) → Ok (a, b) ≡ field_read (word w.Names) names_read 0 (member (word w.Names) (two_texts a b) (member (word w.Rules) (list (rule_items ts)) no_members))
unfolding word
names_at a b ts = refl

rules_at : (a b : Name) (ts : Rules) → Ok (list (rule_items ts)) ≡ named_value (word w.Rules) (field_at 1 (member (word w.Names) (two_texts a b) (member (word w.Rules) (list (rule_items ts)) no_members)))
unfolding word
rules_at a b ts = refl

within_back : (d n : ℕ) (a b : Name) (ts : Rules) → rules_from d n 0 (rule_items ts) ≡ Ok (list_of ts) → within_read d n (two_fields w.Names (two_texts a b) w.Rules (list (rule_items ts))) ≡ Ok (within a b ts)
within_back d n a b ts e =
    sym (within_ok d n (member (word w.Names) (two_texts a b) (member (word w.Rules) (list (rule_items ts)) no_members)) (a, b) (list (rule_items ts)) (list_of ts) (names_at a b ts) (rules_at a b ts) (sym e) refl) ∙ ap (λ (x : Rules). Ok (within a b x)) (list_of-is ts)

object_back : (d n : ℕ) (j : Json) (inner : Result Rule Path) (r : Rule) → d < 8 → n < 64 → inner ≡ Ok r → rule_by d n (word w.Object) j inner ≡ Ok r
object_back d n j inner r shallow few e =
    ap (λ (x : Result Rule Path). rule_by d n (word w.Object) j x) e ∙ sym (rule_by_ok d n (word w.Object) j r few object_word shallow)

mutual
  rule_back : (d n : ℕ) (r : Rule) → IsRegular r → d + rule_depth r ≤ 8 → n + rule_size r ≤ 64 → rule_read d n (rule_document r) ≡ Ok r
  rule_back d n (same a b) p h m =
      plain_back d n (word w.Same) (two_texts a b) (same a b) (omega arith) same_word (same_back a b)
  rule_back d n (within a b ts) p h m =
      object_back d n (two_fields w.Names (two_texts a b) w.Rules (list (rule_items ts))) (within_read (d + 1) (n + 1) (two_fields w.Names (two_texts a b) w.Rules (list (rule_items ts)))) (within a b ts) (omega arith) (omega arith) (within_back (d + 1) (n + 1) a b ts (rules_back (d + 1) (n + 1) 0 ts p (omega arith) (omega arith)))
  rule_back d n (spoke_only a) p h m =
      plain_back d n (word w.SpokeOnly) (text a) (spoke_only a) (omega arith) spoke_only_word (spoke_only_back a)
  rule_back d n (hub_only b) p h m =
      plain_back d n (word w.HubOnly) (text b) (hub_only b) (omega arith) hub_only_word (hub_only_back b)
  rule_back d n (split a b c) p h m =
      plain_back d n (word w.Split) (two_fields w.Hub (two_texts b c) w.Spoke (text a)) (split a b c) (omega arith) split_word (split_back a b c)
  rule_back d n (table a b ps x y) p h m =
      plain_back d n (word w.Table) (object (table_fields a b ps x y)) (table a b ps x y) (omega arith) table_word (table_back a b ps x y p.0 p.1 p.2)
  rule_back d n (scale a b k) p h m =
      plain_back d n (word w.Scale) (two_fields w.By (whole (pos k)) w.Names (two_texts a b)) (scale a b k) (omega arith) scale_word (scale_back a b k p.0 p.1)

  rules_back : (d n i : ℕ) (rs : Rules) → AreRegular rs → d + inner_depth rs ≤ 8 → n + rules_size rs ≤ 64 → rules_from d n i (rule_items rs) ≡ Ok (list_of rs)
  rules_back d n i no_rules p h m = refl
  rules_back d n i (rule r rs) p h m =
      ap (λ (x : Result Rule Path). more (under_item i x) (λ y. rules_from d (n + rule_size y) (suc i) (rule_items rs))) (rule_back d n r p.0 (omega arith) (omega arith)) ∙ ap (with_first r) (rules_back d (n + rule_size r) (suc i) rs p.1 (omega arith) (omega arith))

-- ---- the set

abbrev rules_or_hub : Bool → Json → Result (List Rule) Path
rules_or_hub b j = cond b (Err here) (rules_read 0 0 j)

one_spoke : (h k : Name) (j : Json) (s : Spoke) → spoke_read h k j ≡ Ok s → (member k j no_members ≡ spoke_members (s ∷ [])) × (s.0 ≡ h → ⊥) × AreRules (rules_of s.1)
one_spoke h k j s e =
    let a = ok_as (λ (rs : List Rule). (k, rs)) (under_name k (rules_or_hub (bytes_eq k h) j)) s e in
    by_test (bytes_eq k h) refl a.0 (ok_name k (rules_or_hub (bytes_eq k h) j) a.0 a.1) a.2
  where
    by_test : (b : Bool) → bytes_eq k h ≡ b → (rs : List Rule) → rules_or_hub b j ≡ Ok rs → (k, rs) ≡ s → (member k j no_members ≡ spoke_members (s ∷ [])) × (s.0 ≡ h → ⊥) × AreRules (rules_of s.1)
    by_test true q rs f g = absurd (cc)
    by_test false q rs f g =
        let v = rules_spelled 0 0 j rs (omega arith) (omega arith) f in
        let d : j ≡ list (rule_items (rules_of rs)) = v.1 ∙ ap (λ (x : Items). list x) v.2.documents in
        subst (λ (t : Spoke). (member k j no_members ≡ spoke_members (t ∷ [])) × (t.0 ≡ h → ⊥) × AreRules (rules_of t.1)) g (
          ap (λ (x : Json). member k x no_members) d,
          (λ same. let e : true ≡ false = sym ((bytes_eq-Decides k h).1 same) ∙ q in cc),
          record {
            regular = v.2.regular;
            few = let z : 0 + rules_size (rules_of rs) ≤ 64 = v.2.size in omega (arith, z);
            shallow = let z : 0 + inner_depth (rules_of rs) ≤ 8 = v.2.depth in omega (arith, z);
          },
        )

first_spoke : (k : Name) (j : Json) (s : Spoke) (ms ns : Members) → member k j no_members ≡ spoke_members (s ∷ []) → ms ≡ ns → member k j ms ≡ member s.0 (list (rule_items (rules_of s.1))) ns
first_spoke k j s ms ns e f = cc

spokes_are : (h : Name) (ms : Members) (ss : List Spoke) → spokes_from h ms ≡ Ok ss → (ms ≡ spoke_members ss) × AreSpokes h ss
spokes_are h no_members ss e = let s : [] ≡ ss = cc in (ap spoke_members s, subst (AreSpokes h) s tt)
spokes_are h (member k j ms) ss e =
    let m = ok_more (spoke_read h k j) (λ s. spokes_from h ms) ss e in
    let here = one_spoke h k j m.0 m.2 in
    let rest = spokes_are h ms m.1 m.3 in
    (first_spoke k j m.0 ms (spoke_members m.1) here.0 rest.0 ∙ ap spoke_members m.4, subst (AreSpokes h) m.4 (here.1, here.2, rest.1))

object_spokes : (h : Name) (j : Json) (ss : List Spoke) → spokes_read h j ≡ Ok ss → (j ≡ object (spoke_members ss)) × AreSpokes h ss
object_spokes h null ss e = absurd (cc)
object_spokes h (boolean b) ss e = absurd (cc)
object_spokes h (whole z) ss e = absurd (cc)
object_spokes h (text t) ss e = absurd (cc)
object_spokes h (list js) ss e = absurd (cc)
object_spokes h (object ms) ss e = let a = spokes_are h ms ss e in (ap (λ (x : Members). object x) a.0, a.1)

after_hub : (r : Result Name Path) (ms : Members) (s : Name × List Spoke) → spokes_after r ms ≡ Ok s → (r ≡ Ok s.0) × (field_read (word w.Spokes) (spokes_read s.0) 1 ms ≡ Ok s.1)
after_hub (Err p) ms s e = absurd (cc)
after_hub (Ok h) ms s e =
    let a = ok_as (λ (ss : List Spoke). (h, ss)) (field_read (word w.Spokes) (spokes_read h) 1 ms) s e in
    subst (λ (t : Name × List Spoke). (◌≡◌ {A = Result Name Path} (Ok h) (Ok t.0)) × (field_read (word w.Spokes) (spokes_read t.0) 1 ms ≡ Ok t.1)) a.2 (refl, a.1)

pub spelled : (j : Json) (s : Name × List Spoke) → set_read j ≡ Ok s → Spells j s
spelled null s e = absurd (cc)
spelled (boolean b) s e = absurd (cc)
spelled (whole z) s e = absurd (cc)
spelled (text t) s e = absurd (cc)
spelled (list js) s e = absurd (cc)
spelled (object ms) s e =
    let h = ok_ended (beyond (field_at 2 ms)) (spokes_after (field_read (word w.Hub) text_read 0 ms) ms) s e in
    let a = after_hub (field_read (word w.Hub) text_read 0 ms) ms s h.1 in
    let t = two_fields_are w.Hub w.Spokes text_read (spokes_read s.0) ms s h.0 (joined (field_read (word w.Hub) text_read 0 ms) (field_read (word w.Spokes) (spokes_read s.0) 1 ms) s a.0 a.1) in
    let name : t.0 ≡ text s.0 = text_is t.0 s.0 t.3 in
    let spokes = object_spokes s.0 t.1 s.1 t.4 in
    record {
      document = t.2 ∙ ap (λ (x : Json). two_fields w.Hub x w.Spokes t.1) name ∙ ap (λ (x : Json). two_fields w.Hub (text s.0) w.Spokes x) spokes.0;
      spokes = spokes.1;
    }
  where
    joined : (r : Result Name Path) (q : Result (List Spoke) Path) (s : Name × List Spoke) → r ≡ Ok s.0 → q ≡ Ok s.1 → both r q ≡ Ok s
    joined r q s e f = ap (λ (x : Result Name Path). both x q) e ∙ ap (λ (x : Result (List Spoke) Path). both (Ok s.0) x) f

spoke_back : (h : Name) (s : Spoke) → (s.0 ≡ h → ⊥) → AreRules (rules_of s.1) → spoke_read h s.0 (list (rule_items (rules_of s.1))) ≡ Ok s
spoke_back h s differs p =
    let few : rules_size (rules_of s.1) ≤ 64 = p.few in
    let shallow : inner_depth (rules_of s.1) ≤ 8 = p.shallow in
    let read : rules_from 0 0 0 (rule_items (rules_of s.1)) ≡ Ok s.1 = rules_back 0 0 0 (rules_of s.1) p.regular (omega arith) (omega arith) ∙ ap (λ (x : List Rule). Ok x) (is_list_of s.1) in
    ap (λ (b : Bool). as_read (λ rs. (s.0, rs)) (under_name s.0 (rules_or_hub b (list (rule_items (rules_of s.1)))))) (by_test (bytes_eq s.0 h) refl) ∙ ap (λ (r : Result (List Rule) Path). as_read (λ rs. (s.0, rs)) (under_name s.0 r)) read
  where
    by_test : (b : Bool) → bytes_eq s.0 h ≡ b → b ≡ false
    by_test true q = absurd (differs ((bytes_eq-Decides s.0 h).0 q))
    by_test false q = refl

spokes_back : (h : Name) (ss : List Spoke) → AreSpokes h ss → spokes_from h (spoke_members ss) ≡ Ok ss
spokes_back h [] p = refl
spokes_back h (s ∷ ss) p =
    ap (λ (r : Result Spoke Path). more r (λ x. spokes_from h (spoke_members ss))) (spoke_back h s p.0 p.1) ∙ ap (with_first s) (spokes_back h ss p.2)

set_by : (h : Name) (ms : Members) → set_read (two_fields w.Hub (text h) w.Spokes (object ms)) ≡ ended None (as_read (λ ss. (h, ss)) (under_name (word w.Spokes) (spokes_from h ms)))
unfolding word
set_by h ms = refl

pub read_back : (j : Json) (s : Name × List Spoke) → Spells j s → set_read j ≡ Ok s
read_back j s p =
    ap set_read p.document ∙ set_by s.0 (spoke_members s.1) ∙ ap (λ (r : Result (List Spoke) Path). ended None (as_read (λ ss. (s.0, ss)) (under_name (word w.Spokes) r))) (spokes_back s.0 s.1 p.spokes)
