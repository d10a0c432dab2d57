-- Any two functions are a cell, a cell with its sides changed is one, and the kinds of rules are cells.
use Rattle.std.proofs.Common.{◌≡◌, ℕ, pos, ◌*ℤ◌, List, [], ◌∷◌, ◌++◌, length, Bool, true, false, ◌&&◌, cond, Option, Some, None, refl, ap, ap₂, sym, subst, ◌∙◌, arith}
use Rattle.std.specs.Prelude.{is_some, option_map}
use Rattle.std.proofs.lemmas.Bool.{false≢true}
use Rattle.kj_value.specs.Json.{Json, null, boolean, whole, text, list, object}
use Rattle.kj_value.specs.laws.SameLaws.{json_same-Decides}
use Rattle.hub_cells.specs.Side.{Side, spoke, hub, other}
use Rattle.hub_cells.specs.Colon.{has_colon, at_colon}
use Rattle.hub_cells.specs.Cell.{Kind, same, spoke_only, hub_only, split, table, scale, Tuple, one, none, IsRegular}
use Rattle.hub_cells.specs.Cross.{parts, split_text, joined, partner, by_table, matched, shown, rounded, blank}
use Rattle.hub_cells.specs.Level.{Name, is_word}
use Rattle.hub_cells.specs.laws.OneToOne.{one_to_one}
use Rattle.body_laws.specs.Cell.{Cell, absent, Match, IsCell, value_same, tuple_same, cell_of, AreFunctions, turned}
use Rattle.body_laws.specs.Kinds.{match_or, kind_cell, product, products, scaled, rule_cell, HasNames, IsNamed}

and_left : (a b : Bool) → (a && b) ≡ true → a ≡ true
and_left a b p = grind arith

and_right : (a b : Bool) → (a && b) ≡ true → b ≡ true
and_right a b p = grind arith

-- ---- the test tells equal tuples from others

value_is : (o p : Option Json) → value_same o p ≡ true → o ≡ p
value_is None None h = refl
value_is (Some i) (Some j) h = ap Some ((json_same-Decides i j).0 h)
value_is None (Some j) h = absurd (false≢true h)
value_is (Some i) None h = absurd (false≢true h)

is_value : (o : Option Json) → value_same o o ≡ true
is_value None = refl
is_value (Some j) = (json_same-Decides j j).1 refl

pub tuple_is : (os ps : Tuple) → tuple_same os ps ≡ true → os ≡ ps
tuple_is [] [] h = refl
tuple_is (o ∷ os) (p ∷ ps) h =
    ap₂ (λ (q : Option Json) (qs : Tuple). q ∷ qs) (value_is o p (and_left (value_same o p) (tuple_same os ps) h)) (tuple_is os ps (and_right (value_same o p) (tuple_same os ps) h))
tuple_is [] (p ∷ ps) h = absurd (false≢true h)
tuple_is (o ∷ os) [] h = absurd (false≢true h)

is_tuple : (os : Tuple) → tuple_same os os ≡ true
is_tuple [] = refl
is_tuple (o ∷ os) = rw (is_value o, is_tuple os) refl

pub same_tuple : (os ps : Tuple) → os ≡ ps → tuple_same os ps ≡ true
same_tuple os ps e = subst (λ (qs : Tuple). tuple_same os qs ≡ true) e (is_tuple os)

-- ---- any two functions

leads : (f g : Tuple → Tuple) (t u : Tuple) → f t ≡ u → tuple_same (g (f t)) t ≡ true → (g u ≡ t) × (tuple_same (f (g u)) u ≡ true)
leads f g t u e h =
    let b : g u ≡ t = ap g (sym e) ∙ tuple_is (g (f t)) t h in (b, same_tuple (f (g u)) u (ap f b ∙ e))

module _ (ns : Side → List Name) (f : Side → Tuple → Tuple) (a : AreFunctions ns f) where
  functions_law : (d : Side) (t u : Tuple) → Match (cell_of ns f) d t u → Match (cell_of ns f) (other d) u t
  functions_law spoke t u m =
      let r = leads (f spoke) (f hub) t u m.shown m.matches in record { shown = r.0; matches = r.1 }
  functions_law hub t u m =
      let r = leads (f hub) (f spoke) t u m.shown m.matches in record { shown = r.0; matches = r.1 }

  functions_blank : (d : Side) → Match (cell_of ns f) d (absent (ns d)) (absent (ns (other d)))
  functions_blank spoke =
      record { shown = a.blank spoke; matches = same_tuple (f hub (f spoke (absent (ns spoke)))) (absent (ns spoke)) (ap (f hub) (a.blank spoke) ∙ a.blank hub) }
  functions_blank hub =
      record { shown = a.blank hub; matches = same_tuple (f spoke (f hub (absent (ns hub)))) (absent (ns hub)) (ap (f spoke) (a.blank hub) ∙ a.blank spoke) }

  pub functions_cell : IsCell (cell_of ns f)
  functions_cell = record { law = functions_law; blank = functions_blank; width = a.width }

-- ---- sides changed

pub turned_cell : (c : Cell) → IsCell c → IsCell (turned c)
turned_cell c i = record {
  law = λ d t u m. again (other d) u t (i.law (other d) t u (record { shown = m.shown; matches = m.matches }));
  blank = λ d. again d (absent (c.names (other d))) (absent (c.names (other (other d)))) (i.blank (other d));
  width = λ d. i.width (other d);
}
  where
    again : (d : Side) (t u : Tuple) → Match c (other d) t u → Match (turned c) d t u
    again d t u m = record { shown = m.shown; matches = m.matches }

-- ---- today's kinds

some_some : {A : Type 0} (x y : A) → Some x ≡ Some y → x ≡ y
some_some x y e = cc

module _ (ns : Side → List Name) (k : Kind) where
  kind_match : (d : Side) (t u : Tuple) → matched d k t ≡ Some u → Match (kind_cell ns k) d t u
  kind_match d t u e =
      record { shown = ap (λ (o : Option Tuple). match_or o (shown d k t)) e; matches = ap (λ (o : Option Tuple). is_some o) e }

  match_kind : (d : Side) (t u : Tuple) → Match (kind_cell ns k) d t u → matched d k t ≡ Some u
  match_kind d t u m = by_answer (matched d k t) refl m.shown m.matches
    where
      by_answer : (o : Option Tuple) → matched d k t ≡ o → match_or o (shown d k t) ≡ u → is_some o ≡ true → matched d k t ≡ Some u
      by_answer None q e h = absurd (false≢true h)
      by_answer (Some v) q e h = q ∙ ap Some e

absent_one : (ns : List Name) → length ns ≡ 1 → absent ns ≡ none
absent_one [] h = absurd (omega (arith, h))
absent_one (n ∷ []) h = refl
absent_one (n ∷ m ∷ ns) h = absurd (omega (arith, h))

absent_two : (ns : List Name) → length ns ≡ 2 → absent ns ≡ None ∷ None ∷ []
absent_two [] h = absurd (omega (arith, h))
absent_two (n ∷ []) h = absurd (omega (arith, h))
absent_two (n ∷ m ∷ []) h = refl
absent_two (n ∷ m ∷ l ∷ ns) h = absurd (omega (arith, h))

-- nothing matches nothing
kind_blank : (ns : Side → List Name) (k : Kind) (d : Side) → IsNamed ns k → matched d k (absent (ns d)) ≡ Some (absent (ns (other d)))
kind_blank ns same spoke h = rw (absent_one (ns spoke) h.spoke, absent_one (ns hub) h.hub) refl
kind_blank ns same hub h = rw (absent_one (ns spoke) h.spoke, absent_one (ns hub) h.hub) refl
kind_blank ns spoke_only d h = absurd h
kind_blank ns hub_only d h = absurd h
kind_blank ns split spoke h = rw (absent_one (ns spoke) h.spoke, absent_two (ns hub) h.hub) refl
kind_blank ns split hub h = rw (absent_one (ns spoke) h.spoke, absent_two (ns hub) h.hub) refl
kind_blank ns (table ps x y) spoke h = rw (absent_one (ns spoke) h.spoke, absent_one (ns hub) h.hub) refl
kind_blank ns (table ps x y) hub h = rw (absent_one (ns spoke) h.spoke, absent_one (ns hub) h.hub) refl
kind_blank ns (scale k) spoke h = rw (absent_one (ns spoke) h.spoke, absent_one (ns hub) h.hub) refl
kind_blank ns (scale k) hub h = rw (absent_one (ns spoke) h.spoke, absent_one (ns hub) h.hub) refl

-- ---- how many values are answered

parts_width : (o : Option (List ℕ × List ℕ)) → length (match_or (parts o) (None ∷ None ∷ [])) ≡ 2
parts_width None = refl
parts_width (Some p) = refl

text_width : (j : Json) → length (match_or (split_text j) (None ∷ None ∷ [])) ≡ 2
text_width null = refl
text_width (boolean b) = refl
text_width (whole z) = refl
text_width (text t) = parts_width (at_colon t)
text_width (list js) = refl
text_width (object ms) = refl

two_answered : (t : Tuple) → length (match_or (matched spoke split t) (shown spoke split t)) ≡ 2
two_answered [] = refl
two_answered (None ∷ []) = refl
two_answered (Some j ∷ []) = text_width j
two_answered (None ∷ o ∷ os) = refl
two_answered (Some j ∷ o ∷ os) = refl

test_width : (b : Bool) (t : List ℕ) → length (match_or (cond b None (Some (one (text t)))) none) ≡ 1
test_width true t = refl
test_width false t = refl

joined_width : (a b : Json) → length (match_or (joined a b) none) ≡ 1
joined_width (text a) (text b) = test_width (has_colon b) (a ++ 58 ∷ b)
joined_width (text a) _ = refl
joined_width _ b = refl

one_answered : (t : Tuple) → length (match_or (matched hub split t) (shown hub split t)) ≡ 1
one_answered [] = refl
one_answered (None ∷ []) = refl
one_answered (Some a ∷ []) = refl
one_answered (None ∷ None ∷ []) = refl
one_answered (None ∷ Some b ∷ []) = refl
one_answered (Some a ∷ None ∷ []) = refl
one_answered (Some a ∷ Some b ∷ []) = joined_width a b
one_answered (None ∷ None ∷ o ∷ os) = refl
one_answered (None ∷ Some b ∷ o ∷ os) = refl
one_answered (Some a ∷ None ∷ o ∷ os) = refl
one_answered (Some a ∷ Some b ∷ o ∷ os) = refl

blank_width : (j : Json) → length (blank j) ≡ 1
blank_width null = refl
blank_width (boolean b) = refl
blank_width (whole z) = refl
blank_width (text t) = refl
blank_width (list js) = refl
blank_width (object ms) = refl

partner_width : (o : Option Json) (j : Json) → length (match_or (option_map one o) (blank j)) ≡ 1
partner_width None j = blank_width j
partner_width (Some i) j = refl

listed_width : (d : Side) (ps : List (Json × Json)) (j : Json) (t : Tuple) → length (match_or (by_table d ps t) (blank j)) ≡ 1
listed_width d ps j [] = blank_width j
listed_width d ps j (None ∷ []) = refl
listed_width d ps j (Some i ∷ []) = partner_width (partner d i ps) j
listed_width d ps j (None ∷ o ∷ os) = blank_width j
listed_width d ps j (Some i ∷ o ∷ os) = blank_width j

same_width : (ns : Side → List Name) (d : Side) (t : Tuple) → HasNames ns 1 1 → length t ≡ length (ns d) → length t ≡ length (ns (other d))
same_width ns spoke t h e = e ∙ h.spoke ∙ sym h.hub
same_width ns hub t h e = e ∙ h.hub ∙ sym h.spoke

-- what has one value, at names that are one
one_width : (ns : Side → List Name) (d : Side) (u : Tuple) → HasNames ns 1 1 → length u ≡ 1 → length u ≡ length (ns (other d))
one_width ns spoke u h e = e ∙ sym h.hub
one_width ns hub u h e = e ∙ sym h.spoke

pub kind_is_cell : (ns : Side → List Name) (k : Kind) → IsRegular k → IsNamed ns k → ((d : Side) (t : Tuple) → length t ≡ length (ns d) → length (match_or (matched d k t) (shown d k t)) ≡ length (ns (other d))) → IsCell (kind_cell ns k)
kind_is_cell ns k r h w = record {
  law = λ d t u m. kind_match ns k (other d) u t (one_to_one d k t u r (match_kind ns k d t u m));
  blank = λ d. kind_match ns k d (absent (ns d)) (absent (ns (other d))) (kind_blank ns k d h);
  width = w;
}

-- ---- a number, times k and rounded down

product_width : (k : ℕ) (j : Json) → length (product k j) ≡ 1
product_width k null = refl
product_width k (boolean b) = refl
product_width k (whole z) = by_test (is_word (whole (pos k *ℤ z)))
  where
    by_test : (b : Bool) → length (cond b (one (whole (pos k *ℤ z))) none) ≡ 1
    by_test true = refl
    by_test false = refl
product_width k (text t) = refl
product_width k (list js) = refl
product_width k (object ms) = refl

products_width : (k : ℕ) (t : Tuple) → length (products k t) ≡ 1
products_width k [] = refl
products_width k (None ∷ os) = refl
products_width k (Some j ∷ []) = product_width k j
products_width k (Some j ∷ o ∷ os) = refl

rounded_width : (k : ℕ) (t : Tuple) → length (rounded k t) ≡ 1
rounded_width k [] = refl
rounded_width k (None ∷ os) = refl
rounded_width k (Some null ∷ []) = refl
rounded_width k (Some (boolean b) ∷ []) = refl
rounded_width k (Some (whole z) ∷ []) = refl
rounded_width k (Some (text t) ∷ []) = refl
rounded_width k (Some (list js) ∷ []) = refl
rounded_width k (Some (object ms) ∷ []) = refl
rounded_width k (Some null ∷ o ∷ os) = refl
rounded_width k (Some (boolean b) ∷ o ∷ os) = refl
rounded_width k (Some (whole z) ∷ o ∷ os) = refl
rounded_width k (Some (text t) ∷ o ∷ os) = refl
rounded_width k (Some (list js) ∷ o ∷ os) = refl
rounded_width k (Some (object ms) ∷ o ∷ os) = refl

scaled_width : (k : ℕ) (d : Side) (t : Tuple) → length (scaled k d t) ≡ 1
scaled_width k spoke t = products_width k t
scaled_width k hub t = rounded_width k t

scaled_blank : (ns : Side → List Name) (k : ℕ) (d : Side) → HasNames ns 1 1 → scaled k d (absent (ns d)) ≡ absent (ns (other d))
scaled_blank ns k spoke h = rw (absent_one (ns spoke) h.spoke, absent_one (ns hub) h.hub) refl
scaled_blank ns k hub h = rw (absent_one (ns spoke) h.spoke, absent_one (ns hub) h.hub) refl

scaled_functions : (ns : Side → List Name) (k : ℕ) → HasNames ns 1 1 → AreFunctions ns (scaled k)
scaled_functions ns k h =
    record { blank = λ d. scaled_blank ns k d h; width = λ d t e. one_width ns d (scaled k d t) h (scaled_width k d t) }

-- ---- each kind is a cell, of every value

split_width : (ns : Side → List Name) (d : Side) (t : Tuple) → HasNames ns 1 2 → length (match_or (matched d split t) (shown d split t)) ≡ length (ns (other d))
split_width ns spoke t h = two_answered t ∙ sym h.hub
split_width ns hub t h = one_answered t ∙ sym h.spoke

table_width : (ps : List (Json × Json)) (x y : Json) (d : Side) (t : Tuple) → length (match_or (matched d (table ps x y) t) (shown d (table ps x y) t)) ≡ 1
table_width ps x y spoke t = listed_width spoke ps y t
table_width ps x y hub t = listed_width hub ps x t

same_answered : (d : Side) (t : Tuple) → match_or (matched d same t) (shown d same t) ≡ t
same_answered spoke t = refl
same_answered hub t = refl

pub rule_is_cell : (ns : Side → List Name) (k : Kind) → IsRegular k → IsNamed ns k → IsCell (rule_cell ns k)
rule_is_cell ns same r h = kind_is_cell ns same r h (λ d t e. ap length (same_answered d t) ∙ same_width ns d t h e)
rule_is_cell ns spoke_only r h = absurd h
rule_is_cell ns hub_only r h = absurd h
rule_is_cell ns split r h = kind_is_cell ns split r h (λ d t e. split_width ns d t h)
rule_is_cell ns (table ps x y) r h =
    kind_is_cell ns (table ps x y) r h (λ d t e. one_width ns d (match_or (matched d (table ps x y) t) (shown d (table ps x y) t)) h (table_width ps x y d t))
rule_is_cell ns (scale k) r h = functions_cell ns (scaled k) (scaled_functions ns k h)
