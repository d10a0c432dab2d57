-- A cell of each kind fits where nothing is refused of it.
use Rattle.std.proofs.Common.{◌≡◌, ◌+◌, ℕ, List, [], ◌∷◌, ◌++◌, Bool, true, false, ◌&&◌, ◌||◌, not, Option, Some, None, refl, sym, subst, arith}
use Rattle.std.specs.Prelude.{leb, is_none, is_some, option_map}
use Rattle.std.specs.Prelude.{cond, ℤ, FitsSigned}
use Rattle.std.specs.Int.{w64}
use Rattle.std.proofs.lemmas.Int.{ints}
use Rattle.kj_value.specs.Same.{json_same}
use Rattle.std.proofs.lemmas.Bool.{false≢true}
use Rattle.std.proofs.lemmas.Bool.Decides.{nat_tests}
use Rattle.kj_value.specs.Json.{Json, null, boolean, whole, text, list, object, depth}
use Rattle.struct_schema.specs.Shape.{Shape, own}
use Rattle.struct_schema.specs.Valid.{valid}
use Rattle.struct_schema.specs.Stays.{stays}
use Rattle.struct_schema.specs.Below.{below}
use Rattle.struct_schema.specs.laws.BelowLaws.{same_valid, same_stays}
use Rattle.hub_cells.specs.declared.allowed.TheConstants.{STORED_LEVELS}
use Rattle.hub_cells.specs.Side.{Side, spoke, hub, other}
use Rattle.hub_cells.specs.Colon.{at_colon, has_colon}
use Rattle.hub_cells.specs.Cell.{same, spoke_only, hub_only, split, table, Tuple, one, none, ListsOnce}
use Rattle.hub_cells.specs.Cross.{matched, parts, partner, by_table, blank}
use Rattle.hub_cells.specs.Level.{Name, Place, Cell, places, names, tuple_of, is_word, allowed_at, all_allowed, allows, MatchAllowed, some_there, have_default, MatchThere, CellFits}
use Rattle.hub_rules.specs.Refusal.{plain_text, is_null, valid_blank, all_valid}
use Rattle.hub_rules.specs.Sound.{IsScalar, AreScalars}

pub and_left : (a b : Bool) → (a && b) ≡ true → a ≡ true
and_left true b h = refl
and_left false b h = absurd (false≢true h)

pub and_right : (a b : Bool) → (a && b) ≡ true → b ≡ true
and_right true b h = h
and_right false b h = absurd (false≢true h)

pub and_both : (a b : Bool) → a ≡ true → b ≡ true → (a && b) ≡ true
and_both a b h k = rw (h, k) refl

abbrev pub place : Name → Shape → Bool → Place
place a t r = record { name = a; shape = t; required = r }

-- one value of an allowed tuple
pub first_allowed : (n : ℕ) (p : Place) (o : Option Json) (ps : List Place) (os : Tuple) → all_allowed n (p ∷ ps) (o ∷ os) ≡ true → allowed_at n p o ≡ true
first_allowed n p o ps os h = and_left (allowed_at n p o) (all_allowed n ps os) h

pub rest_allowed : (n : ℕ) (p : Place) (o : Option Json) (ps : List Place) (os : Tuple) → all_allowed n (p ∷ ps) (o ∷ os) ≡ true → all_allowed n ps os ≡ true
rest_allowed n p o ps os h = and_right (allowed_at n p o) (all_allowed n ps os) h

-- the tuple of no fields matches that of the other side
abbrev pub AbsentMatch : Cell → Side → Type 0
AbsentMatch c d = matched d c.kind (tuple_of (names d c) []) ≡ Some (tuple_of (names (other d) c) [])

-- what an allowed tuple is answered by is allowed
abbrev pub AnswerFits : Cell → Side → Tuple → Type 0
AnswerFits c d u = allows d c u ≡ true → MatchAllowed c d (matched d c.kind u) u

-- what a tuple that is there is answered by is there
abbrev pub AnswerThere : Cell → Side → Tuple → Type 0
AnswerThere c d u = allows d c u ≡ true → some_there u ≡ true → MatchThere c d (matched d c.kind u) u

-- ---- same

abbrev same_cell : ℕ → Place → Place → Cell
same_cell n p q = record { spoke = p ∷ []; hub = q ∷ []; kind = same; depth = n }

-- places that ask the same but for their defaults
abbrev SamePlaces : Place → Place → Type 0
SamePlaces p q = (below p.shape ≡ below q.shape) × (p.required ≡ q.required)

value_over : (n : ℕ) (p q : Place) (j : Json) → below p.shape ≡ below q.shape → allowed_at n p (Some j) ≡ allowed_at n q (Some j)
value_over n p q j e = cc (same_valid p.shape q.shape j e, same_stays p.shape q.shape j e)

same_over : (n : ℕ) (p q : Place) → SamePlaces p q → (u : Tuple) → all_allowed n (p ∷ []) u ≡ true → all_allowed n (q ∷ []) u ≡ true
same_over n p q e [] h = absurd (false≢true h)
same_over n p q e (None ∷ []) h = rw (← e.1) h
same_over n p q e (Some j ∷ []) h = rw (← value_over n p q j e.0) h
same_over n p q e (None ∷ o ∷ os) h = absurd (false≢true (rest_allowed n p None [] (o ∷ os) h))
same_over n p q e (Some j ∷ o ∷ os) h = absurd (false≢true (rest_allowed n p (Some j) [] (o ∷ os) h))

same_absent : (n : ℕ) (p q : Place) (d : Side) → AbsentMatch (same_cell n p q) d
same_absent n p q spoke = refl
same_absent n p q hub = refl

same_answer : (n : ℕ) (p q : Place) → SamePlaces p q → (d : Side) (u : Tuple) → AnswerFits (same_cell n p q) d u
same_answer n p q e spoke u h = same_over n p q e u h
same_answer n p q e hub u h = same_over n q p (sym e.0, sym e.1) u h

same_there : (n : ℕ) (p q : Place) (d : Side) (u : Tuple) → AnswerThere (same_cell n p q) d u
same_there n p q spoke u h t = t
same_there n p q hub u h t = t

pub same_fits : (n : ℕ) (a b : Name) (t u : Shape) (r q : Bool) → below t ≡ below u → r ≡ q → CellFits (record { spoke = place a t r ∷ []; hub = place b u q ∷ []; kind = same; depth = n })
same_fits n a b t u r q e f = record {
  regular = tt;
  absent = same_absent n (place a t r) (place b u q);
  answer = same_answer n (place a t r) (place b u q) (e, f);
  there = λ d v c. same_there n (place a t r) (place b u q) d v;
  single = λ h. refl;
  defaults = λ d h. refl;
  matches = λ v h g. refl;
}

-- ---- one name on one side

absent_allowed : (n : ℕ) (a : Name) (t : Shape) (r : Bool) → not r ≡ true → all_allowed n (place a t r ∷ []) none ≡ true
absent_allowed n a t r f = rw f refl

lacking : (o : Option Json) → is_none o ≡ true → (is_some o || false) ≡ true → ⊥
lacking None e h = false≢true h
lacking (Some j) e h = false≢true e

pub no_match_first : (n : ℕ) (o : Option Json) (os : Tuple) → all_allowed n [] (o ∷ os) ≡ true → ⊥
no_match_first n o os h = false≢true h

abbrev spoke_cell : ℕ → Name → Shape → Bool → Cell
spoke_cell n a t r = record { spoke = place a t r ∷ []; hub = []; kind = spoke_only; depth = n }

spoke_absent : (n : ℕ) (a : Name) (t : Shape) (r : Bool) (d : Side) → AbsentMatch (spoke_cell n a t r) d
spoke_absent n a t r spoke = refl
spoke_absent n a t r hub = refl

spoke_answer : (n : ℕ) (a : Name) (t : Shape) (r : Bool) → not r ≡ true → (d : Side) (u : Tuple) → AnswerFits (spoke_cell n a t r) d u
spoke_answer n a t r f spoke [] h = refl
spoke_answer n a t r f spoke (None ∷ []) h = refl
spoke_answer n a t r f spoke (Some j ∷ []) h = refl
spoke_answer n a t r f spoke (None ∷ o ∷ os) h = refl
spoke_answer n a t r f spoke (Some j ∷ o ∷ os) h = refl
spoke_answer n a t r f hub [] h = absent_allowed n a t r f
spoke_answer n a t r f hub (o ∷ os) h = absurd (no_match_first n o os h)

pub spoke_only_fits : (n : ℕ) (a : Name) (t : Shape) (r : Bool) → not r ≡ true → is_none (own t).default_value ≡ true → CellFits (spoke_cell n a t r)
spoke_only_fits n a t r f e = record {
  regular = tt;
  absent = spoke_absent n a t r;
  answer = spoke_answer n a t r f;
  there = λ d u c. absurd (false≢true c);
  single = λ h. absurd (false≢true h);
  defaults = none_there;
  matches = λ u h g. absurd (lacking (own t).default_value e h);
}
  where
    none_there : (d : Side) → have_default (places d (spoke_cell n a t r)) ≡ true → false ≡ true
    none_there spoke h = absurd (lacking (own t).default_value e h)
    none_there hub h = h

abbrev hub_cell : ℕ → Name → Shape → Bool → Cell
hub_cell n b t r = record { spoke = []; hub = place b t r ∷ []; kind = hub_only; depth = n }

hub_absent : (n : ℕ) (b : Name) (t : Shape) (r : Bool) (d : Side) → AbsentMatch (hub_cell n b t r) d
hub_absent n b t r spoke = refl
hub_absent n b t r hub = refl

hub_answer : (n : ℕ) (b : Name) (t : Shape) (r : Bool) → not r ≡ true → (d : Side) (u : Tuple) → AnswerFits (hub_cell n b t r) d u
hub_answer n b t r f hub [] h = refl
hub_answer n b t r f hub (None ∷ []) h = refl
hub_answer n b t r f hub (Some j ∷ []) h = refl
hub_answer n b t r f hub (None ∷ o ∷ os) h = refl
hub_answer n b t r f hub (Some j ∷ o ∷ os) h = refl
hub_answer n b t r f spoke [] h = absent_allowed n b t r f
hub_answer n b t r f spoke (o ∷ os) h = absurd (no_match_first n o os h)

pub hub_only_fits : (n : ℕ) (b : Name) (t : Shape) (r : Bool) → not r ≡ true → is_none (own t).default_value ≡ true → CellFits (hub_cell n b t r)
hub_only_fits n b t r f e = record {
  regular = tt;
  absent = hub_absent n b t r;
  answer = hub_answer n b t r f;
  there = λ d u c. absurd (false≢true c);
  single = λ h. absurd (false≢true h);
  defaults = none_there;
  matches = λ u h g. absurd (false≢true h);
}
  where
    none_there : (d : Side) → have_default (places d (hub_cell n b t r)) ≡ true → false ≡ true
    none_there spoke h = h
    none_there hub h = absurd (lacking (own t).default_value e h)

-- ---- split

abbrev pub split_cell : ℕ → Name → Name → Name → Cell
split_cell n a b c = record {
  spoke = place a plain_text false ∷ [];
  hub = place b plain_text false ∷ place c plain_text false ∷ [];
  kind = split;
  depth = n;
}

-- a value that is there leaves room for one that isn't deep
pub room : (n : ℕ) (p : Place) (j : Json) → allowed_at n p (Some j) ≡ true → leb (n + 1) STORED_LEVELS ≡ true
room n p j h =
    let here : leb (n + 1 + depth j) STORED_LEVELS ≡ true = and_right (valid p.shape j && stays p.shape j) (leb (n + 1 + depth j) STORED_LEVELS) (and_left (valid p.shape j && stays p.shape j && leb (n + 1 + depth j) STORED_LEVELS) (is_word j) h) in
    grind (arith, nat_tests)

pub shallow : (n : ℕ) → leb (n + 1) STORED_LEVELS ≡ true → leb (n + 1 + 0) STORED_LEVELS ≡ true
shallow n h = grind (arith, nat_tests)

text_allowed : (n : ℕ) (a : Name) (t : List ℕ) → leb (n + 1) STORED_LEVELS ≡ true → allowed_at n (place a plain_text false) (Some (text t)) ≡ true
text_allowed n a t h = rw (shallow n h) refl

parts_allowed : (n : ℕ) (a b c : Name) (t : List ℕ) (o : Option (List ℕ × List ℕ)) → leb (n + 1) STORED_LEVELS ≡ true → MatchAllowed (split_cell n a b c) spoke (parts o) (one (text t))
parts_allowed n a b c t None h = refl
parts_allowed n a b c t (Some p) h = rw (shallow n h) refl

joined_allowed : (n : ℕ) (a b c : Name) (s t : List ℕ) (q : Bool) → leb (n + 1) STORED_LEVELS ≡ true → MatchAllowed (split_cell n a b c) hub (cond q None (Some (one (text (s ++ 58 ∷ t))))) (Some (text s) ∷ Some (text t) ∷ [])
joined_allowed n a b c s t true h = refl
joined_allowed n a b c s t false h = rw (shallow n h) refl

split_absent : (n : ℕ) (a b c : Name) (d : Side) → AbsentMatch (split_cell n a b c) d
split_absent n a b c spoke = refl
split_absent n a b c hub = refl

split_from : (n : ℕ) (a b c : Name) (u : Tuple) → AnswerFits (split_cell n a b c) spoke u
split_from n a b c [] h = absurd (false≢true h)
split_from n a b c (None ∷ []) h = refl
split_from n a b c (Some (text t) ∷ []) h =
    parts_allowed n a b c t (at_colon t) (room n (place a plain_text false) (text t) (first_allowed n (place a plain_text false) (Some (text t)) [] [] h))
split_from n a b c (Some null ∷ []) h = refl
split_from n a b c (Some (boolean x) ∷ []) h = refl
split_from n a b c (Some (whole z) ∷ []) h = refl
split_from n a b c (Some (list js) ∷ []) h = refl
split_from n a b c (Some (object ms) ∷ []) h = refl
split_from n a b c (None ∷ o ∷ os) h = refl
split_from n a b c (Some j ∷ o ∷ os) h = refl

split_to : (n : ℕ) (a b c : Name) (u : Tuple) → AnswerFits (split_cell n a b c) hub u
split_to n a b c [] h = refl
split_to n a b c (None ∷ []) h = refl
split_to n a b c (Some i ∷ []) h = refl
split_to n a b c (None ∷ None ∷ []) h = refl
split_to n a b c (None ∷ Some j ∷ []) h = refl
split_to n a b c (Some i ∷ None ∷ []) h = refl
split_to n a b c (Some (text s) ∷ Some (text t) ∷ []) h =
    joined_allowed n a b c s t (has_colon t) (room n (place b plain_text false) (text s) (first_allowed n (place b plain_text false) (Some (text s)) (place c plain_text false ∷ []) (Some (text t) ∷ []) h))
split_to n a b c (Some (text s) ∷ Some null ∷ []) h = refl
split_to n a b c (Some (text s) ∷ Some (boolean x) ∷ []) h = refl
split_to n a b c (Some (text s) ∷ Some (whole z) ∷ []) h = refl
split_to n a b c (Some (text s) ∷ Some (list js) ∷ []) h = refl
split_to n a b c (Some (text s) ∷ Some (object ms) ∷ []) h = refl
split_to n a b c (Some null ∷ Some j ∷ []) h = refl
split_to n a b c (Some (boolean x) ∷ Some j ∷ []) h = refl
split_to n a b c (Some (whole z) ∷ Some j ∷ []) h = refl
split_to n a b c (Some (list js) ∷ Some j ∷ []) h = refl
split_to n a b c (Some (object ms) ∷ Some j ∷ []) h = refl
split_to n a b c (None ∷ None ∷ q ∷ os) h = refl
split_to n a b c (None ∷ Some j ∷ q ∷ os) h = refl
split_to n a b c (Some i ∷ None ∷ q ∷ os) h = refl
split_to n a b c (Some i ∷ Some j ∷ q ∷ os) h = refl

split_answer : (n : ℕ) (a b c : Name) (d : Side) (u : Tuple) → AnswerFits (split_cell n a b c) d u
split_answer n a b c spoke u h = split_from n a b c u h
split_answer n a b c hub u h = split_to n a b c u h

pub split_fits : (n : ℕ) (a b c : Name) → CellFits (split_cell n a b c)
split_fits n a b c = record {
  regular = tt;
  absent = split_absent n a b c;
  answer = split_answer n a b c;
  there = λ d u e. absurd (false≢true e);
  single = λ h. absurd (false≢true h);
  defaults = none_there;
  matches = λ u h g. absurd (false≢true h);
}
  where
    none_there : (d : Side) → have_default (places d (split_cell n a b c)) ≡ true → false ≡ true
    none_there spoke h = h
    none_there hub h = h

-- ---- scalars

pub word_fits : (z : ℤ) → FitsSigned w64 z → is_word (whole z) ≡ true
word_fits z h = grind (arith, ints)

-- a scalar that is valid is allowed wherever a value is
scalar_allowed : (n : ℕ) (q : Place) (j : Json) → IsScalar j → valid q.shape j ≡ true → leb (n + 1) STORED_LEVELS ≡ true → allowed_at n q (Some j) ≡ true
scalar_allowed n q null p v h = rw (v, shallow n h) refl
scalar_allowed n q (boolean b) p v h = rw (v, shallow n h) refl
scalar_allowed n q (whole z) p v h = and_both (valid q.shape (whole z) && true && leb (n + 1 + 0) STORED_LEVELS) (is_word (whole z)) (rw (v, shallow n h) refl) (word_fits z p)
scalar_allowed n q (text t) p v h = rw (v, shallow n h) refl
scalar_allowed n q (list js) p v h = absurd p
scalar_allowed n q (object ms) p v h = absurd p

pub alone : (n : ℕ) (q : Place) (o : Option Json) → allowed_at n q o ≡ true → all_allowed n (q ∷ []) (o ∷ []) ≡ true
alone n q o h = rw h refl

-- ---- a table

-- what a listed value has beside it
abbrev Shapes : Type 0
Shapes = Side → Shape

listed_valid : (d : Side) (s : Shapes) (i j : Json) (ps : List (Json × Json)) → AreScalars ps → all_valid (s spoke) (s hub) ps ≡ true → partner d i ps ≡ Some j → IsScalar j × (valid (s (other d)) j ≡ true)
listed_valid d s i j [] p v e = absurd (cc)
listed_valid spoke s i j (q ∷ ps) p v e = by_test (json_same q.0 i) e (λ f. listed_valid spoke s i j ps p.2 (and_right (valid (s spoke) q.0 && valid (s hub) q.1) (all_valid (s spoke) (s hub) ps) v) f)
  where
    by_test : (b : Bool) → cond b (Some q.1) (partner spoke i ps) ≡ Some j → (partner spoke i ps ≡ Some j → IsScalar j × (valid (s hub) j ≡ true)) → IsScalar j × (valid (s hub) j ≡ true)
    by_test true f later =
        let same : q.1 ≡ j = cc in
        (subst IsScalar same p.1, subst (λ (x : Json). valid (s hub) x ≡ true) same (and_right (valid (s spoke) q.0) (valid (s hub) q.1) (and_left (valid (s spoke) q.0 && valid (s hub) q.1) (all_valid (s spoke) (s hub) ps) v)))
    by_test false f later = later f
listed_valid hub s i j (q ∷ ps) p v e = by_test (json_same q.1 i) e (λ f. listed_valid hub s i j ps p.2 (and_right (valid (s spoke) q.0 && valid (s hub) q.1) (all_valid (s spoke) (s hub) ps) v) f)
  where
    by_test : (b : Bool) → cond b (Some q.0) (partner hub i ps) ≡ Some j → (partner hub i ps ≡ Some j → IsScalar j × (valid (s spoke) j ≡ true)) → IsScalar j × (valid (s spoke) j ≡ true)
    by_test true f later =
        let same : q.0 ≡ j = cc in
        (subst IsScalar same p.0, subst (λ (x : Json). valid (s spoke) x ≡ true) same (and_left (valid (s spoke) q.0) (valid (s hub) q.1) (and_left (valid (s spoke) q.0 && valid (s hub) q.1) (all_valid (s spoke) (s hub) ps) v)))
    by_test false f later = later f

or_false : (a : Bool) → (a || false) ≡ true → a ≡ true
or_false true h = refl
or_false false h = absurd (false≢true h)

-- a blank is allowed where a value is: a null one by what is asked of an absent name
blank_allowed : (n : ℕ) (q : Place) (y : Json) → IsScalar y → valid_blank q.shape y ≡ true → (not q.required || not (is_null y)) ≡ true → leb (n + 1) STORED_LEVELS ≡ true → all_allowed n (q ∷ []) (blank y) ≡ true
blank_allowed n q null p v r h = rw (or_false (not q.required) r) refl
blank_allowed n q (boolean b) p v r h = alone n q (Some (boolean b)) (scalar_allowed n q (boolean b) p v h)
blank_allowed n q (whole z) p v r h = alone n q (Some (whole z)) (scalar_allowed n q (whole z) p v h)
blank_allowed n q (text t) p v r h = alone n q (Some (text t)) (scalar_allowed n q (text t) p v h)
blank_allowed n q (list js) p v r h = absurd p
blank_allowed n q (object ms) p v r h = absurd p

-- what a tuple is answered by, on the other side's place
abbrev Answered : ℕ → Place → Tuple → Option Tuple → Type 0
Answered n q t None = all_allowed n (q ∷ []) t ≡ true
Answered n q t (Some u) = all_allowed n (q ∷ []) u ≡ true

table_over : (n : ℕ) (p q : Place) (d : Side) (ps : List (Json × Json)) (t u : Tuple) → (all_allowed n (p ∷ []) none ≡ true → all_allowed n (q ∷ []) none ≡ true) → ((i j : Json) → partner d i ps ≡ Some j → IsScalar j × (valid q.shape j ≡ true)) → (leb (n + 1) STORED_LEVELS ≡ true → all_allowed n (q ∷ []) t ≡ true) → all_allowed n (p ∷ []) u ≡ true → Answered n q t (by_table d ps u)
table_over n p q d ps t [] absent listed shows h = absurd (false≢true h)
table_over n p q d ps t (None ∷ []) absent listed shows h = absent h
table_over n p q d ps t (Some i ∷ []) absent listed shows h = by_partner (partner d i ps) refl
  where
    here : leb (n + 1) STORED_LEVELS ≡ true
    here = room n p i (first_allowed n p (Some i) [] [] h)

    by_partner : (o : Option Json) → partner d i ps ≡ o → Answered n q t (option_map one o)
    by_partner None e = shows here
    by_partner (Some j) e = alone n q (Some j) (scalar_allowed n q j (listed i j e).0 (listed i j e).1 here)
table_over n p q d ps t (None ∷ o ∷ os) absent listed shows h = absurd (false≢true (rest_allowed n p None [] (o ∷ os) h))
table_over n p q d ps t (Some i ∷ o ∷ os) absent listed shows h = absurd (false≢true (rest_allowed n p (Some i) [] (o ∷ os) h))

pub absent_over : (n : ℕ) (p q : Place) → p.required ≡ q.required → all_allowed n (p ∷ []) none ≡ true → all_allowed n (q ∷ []) none ≡ true
absent_over n p q e h = rw (← e) h

-- a blank that isn't null is there
blank_there : (y : Json) → not (is_null y) ≡ true → some_there (blank y) ≡ true
blank_there null h = absurd (false≢true h)
blank_there (boolean b) h = refl
blank_there (whole z) h = refl
blank_there (text t) h = refl
blank_there (list js) h = refl
blank_there (object ms) h = refl

pub record TableHolds (p q : Place) (ps : List (Json × Json)) (x y : Json) : Type 0 where
  pub alike : p.required ≡ q.required
  pub scalars : AreScalars ps × IsScalar x × IsScalar y
  pub valid : all_valid p.shape q.shape ps ≡ true
  pub spoke_blank : valid_blank p.shape x ≡ true
  pub hub_blank : valid_blank q.shape y ≡ true
  pub once : ListsOnce spoke ps × ListsOnce hub ps
  pub spoke_required : (not p.required || not (is_null x)) ≡ true
  pub hub_required : (not q.required || not (is_null y)) ≡ true
  pub both : have_default (p ∷ []) ≡ true → have_default (q ∷ []) ≡ true
  pub blanks : (have_default (p ∷ []) || have_default (q ∷ [])) ≡ true → (not (is_null x) ≡ true) × (not (is_null y) ≡ true)

abbrev table_cell : ℕ → Place → Place → List (Json × Json) → Json → Json → Cell
table_cell n p q ps x y = record { spoke = p ∷ []; hub = q ∷ []; kind = table ps x y; depth = n }

table_absent : (n : ℕ) (p q : Place) (ps : List (Json × Json)) (x y : Json) (d : Side) → AbsentMatch (table_cell n p q ps x y) d
table_absent n p q ps x y spoke = refl
table_absent n p q ps x y hub = refl

abbrev sides : Shape → Shape → Shapes
sides s h spoke = s
sides s h hub = h

answered_from : (n : ℕ) (p q : Place) (ps : List (Json × Json)) (x y : Json) (u : Tuple) (o : Option Tuple) → Answered n q (blank y) o → MatchAllowed (table_cell n p q ps x y) spoke o u
answered_from n p q ps x y u None h = h
answered_from n p q ps x y u (Some v) h = h

answered_to : (n : ℕ) (p q : Place) (ps : List (Json × Json)) (x y : Json) (u : Tuple) (o : Option Tuple) → Answered n p (blank x) o → MatchAllowed (table_cell n p q ps x y) hub o u
answered_to n p q ps x y u None h = h
answered_to n p q ps x y u (Some v) h = h

table_answer : (n : ℕ) (p q : Place) (ps : List (Json × Json)) (x y : Json) → TableHolds p q ps x y → (d : Side) (u : Tuple) → AnswerFits (table_cell n p q ps x y) d u
table_answer n p q ps x y f spoke u h =
    answered_from n p q ps x y u (by_table spoke ps u) (table_over n p q spoke ps (blank y) u (absent_over n p q f.alike) (λ i j e. listed_valid spoke (sides p.shape q.shape) i j ps f.scalars.0 f.valid e) (blank_allowed n q y f.scalars.2 f.hub_blank f.hub_required) h)
table_answer n p q ps x y f hub u h =
    answered_to n p q ps x y u (by_table hub ps u) (table_over n q p hub ps (blank x) u (absent_over n q p (sym f.alike)) (λ i j e. listed_valid hub (sides p.shape q.shape) i j ps f.scalars.0 f.valid e) (blank_allowed n p x f.scalars.1 f.spoke_blank f.spoke_required) h)

table_there : (n : ℕ) (p q : Place) (ps : List (Json × Json)) (x y : Json) → (not (is_null x) ≡ true) × (not (is_null y) ≡ true) → (d : Side) (u : Tuple) → AnswerThere (table_cell n p q ps x y) d u
table_there n p q ps x y b d [] h t = absurd (false≢true t)
table_there n p q ps x y b d (None ∷ []) h t = absurd (false≢true t)
table_there n p q ps x y b spoke (Some i ∷ []) h t = by_partner (partner spoke i ps)
  where
    by_partner : (o : Option Json) → MatchThere (table_cell n p q ps x y) spoke (option_map one o) (one i)
    by_partner None = blank_there y b.1
    by_partner (Some j) = refl
table_there n p q ps x y b hub (Some i ∷ []) h t = by_partner (partner hub i ps)
  where
    by_partner : (o : Option Json) → MatchThere (table_cell n p q ps x y) hub (option_map one o) (one i)
    by_partner None = blank_there x b.0
    by_partner (Some j) = refl
table_there n p q ps x y b spoke (None ∷ o ∷ os) h t = absurd (false≢true (rest_allowed n p None [] (o ∷ os) h))
table_there n p q ps x y b spoke (Some i ∷ o ∷ os) h t = absurd (false≢true (rest_allowed n p (Some i) [] (o ∷ os) h))
table_there n p q ps x y b hub (None ∷ o ∷ os) h t = absurd (false≢true (rest_allowed n q None [] (o ∷ os) h))
table_there n p q ps x y b hub (Some i ∷ o ∷ os) h t = absurd (false≢true (rest_allowed n q (Some i) [] (o ∷ os) h))

or_first : (a b : Bool) → a ≡ true → (a || b) ≡ true
or_first true b h = refl
or_first false b h = absurd (false≢true h)

or_second : (a b : Bool) → b ≡ true → (a || b) ≡ true
or_second true b h = refl
or_second false b h = h

pub table_fits : (n : ℕ) (p q : Place) (ps : List (Json × Json)) (x y : Json) → TableHolds p q ps x y → CellFits (table_cell n p q ps x y)
table_fits n p q ps x y f = record {
  regular = f.once;
  absent = table_absent n p q ps x y;
  answer = table_answer n p q ps x y f;
  there = λ d u c. table_there n p q ps x y (f.blanks c) d u;
  single = λ h. refl;
  defaults = one_side;
  matches = λ u h g. or_second (is_some (by_table spoke ps u)) (have_default (q ∷ [])) (f.both h);
}
  where
    one_side : (d : Side) → have_default (places d (table_cell n p q ps x y)) ≡ true → (have_default (p ∷ []) || have_default (q ∷ [])) ≡ true
    one_side spoke h = or_first (have_default (p ∷ [])) (have_default (q ∷ [])) h
    one_side hub h = or_second (have_default (p ∷ [])) (have_default (q ∷ [])) h
