-- An object whose dead entries are taken out is whole, and comes back from the other side.
use Rattle.std.proofs.Common.{◌≡◌, List, [], ◌∷◌, Bool, true, false, ◌&&◌, cond, Option, Some, None, refl, ap, ap₂, sym, subst, ◌∙◌, arith}
use Rattle.kj_value.specs.Json.{Json}
use Rattle.kj_value.specs.laws.SameLaws.{json_same-Decides}
use Rattle.hub_cells.specs.Side.{Side, other}
use Rattle.hub_cells.specs.Cell.{Tuple}
use Rattle.hub_cells.specs.Cross.{matched, shown}
use Rattle.hub_cells.specs.Level.{allows, Cell, Level, level, Inners, no_inner, inner}
use Rattle.keep_laws.specs.Marked.{Marks, Marked, MarkedInners, IsAlive, AreGood, OrAbsent, IsGood, InnersGood, there, crossed}
use Rattle.keep_laws.specs.Whole.{Held, Ready, marks_of, object_of, IsWholeOnSide}
use Rattle.keep_laws.specs.Settle.{value_same, tuple_same, is_unmatched, alive, living, living_marks, settled_marks, settled_inners, CellsAllowed, IsAllowed, InnersAllowed, settled, converted}
use Rattle.keep_laws.proofs.LawA.{other_other, crossed_good, crossed_back}
use Rattle.keep_laws.proofs.Back.{marks_back}

and_left : (a b : Bool) → (a && b) ≡ true → a ≡ true
and_left a b p = grind arith

and_right : (a b : Bool) → (a && b) ≡ true → b ≡ true
and_right a b p = grind arith

and_intro : (a b : Bool) → a ≡ true → b ≡ true → (a && b) ≡ true
and_intro a b p q = grind arith

false_true : false ≡ true → ⊥
false_true e = grind arith

value_is : (o p : Option Json) → value_same o p ≡ true → o ≡ p
value_is None None e = refl
value_is (Some i) (Some j) e = ap Some ((json_same-Decides i j).0 e)
value_is None (Some j) e = absurd (false_true e)
value_is (Some i) None e = absurd (false_true e)

tuple_is : (t u : Tuple) → tuple_same t u ≡ true → t ≡ u
tuple_is [] [] e = refl
tuple_is (o ∷ os) (p ∷ ps) e =
    ap₂ (λ (v : Option Json) (vs : Tuple). v ∷ vs) (value_is o p (and_left (value_same o p) (tuple_same os ps) e)) (tuple_is os ps (and_right (value_same o p) (tuple_same os ps) e))
tuple_is [] (p ∷ ps) e = absurd (false_true e)
tuple_is (o ∷ os) [] e = absurd (false_true e)

unmatched_is : (o : Option Tuple) → is_unmatched o ≡ true → o ≡ None
unmatched_is None e = refl
unmatched_is (Some t) e = absurd (false_true e)

-- ---- a mark

pub living_alive : (d : Side) (c : Cell) (t : Tuple) (o : Option Tuple) → IsAlive d c t (living d c t o)
living_alive d c t None = tt
living_alive d c t (Some u) = by_answer (alive d c t u) refl
  where
    by_answer : (b : Bool) → alive d c t u ≡ b → IsAlive d c t (cond b (Some u) None)
    by_answer true q =
        let fits = allows (other d) c u in
        let free = is_unmatched (matched (other d) c.kind u) in
        let seen = tuple_same t (shown (other d) c.kind u) in
        let first = and_left (fits && free) seen q in
        (and_left fits free first, unmatched_is (matched (other d) c.kind u) (and_right fits free first), tuple_is t (shown (other d) c.kind u) (and_right (fits && free) seen q))
    by_answer false q = tt

value_same_self : (o : Option Json) → value_same o o ≡ true
value_same_self None = refl
value_same_self (Some j) = (json_same-Decides j j).1 refl

tuple_same_self : (t : Tuple) → tuple_same t t ≡ true
tuple_same_self [] = refl
tuple_same_self (o ∷ os) = and_intro (value_same o o) (tuple_same os os) (value_same_self o) (tuple_same_self os)

pub alive_living : (d : Side) (c : Cell) (t : Tuple) (o : Option Tuple) → IsAlive d c t o → living d c t o ≡ o
alive_living d c t None a = refl
alive_living d c t (Some u) a =
    let same : tuple_same t (shown (other d) c.kind u) ≡ true = ap (tuple_same t) (sym a.2) ∙ tuple_same_self t in
    rw (a.0, a.1, same) refl

-- ---- levels

cells_good : (d : Side) (cs : List Cell) (ms : Marks cs) → CellsAllowed d cs ms → AreGood d cs (living_marks d cs ms)
cells_good d [] ms a = tt
cells_good d (c ∷ cs) ms a = ((a.0, living_alive d c ms.0.0 ms.0.1), cells_good d cs ms.1 a.1)

if_there : {A : Type 0} (r : Bool) (P Q : A → Type 0) (f : A → A) → ((x : A) → P x → Q (f x)) → (o : Option A) → OrAbsent r P o → OrAbsent r Q (there f o)
if_there r P Q f h None g = g
if_there r P Q f h (Some x) g = h x g

mutual
  pub settled_good : (d : Side) (l : Level) (m : Marked l) → IsAllowed d l m → IsGood d l (settled_marks d l m)
  settled_good d (level cs is) m a = (cells_good d cs m.0 a.0, inners_good d is m.1 a.1)

  pub inners_good : (d : Side) (is : Inners) (ms : MarkedInners is) → InnersAllowed d is ms → InnersGood d is (settled_inners d is ms)
  inners_good d no_inner ms a = tt
  inners_good d (inner x y rq l is) ms a =
      (if_there rq (IsAllowed d l) (IsGood d l) (settled_marks d l) (λ m b. settled_good d l m b) ms.0 a.0, inners_good d is ms.1 a.1)

cells_settled : (d : Side) (cs : List Cell) (ms : Marks cs) → AreGood d cs ms → living_marks d cs ms ≡ ms
cells_settled d [] ms g = refl
cells_settled d (c ∷ cs) ms g =
    ap₂ (λ (o : Option Tuple) (r : Marks cs). ((ms.0.0, o), r)) (alive_living d c ms.0.0 ms.0.1 g.0.1) (cells_settled d cs ms.1 g.1)

there_same : {A : Type 0} (r : Bool) (P : A → Type 0) (f : A → A) → ((x : A) → P x → f x ≡ x) → (o : Option A) → OrAbsent r P o → there f o ≡ o
there_same r P f h None g = refl
there_same r P f h (Some x) g = ap Some (h x g)

mutual
  pub good_settled : (d : Side) (l : Level) (m : Marked l) → IsGood d l m → settled_marks d l m ≡ m
  good_settled d (level cs is) m g =
      ap₂ (λ (a : Marks cs) (b : MarkedInners is). (a, b)) (cells_settled d cs m.0 g.0) (inners_settled d is m.1 g.1)

  pub inners_settled : (d : Side) (is : Inners) (ms : MarkedInners is) → InnersGood d is ms → settled_inners d is ms ≡ ms
  inners_settled d no_inner ms g = refl
  inners_settled d (inner x y rq l is) ms g =
      ap₂ (λ (o : Option (Marked l)) (r : MarkedInners is). (o, r)) (there_same rq (IsGood d l) (settled_marks d l) (λ m h. good_settled d l m h) ms.0 g.0) (inners_settled d is ms.1 g.1)

-- ---- objects

pub whole_settled : (d : Side) (l : Level) (x : Held) → IsWholeOnSide d l x → settled d l x ≡ x
whole_settled d l x w = ap (object_of d l) (good_settled d l (marks_of d l x) w.good) ∙ w.nothing_else

-- there and back is the object without its dead entries
pub back_settled : (d : Side) (l : Level) (x : Held) → Ready l → IsAllowed d l (marks_of d l x) → converted (other d) l (converted d l x) ≡ settled d l x
back_settled d l x r a =
    let m = settled_marks d l (marks_of d l x) in
    let good = settled_good d l (marks_of d l x) a in
    let across = crossed_good d l m r.fits good in
    let back = marks_back (other d) l (crossed d l m) r across in
    subst (λ (e : Side). object_of e l (crossed (other d) l (settled_marks (other d) l (marks_of (other d) l (converted d l x)))) ≡ settled d l x) (sym (other_other d)) (
    ap (λ (n : Marked l). object_of d l (crossed (other d) l (settled_marks (other d) l n))) back ∙ ap (λ (n : Marked l). object_of d l (crossed (other d) l n)) (good_settled (other d) l (crossed d l m) across) ∙ ap (object_of d l) (crossed_back d l m r.fits good)
    )

pub settled_whole : (d : Side) (l : Level) (x : Held) → Ready l → IsAllowed d l (marks_of d l x) → IsWholeOnSide d l (settled d l x)
settled_whole d l x r a =
    let good = settled_good d l (marks_of d l x) a in
    let back = marks_back d l (settled_marks d l (marks_of d l x)) r good in record {
      good = subst (IsGood d l) (sym back) good;
      nothing_else = ap (object_of d l) back;
    }

pub converted_whole : (d : Side) (l : Level) (x : Held) → Ready l → IsAllowed d l (marks_of d l x) → IsWholeOnSide (other d) l (converted d l x)
converted_whole d l x r a =
    let good = crossed_good d l (settled_marks d l (marks_of d l x)) r.fits (settled_good d l (marks_of d l x) a) in
    let back = marks_back (other d) l (crossed d l (settled_marks d l (marks_of d l x))) r good in record {
      good = subst (IsGood (other d) l) (sym back) good;
      nothing_else = ap (object_of (other d) l) back;
    }
