-- Marks are read back from the fields and entries that they were written as, and so each whole object is paired with exactly one of the other side.
use Rattle.std.proofs.Common.{◌≡◌, ℕ, suc, ◌+◌, Bool, List, [], ◌∷◌, ◌++◌, length, Option, Some, None, length-append, refl, ap, ap₂, sym, subst, ◌∙◌, arith}
use Rattle.std.proofs.lemmas.List.{map-append}
use Rattle.kj_value.specs.Fields.{Pairs, field}
use Rattle.kj_value.specs.KindLaws.{pairs_members}
use Rattle.hub_cells.specs.Side.{Side, spoke, hub, other}
use Rattle.hub_cells.specs.Cell.{Tuple}
use Rattle.hub_cells.specs.Level.{Cell, Level, level, Inners, no_inner, inner, names, named, cells_names, inner_names, AreDistinct, NoNameTwice, NoneTwice, CellFits, CellsFit, Fits, InnersFit}
use Rattle.keep_laws.specs.Marked.{Mark, Marks, Marked, MarkedInners, IsAlive, AreGood, IfThere, OrAbsent, IsGood, InnersGood, there, crossed}
use Rattle.keep_laws.specs.Pairing.{Paired}
use Rattle.hub_cells.specs.Level.{Name, tuple_of}
use Rattle.kept_entries.specs.declared.entry.Entry.{Entry}
use Rattle.keep_laws.specs.Entry.{part, kept_of, inside, under}
use Rattle.keep_laws.specs.Body.{object_in, as_field, read_cells, read, read_inners, cells_values, body, inner_values, all_entries, entries}
use Rattle.keep_laws.specs.Whole.{Held, Ready, marks_of, object_of, IsWholeOnSide, IsPair, other_object, IsTheOne}
use Rattle.keep_laws.proofs.Fields.{allowed_length, put_back, distinct_left, distinct_right}
use Rattle.keep_laws.proofs.Holds.{HoldsCell, HoldsCells, Holds, HoldsInners, same_holds, kept_none, kept_some, kept_part, has_under, has_inside, order_has, has_order}
use Rattle.keep_laws.proofs.Written.{level_holds}
use Rattle.keep_laws.proofs.LawA.{other_other, crossed_good, crossed_back, paired_crossed, spoke_paired, hub_paired}
use Rattle.keep_laws.specs.Words.{Has}

pub cons_head : {A : Type 0} (x y : A) (xs ys : List A) → x ∷ xs ≡ y ∷ ys → x ≡ y
cons_head x y xs ys e = cc

pub cons_tail : {A : Type 0} (x y : A) (xs ys : List A) → x ∷ xs ≡ y ∷ ys → xs ≡ ys
cons_tail x y xs ys e = cc

two_parts : {A : Type 0} (xs ys vs ws : List A) → length xs ≡ length vs → xs ++ ys ≡ vs ++ ws → (xs ≡ vs) × (ys ≡ ws)
two_parts [] ys [] ws l e = (refl, e)
two_parts [] ys (v ∷ vs) ws l e = absurd (omega (arith, l))
two_parts (x ∷ xs) ys [] ws l e = absurd (omega (arith, l))
two_parts (x ∷ xs) ys (v ∷ vs) ws l e =
    let rest = two_parts xs ys vs ws (omega (arith, l)) (cons_tail x v (xs ++ ys) (vs ++ ws) e) in
    (ap₂ (λ z zs. z ∷ zs) (cons_head x v (xs ++ ys) (vs ++ ws) e) rest.0, rest.1)

pub tuple_length : (ns : List Name) (x : Pairs) → length (tuple_of ns x) ≡ length ns
tuple_length [] x = refl
tuple_length (n ∷ ns) x = ap suc (tuple_length ns x)

object_back : (o : Option Pairs) → object_in (as_field o) ≡ o
object_back None = refl
object_back (Some ps) = ap Some (pairs_members ps)

kept_back : (d : Side) (c : Cell) (t : Tuple) (o : Option Tuple) (es : List Entry) → CellFits c → AreDistinct (names (other d) c) → IsAlive d c t o → HoldsCell (λ e. Has e es) (names (other d) c) o → kept_of (names (other d) c) es ≡ o
kept_back d c t None es f a g h = kept_none (names (other d) c) es h
kept_back d c t (Some u) es f a g h =
    let p = kept_part d c t u f a g in
    kept_some (names (other d) c) (part (names (other d) c) u) es h.0 p.1 h.1 ∙ ap Some p.0

cells_length : (d : Side) (cs : List Cell) (ms : Marks cs) (ns : List Name) (os : Tuple) → CellsFit cs → AreGood d cs ms → length os ≡ length ns → length (cells_values cs ms os) ≡ length (cells_names d cs ns)
cells_length d [] ms ns os f g e = e
cells_length d (c ∷ cs) ms ns os f g e =
    length-append ms.0.0 (cells_values cs ms.1 os) ∙ ap₂ (λ (i j : ℕ). i + j) (allowed_length d c ms.0.0 g.0.0) (cells_length d cs ms.1 ns os f.1 g.1 e) ∙ sym (length-append (names d c) (cells_names d cs ns))

inner_length : (d : Side) (is : Inners) (ms : MarkedInners is) → length (inner_values d is ms) ≡ length (inner_names d is)
inner_length d no_inner ms = refl
inner_length d (inner a b rq l is) ms = ap suc (inner_length d is ms.1)

cells_back : (d : Side) (cs : List Cell) (ms : Marks cs) (x : Pairs) (es : List Entry) (ns ks : List Name) (os : Tuple) → CellsFit cs → AreGood d cs ms → AreDistinct (cells_names (other d) cs ks) → HoldsCells d cs ms (λ e. Has e es)
    → tuple_of (cells_names d cs ns) x ≡ cells_values cs ms os → (read_cells d cs x es ≡ ms) × (tuple_of ns x ≡ os)
cells_back d [] ms x es ns ks os f g a h e = (refl, e)
cells_back d (c ∷ cs) ms x es ns ks os f g a h e =
    let own = names d c in
    let theirs = names (other d) c in
    let rest = cells_names d cs ns in
    let parts = two_parts (tuple_of own x) (tuple_of rest x) ms.0.0 (cells_values cs ms.1 os) (tuple_length own x ∙ sym (allowed_length d c ms.0.0 g.0.0)) (sym (map-append (λ n. field n x) own rest) ∙ e) in
    let kept = kept_back d c ms.0.0 ms.0.1 es f.0 (distinct_left theirs (cells_names (other d) cs ks) a) g.0.1 h.0 in
    let later = cells_back d cs ms.1 x es ns ks os f.1 g.1 (distinct_right theirs (cells_names (other d) cs ks) a) h.1 parts.1 in
    (ap₂ (λ (m : Mark) (r : Marks cs). (m, r)) (ap₂ (λ (t : Tuple) (o : Option Tuple). (t, o)) parts.0 kept) later.0, later.1)

inside_back : (rq : Bool) (d : Side) (l : Level) (es : List Entry) (P : Marked l → Type 0) → ((m : Marked l) → IsGood d l m → P m → read d l (body d l m) es ≡ m) → (o : Option (Marked l)) → OrAbsent rq (IsGood d l) o → IfThere P o → there (λ (y : Pairs). read d l y es) (there (body d l) o) ≡ o
inside_back rq d l es P h None g p = refl
inside_back rq d l es P h (Some m) g p = ap Some (h m g p)

mutual
  pub read_back : (d : Side) (l : Level) (m : Marked l) (es : List Entry) → Fits l → NoNameTwice d l → NoNameTwice (other d) l → IsGood d l m → Holds d l m (λ e. Has e es) → read d l (body d l m) es ≡ m
  read_back d (level cs is) m es f a b g h =
      let x = body d (level cs is) m in
      let all : tuple_of (cells_names d cs (inner_names d is)) x ≡ cells_values cs m.0 (inner_values d is m.1) =
      put_back (cells_names d cs (inner_names d is)) (cells_values cs m.0 (inner_values d is m.1)) a.0 (cells_length d cs m.0 (inner_names d is) (inner_values d is m.1) f.0 g.0 (inner_length d is m.1)) in
      let here = cells_back d cs m.0 x es (inner_names d is) (inner_names (other d) is) (inner_values d is m.1) f.0 g.0 b.0 h.0 all in
      ap₂ (λ (ms : Marks cs) (ns : MarkedInners is). (ms, ns)) here.0 (inners_read_back d is m.1 x es f.1 a.1 b.1 g.1 h.1 here.1)

  pub inners_read_back : (d : Side) (is : Inners) (ms : MarkedInners is) (x : Pairs) (es : List Entry) → InnersFit is → NoneTwice d is → NoneTwice (other d) is → InnersGood d is ms → HoldsInners d is ms (λ e. Has e es) → tuple_of (inner_names d is) x ≡ inner_values d is ms → read_inners d is x es ≡ ms
  inners_read_back d no_inner ms x es f a b g h e = refl
  inners_read_back d (inner p q rq l is) ms x es f a b g h e =
      let n = named (other d) p q in
      let own : object_in (field (named d p q) x) ≡ there (body d l) ms.0 = ap object_in (cons_head (field (named d p q) x) (as_field (there (body d l) ms.0)) (tuple_of (inner_names d is) x) (inner_values d is ms.1) e) ∙ object_back (there (body d l) ms.0) in
      let first = ap (there (λ (y : Pairs). read d l y (inside n es))) own
      ∙ inside_back rq d l (inside n es) (λ m. Holds d l m (λ e. Has (under n e) es)) (
      λ m g h. read_back d l m (inside n es) f.0 a.0 b.0 g (same_holds d l m (λ e. Has (under n e) es) (λ e. Has e (inside n es)) (λ e i. has_inside n e es i) (λ e i. has_under n e es i) h)
      ) ms.0 g.0 h.0 in
      ap₂ (λ (o : Option (Marked l)) (ns : MarkedInners is). (o, ns)) first (
      inners_read_back d is ms.1 x es f.1 a.1 b.1 g.1 h.1 (cons_tail (field (named d p q) x) (as_field (there (body d l) ms.0)) (tuple_of (inner_names d is) x) (inner_values d is ms.1) e)
      )

-- ---- objects

pub no_name_twice : (d : Side) (l : Level) → Ready l → NoNameTwice d l
no_name_twice spoke l r = r.spoke_names
no_name_twice hub l r = r.hub_names

pub marks_back : (d : Side) (l : Level) (m : Marked l) → Ready l → IsGood d l m → marks_of d l (object_of d l m) ≡ m
marks_back d l m r g =
    read_back d l m (entries d l m) r.fits (no_name_twice d l r) (no_name_twice (other d) l r) g (
    same_holds d l m (λ e. Has e (all_entries d l m)) (λ e. Has e (entries d l m)) (λ e i. has_order e (all_entries d l m) i) (λ e i. order_has e (all_entries d l m) i) (level_holds d l m (no_name_twice (other d) l r))
    )

pub other_whole : (d : Side) (l : Level) (x : Held) → Ready l → IsWholeOnSide d l x → IsWholeOnSide (other d) l (other_object d l x)
other_whole d l x r w =
    let m = crossed d l (marks_of d l x) in
    let good = crossed_good d l (marks_of d l x) r.fits w.good in
    let back = marks_back (other d) l m r good in record {
      good = subst (IsGood (other d) l) (sym back) good;
      nothing_else = ap (object_of (other d) l) back;
    }

-- there and back
pub object_back_again : (d : Side) (l : Level) (x : Held) → Ready l → IsWholeOnSide d l x → other_object (other d) l (other_object d l x) ≡ x
object_back_again d l x r w =
    let m = marks_of d l x in
    let good = crossed_good d l m r.fits w.good in
    subst (λ (e : Side). object_of e l (crossed (other d) l (marks_of (other d) l (other_object d l x))) ≡ x) (sym (other_other d)) (
    ap (λ (n : Marked l). object_of d l (crossed (other d) l n)) (marks_back (other d) l (crossed d l m) r good) ∙ ap (object_of d l) (crossed_back d l m r.fits w.good) ∙ w.nothing_else
    )

pub spoke_of : (l : Level) (h : Held) → Ready l → IsWholeOnSide hub l h → IsTheOne (λ x. IsPair l x h) (other_object hub l h)
spoke_of l h r w =
    let n = marks_of hub l h in
    let good = crossed_good hub l n r.fits w.good in
    let back = marks_back spoke l (crossed hub l n) r good in record {
      holds = record {
        cells = subst (λ (m : Marked l). Paired l m n) (sym back) (hub_paired l n r.fits w.good);
        spoke_rest = ap (object_of spoke l) back;
        hub_rest = w.nothing_else;
      };
      only = λ y p. sym p.spoke_rest ∙ ap (object_of spoke l) (paired_crossed l (marks_of spoke l y) n r.fits p.cells).1;
    }

pub hub_of : (l : Level) (x : Held) → Ready l → IsWholeOnSide spoke l x → IsTheOne (λ h. IsPair l x h) (other_object spoke l x)
hub_of l x r w =
    let m = marks_of spoke l x in
    let good = crossed_good spoke l m r.fits w.good in
    let back = marks_back hub l (crossed spoke l m) r good in record {
      holds = record {
        cells = subst (λ (n : Marked l). Paired l m n) (sym back) (spoke_paired l m r.fits w.good);
        spoke_rest = w.nothing_else;
        hub_rest = ap (object_of hub l) back;
      };
      only = λ y p. sym p.hub_rest ∙ ap (object_of hub l) (paired_crossed l m (marks_of hub l y) r.fits p.cells).0;
    }

-- what is paired with a whole object of the hub is whole itself
pub pair_whole : (l : Level) (x h : Held) → Ready l → IsWholeOnSide hub l h → IsPair l x h → IsWholeOnSide spoke l x
pair_whole l x h r w p = record {
  good = subst (IsGood spoke l) (sym (paired_crossed l (marks_of spoke l x) (marks_of hub l h) r.fits p.cells).1) (crossed_good hub l (marks_of hub l h) r.fits w.good);
  nothing_else = p.spoke_rest;
}
