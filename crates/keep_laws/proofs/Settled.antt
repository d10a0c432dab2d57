-- A whole object is settled, in the words of names, tuples and entries.
use Rattle.std.proofs.Common.{◌≡◌, List, [], ◌∷◌, Bool, true, Option, Some, None, ap, sym, subst}
use Rattle.hub_cells.specs.Side.{Side, other}
use Rattle.hub_cells.specs.Level.{Cell, Level, level, Inners, no_inner, inner}
use Rattle.kept_entries.specs.declared.entry.Entry.{Entry}
use Rattle.kept_entries.specs.Entry.{are_in_order}
use Rattle.keep_laws.specs.Entry.{in_order}
use Rattle.keep_laws.specs.Marked.{Marks, Marked, MarkedInners, AreGood, OrAbsent, IsGood, InnersGood}
use Rattle.keep_laws.specs.Body.{all_entries}
use Rattle.keep_laws.specs.Known.{IsKnown}
use Rattle.keep_laws.specs.Settle.{CellsAllowed, IsAllowed, InnersAllowed}
use Rattle.keep_laws.specs.Whole.{Held, Ready, IsWholeOnSide, marks_of}
use Rattle.keep_laws.specs.Words.{Has, Parts, AllAlive, IsSettledObject}
use Rattle.keep_laws.proofs.Back.{no_name_twice}
use Rattle.keep_laws.proofs.Dead.{good_settled}
use Rattle.keep_laws.proofs.Holds.{order_has}
use Rattle.keep_laws.proofs.Living.{level_alive}
use Rattle.keep_laws.proofs.FittedWritten.{body_known}
use Rattle.keep_laws.proofs.Ordered.{level_parts, level_differ, ordered}

cells_allowed : (d : Side) (cs : List Cell) (ms : Marks cs) → AreGood d cs ms → CellsAllowed d cs ms
cells_allowed d [] ms g = tt
cells_allowed d (c ∷ cs) ms g = (g.0.0, cells_allowed d cs ms.1 g.1)

or_absent : {A : Type 0} (r : Bool) (P Q : A → Type 0) → ((x : A) → P x → Q x) → (o : Option A) → OrAbsent r P o → OrAbsent r Q o
or_absent r P Q h None g = g
or_absent r P Q h (Some x) g = h x g

mutual
  pub good_allowed : (d : Side) (l : Level) (m : Marked l) → IsGood d l m → IsAllowed d l m
  good_allowed d (level cs is) m g = (cells_allowed d cs m.0 g.0, inners_allowed d is m.1 g.1)

  pub inners_allowed : (d : Side) (is : Inners) (ms : MarkedInners is) → InnersGood d is ms → InnersAllowed d is ms
  inners_allowed d no_inner ms g = tt
  inners_allowed d (inner a b rq l is) ms g =
      (or_absent rq (IsGood d l) (IsAllowed d l) (λ m h. good_allowed d l m h) ms.0 g.0, inners_allowed d is ms.1 g.1)

module _ (d : Side) (l : Level) (x : Held) (r : Ready l) (w : IsWholeOnSide d l x) where
  pub whole_known : IsKnown d l x.fields
  whole_known =
      subst (IsKnown d l) (ap (λ (h : Held). h.fields) w.nothing_else) (body_known d l (marks_of d l x) (no_name_twice d l r) w.good)

  pub whole_allowed : IsAllowed d l (marks_of d l x)
  whole_allowed = good_allowed d l (marks_of d l x) w.good

  same_entries : in_order (all_entries d l (marks_of d l x)) ≡ x.entries
  same_entries = ap (λ (h : Held). h.entries) w.nothing_else

  among : (e : Entry) → Has e x.entries → Has e (all_entries d l (marks_of d l x))
  among e i =
      order_has e (all_entries d l (marks_of d l x)) (subst (λ (es : List Entry). Has e es) (sym same_entries) i)

  parts : Parts x.entries
  parts e i = (level_parts d l (marks_of d l x) r.fits (no_name_twice (other d) l r) w.good e (among e i)).0

  order : are_in_order x.entries ≡ true
  order =
      let m = marks_of d l x in
      let nn = no_name_twice (other d) l r in
      subst (λ (es : List Entry). are_in_order es ≡ true) same_entries (ordered (all_entries d l m) (λ e i. level_parts d l m r.fits nn w.good e i) (level_differ d l m r.fits w.good nn))

  alive : AllAlive d l x.fields x.entries
  alive e i =
      let m = marks_of d l x in
      let j = subst (λ (n : Marked l). Has e (all_entries d l n)) (sym (good_settled d l m w.good)) (among e i) in
      (level_alive d l x.fields x.entries parts (no_name_twice (other d) l r) e j).1

  pub whole_settled : IsSettledObject d l x
  whole_settled =
      record { known = whole_known; allowed = whole_allowed; parts = parts; order = order; alive = alive }
