-- The entries of a whole object are not too deep for an annotation.
use Rattle.std.proofs.Common.{◌≡◌, ℕ, ◌+◌, ◌≤◌, List, [], ◌∷◌, map, Bool, true, ◌&&◌, ◌⊎◌, inl, inr, Option, Some, None, Ordering, Less, Equal, Greater, nat_cmp, refl, ap, sym, subst, arith}
use Rattle.std.specs.Prelude.{leb}
use Rattle.std.specs.Ordering.{match_ordering}
use Rattle.std.specs.Cmp.Lexicographic.{slice_cmp}
use Rattle.std.proofs.lemmas.Bool.{leb-true}
use Rattle.kj_value.specs.Json.{Json, text, depth, items_depth, members_depth, items_of, members_of}
use Rattle.kj_value.specs.Fields.{Pairs, with_field}
use Rattle.struct_schema.specs.Valid.{valid}
use Rattle.struct_schema.specs.Stays.{stays}
use Rattle.hub_cells.specs.declared.allowed.TheConstants.{STORED_LEVELS}
use Rattle.hub_cells.specs.Side.{Side, other}
use Rattle.hub_cells.specs.Cell.{Tuple}
use Rattle.hub_cells.specs.Level.{Name, Place, places, names, named, is_word, allowed_at, all_allowed, Cell, Level, level, Inners, no_inner, inner}
use Rattle.kept_entries.specs.declared.entry.Entry.{Entry}
use Rattle.kept_entries.specs.declared.reading.TheConstants.{KEPT_LEVELS}
use Rattle.kept_entries.specs.Text.{entry_json, kept_json}
use Rattle.keep_laws.specs.Entry.{put, under}
use Rattle.keep_laws.specs.Marked.{Marks, Marked, MarkedInners, IsAlive, AreGood, OrAbsent, IsGood, InnersGood}
use Rattle.keep_laws.specs.Body.{entry_of, cell_entries, with_inside, all_entries, inner_entries}
use Rattle.keep_laws.specs.Whole.{Held, marks_of, IsWholeOnSide}
use Rattle.keep_laws.specs.Words.{Has}
use Rattle.keep_laws.proofs.Holds.{order_has}
use Rattle.keep_laws.proofs.Written.{split_has, map_has}

abbrev IsShallow : Entry → Type 0
IsShallow e = members_depth (members_of e.was) ≤ 63

and_left : (a b : Bool) → (a && b) ≡ true → a ≡ true
and_left a b p = grind arith

and_right : (a b : Bool) → (a && b) ≡ true → b ≡ true
and_right a b p = grind arith

-- ---- one cell

abbrev AreShallow : Tuple → Type 0
AreShallow [] = Unit {0}
AreShallow (None ∷ os) = AreShallow os
AreShallow (Some j ∷ os) = (depth j ≤ 63) × AreShallow os

shallow_at : (n : ℕ) (p : Place) (j : Json) → allowed_at n p (Some j) ≡ true → depth j ≤ 63
shallow_at n p j h =
    let three = and_left (valid p.shape j && stays p.shape j && leb (n + 1 + depth j) STORED_LEVELS) (is_word j) h in
    let room : n + 1 + depth j ≤ STORED_LEVELS = leb-true (n + 1 + depth j) STORED_LEVELS (and_right (valid p.shape j && stays p.shape j) (leb (n + 1 + depth j) STORED_LEVELS) three) in
    omega arith

shallow_all : (n : ℕ) (ps : List Place) (t : Tuple) → all_allowed n ps t ≡ true → AreShallow t
shallow_all n [] [] h = tt
shallow_all n [] (o ∷ os) h = absurd (cc)
shallow_all n (p ∷ ps) [] h = tt
shallow_all n (p ∷ ps) (None ∷ os) h = shallow_all n ps os (and_right (allowed_at n p None) (all_allowed n ps os) h)
shallow_all n (p ∷ ps) (Some j ∷ os) h =
    (shallow_at n p j (and_left (allowed_at n p (Some j)) (all_allowed n ps os) h), shallow_all n ps os (and_right (allowed_at n p (Some j)) (all_allowed n ps os) h))

with_depth : (n : Name) (j : Json) (ps : Pairs) → depth j ≤ 63 → members_depth (members_of ps) ≤ 63 → members_depth (members_of (with_field n j ps)) ≤ 63
with_depth n j [] p q = omega arith
with_depth n j (e ∷ es) p q = by_order (with_depth n j es p (omega (arith, q))) (slice_cmp nat_cmp n e.0)
  where
    by_order : members_depth (members_of (with_field n j es)) ≤ 63 → (o : Ordering) → members_depth (members_of (match_ordering o ((n, j) ∷ e ∷ es) ((e.0, j) ∷ es) (e ∷ with_field n j es))) ≤ 63
    by_order later Less = omega (arith, p, q)
    by_order later Equal = omega (arith, p, q)
    by_order later Greater = omega (arith, q, later)

put_depth : (ns : List Name) (os : Tuple) (ps : Pairs) → AreShallow os → members_depth (members_of ps) ≤ 63 → members_depth (members_of (put ns os ps)) ≤ 63
put_depth [] os ps a q = q
put_depth (n ∷ ns) [] ps a q = q
put_depth (n ∷ ns) (None ∷ os) ps a q = put_depth ns os ps a q
put_depth (n ∷ ns) (Some j ∷ os) ps a q = put_depth ns os (with_field n j ps) a.1 (with_depth n j ps a.0 q)

-- ---- levels

cells_shallow : (d : Side) (cs : List Cell) (ms : Marks cs) (es : List Entry) → AreGood d cs ms → ((e : Entry) → Has e es → IsShallow e) → (e : Entry) → Has e (cell_entries d cs ms es) → IsShallow e
cells_shallow d [] ms es g h e i = h e i
cells_shallow d (c ∷ cs) ms es g h e i = by_kept (cells_shallow d cs ms.1 es g.1 h e) ms.0.1 g.0.1 i
  where
    by_kept : (Has e (cell_entries d cs ms.1 es) → IsShallow e) → (o : Option Tuple) → IsAlive d c ms.0.0 o → Has e (entry_of (names (other d) c) o (cell_entries d cs ms.1 es)) → IsShallow e
    by_kept later None a i = later i
    by_kept later (Some u) a (inl s) =
        subst IsShallow (sym s) (put_depth (names (other d) c) u [] (shallow_all c.depth (places (other d) c) u a.0) (omega arith))
    by_kept later (Some u) a (inr j) = later j

inner_shallow : (rq : Bool) (d : Side) (l : Level) (n : Name) (rest : List Entry) → ((m : Marked l) → IsGood d l m → (e : Entry) → Has e (all_entries d l m) → IsShallow e) → ((e : Entry) → Has e rest → IsShallow e) → (o : Option (Marked l)) → OrAbsent rq (IsGood d l) o → (e : Entry) → Has e (with_inside n (all_entries d l) o rest) → IsShallow e
inner_shallow rq d l n rest go h None g e i = h e i
inner_shallow rq d l n rest go h (Some m) g e i = by_side (split_has e (map (under n) (all_entries d l m)) rest i)
  where
    by_side : Has e (map (under n) (all_entries d l m)) ⊎ Has e rest → IsShallow e
    by_side (inl j) =
        let r = map_has n e (all_entries d l m) j in
        let small : IsShallow (under n r.0) = go m g r.0 r.1 in
        subst IsShallow (sym r.2) small
    by_side (inr j) = h e j

mutual
  level_shallow : (d : Side) (l : Level) (m : Marked l) → IsGood d l m → (e : Entry) → Has e (all_entries d l m) → IsShallow e
  level_shallow d (level cs is) m g e i = cells_shallow d cs m.0 (inner_entries d is m.1) g.0 (inners_shallow d is m.1 g.1) e i

  inners_shallow : (d : Side) (is : Inners) (ms : MarkedInners is) → InnersGood d is ms → (e : Entry) → Has e (inner_entries d is ms) → IsShallow e
  inners_shallow d no_inner ms g e i = absurd i
  inners_shallow d (inner x y rq l is) ms g e i =
      inner_shallow rq d l (named (other d) x y) (inner_entries d is ms.1) (λ m h. level_shallow d l m h) (inners_shallow d is ms.1 g.1) ms.0 g.0 e i

-- ---- the list

path_flat : (ns : List Name) → items_depth (items_of (map text ns)) ≤ 0
path_flat [] = omega arith
path_flat (n ∷ ns) = omega (arith, path_flat ns)

entry_depth : (e : Entry) → IsShallow e → depth (entry_json e) ≤ 65
entry_depth e h = omega (arith, path_flat e.at, h)

items_shallow : (es : List Entry) → ((e : Entry) → Has e es → IsShallow e) → items_depth (items_of (map entry_json es)) ≤ 65
items_shallow [] h = omega arith
items_shallow (e ∷ es) h = omega (arith, entry_depth e (h e (inl refl)), items_shallow es (λ f i. h f (inr i)))

pub whole_levels : (d : Side) (l : Level) (x : Held) → IsWholeOnSide d l x → depth (kept_json x.entries) ≤ KEPT_LEVELS
whole_levels d l x w =
    let m = marks_of d l x in
    let same = ap (λ (h : Held). h.entries) w.nothing_else in
    let here : (e : Entry) → Has e x.entries → IsShallow e =
    λ e i. level_shallow d l m w.good e (order_has e (all_entries d l m) (subst (λ (es : List Entry). Has e es) (sym same) i)) in
    omega (arith, items_shallow x.entries here)
