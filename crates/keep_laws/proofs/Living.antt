-- The entries that settling leaves are those that are alive.
use Rattle.std.proofs.Common.{◌≡◌, List, [], ◌∷◌, map, Bool, true, false, cond, ◌⊎◌, inl, inr, Option, Some, None, refl, ap, sym, subst, ◌∙◌}
use Rattle.kj_value.specs.Fields.{Pairs, field}
use Rattle.hub_cells.specs.Side.{Side, other}
use Rattle.hub_cells.specs.Cell.{Tuple}
use Rattle.hub_cells.specs.Level.{Name, tuple_of}
use Rattle.kept_entries.specs.declared.entry.Entry.{Entry}
use Rattle.keep_laws.specs.Entry.{part, all_named, is_part, kept_here, kept_of, inside, under}
use Rattle.hub_cells.specs.Level.{Cell, Level, level, Inners, no_inner, inner, names, named, cells_names, inner_names, AreDistinct, NoNameTwice, NoneTwice}
use Rattle.keep_laws.specs.Marked.{Marked, there}
use Rattle.keep_laws.specs.Body.{object_in, read_cells, read, read_inners, entry_of, cell_entries, with_inside, all_entries, inner_entries}
use Rattle.keep_laws.specs.Settle.{alive, living, living_marks, settled_marks, settled_inners}
use Rattle.keep_laws.specs.Known.{IsRising}
use Rattle.keep_laws.specs.Alive.{IsAliveIn, AliveInCells, IsThere, AliveAt, AliveUnder}
use Rattle.keep_laws.proofs.Fields.{distinct_left, distinct_right}
use Rattle.keep_laws.proofs.Holds.{has_under}
use Rattle.keep_laws.proofs.Written.{split_has, left_has, right_has, map_has, has_map, past_cells}
use Rattle.keep_laws.proofs.Bodies.{put_read}
use Rattle.keep_laws.specs.Words.{Has, Parts}

some_some : {A : Type 0} (x y : A) → Some x ≡ Some y → x ≡ y
some_some x y e = cc

none_some : {A : Type 0} (x : A) → None ≡ Some x → ⊥
none_some x e = cc

part_all : (ns : List Name) (ps : Pairs) → is_part ns ps ≡ true → all_named ns ps ≡ true
part_all ns [] h = refl
part_all ns (p ∷ ps) h = h

abbrev Found : List Name → Tuple → List Entry → Type 0
Found ns u fs = (f : Entry) × Has f fs × (f.at ≡ []) × (is_part ns f.was ≡ true) × (tuple_of ns f.was ≡ u)

-- the entry that a kept tuple comes from
kept_from : (ns : List Name) (es : List Entry) (u : Tuple) → kept_of ns es ≡ Some u → Found ns u es
kept_from ns [] u q = absurd (none_some u q)
kept_from ns (e ∷ es) u q = by_at (kept_from ns es u) e.at refl q
  where
    past : Found ns u es → Found ns u (e ∷ es)
    past r = (r.0, inr r.1, r.2, r.3, r.4)

    by_part : (kept_of ns es ≡ Some u → Found ns u es) → e.at ≡ [] → (b : Bool) → is_part ns e.was ≡ b → cond b (Some (tuple_of ns e.was)) (kept_of ns es) ≡ Some u → Found ns u (e ∷ es)
    by_part later a true p q = (e, inl refl, a, p, some_some (tuple_of ns e.was) u q)
    by_part later a false p q = past (later q)

    by_at : (kept_of ns es ≡ Some u → Found ns u es) → (at : List Name) → e.at ≡ at → kept_here ns at e.was (kept_of ns es) ≡ Some u → Found ns u (e ∷ es)
    by_at later [] a q = by_part later a (is_part ns e.was) refl q
    by_at later (m ∷ at) a q = past (later q)

-- ---- cells

-- the entry is an alive one of these cells, or stands later
abbrev Answer : Side → Pairs → List Entry → Entry → List Entry → List Cell → Type 0
Answer d x es e later cs = ((e.at ≡ []) × Has e es × AliveInCells d cs x es e.was) ⊎ Has e later

module _ (d : Side) (x : Pairs) (es : List Entry) (parts : Parts es) where
  one_cell : (c : Cell) → AreDistinct (names (other d) c) → (o : Option Tuple) → kept_of (names (other d) c) es ≡ o → (u : Tuple) → living d c (tuple_of (names d c) x) o ≡ Some u → Has (record { at = []; was = part (names (other d) c) u }) es × IsAliveIn d c x es (part (names (other d) c) u)
  one_cell c a None k u q = absurd (none_some u q)
  one_cell c a (Some w) k u q = by_answer (alive d c (tuple_of (names d c) x) w) refl q
    where
      by_answer : (b : Bool) → alive d c (tuple_of (names d c) x) w ≡ b → cond b (Some w) None ≡ Some u → Has (record { at = []; was = part (names (other d) c) u }) es × IsAliveIn d c x es (part (names (other d) c) u)
      by_answer false s q = absurd (none_some u q)
      by_answer true s q =
          let ns = names (other d) c in
          let r = kept_from ns es w k in
          let same : w ≡ u = some_some w u q in
          let back : part ns u ≡ r.0.was = ap (part ns) (sym same ∙ sym r.4) ∙ put_read ns r.0.was a (parts r.0 r.1) (part_all ns r.0.was r.3) in
          let it : r.0 ≡ record { at = []; was = part ns u } = ap (λ (p : List Name). record { at = p; was = r.0.was }) r.2 ∙ ap (λ (w : Pairs). record { at = []; was = w }) (sym back) in
          let seen : tuple_of ns (part ns u) ≡ w = ap (tuple_of ns) back ∙ r.4 in (
            subst (λ (e : Entry). Has e es) it r.1,
            record {
              names_it = ap (is_part ns) back ∙ r.3;
              first = k ∙ ap Some (sym seen);
              shows = ap (alive d c (tuple_of (names d c) x)) seen ∙ s;
            },
          )

  cells_alive : (cs : List Cell) (rest : List Name) (later : List Entry) → AreDistinct (cells_names (other d) cs rest) → (e : Entry) → Has e (cell_entries d cs (living_marks d cs (read_cells d cs x es)) later) → ((e.at ≡ []) × Has e es × AliveInCells d cs x es e.was) ⊎ Has e later
  cells_alive [] rest later a e i = inr i
  cells_alive (c ∷ cs) rest later a e i = by_kept (cells_alive cs rest later (distinct_right (names (other d) c) (cells_names (other d) cs rest) a) e) (living d c (tuple_of (names d c) x) (kept_of (names (other d) c) es)) refl i
    where
      past : Answer d x es e later cs → Answer d x es e later (c ∷ cs)
      past (inl r) = inl (r.0, r.1, inr r.2)
      past (inr j) = inr j

      by_kept : (Has e (cell_entries d cs (living_marks d cs (read_cells d cs x es)) later) → Answer d x es e later cs) → (o : Option Tuple) → living d c (tuple_of (names d c) x) (kept_of (names (other d) c) es) ≡ o → Has e (entry_of (names (other d) c) o (cell_entries d cs (living_marks d cs (read_cells d cs x es)) later)) → Answer d x es e later (c ∷ cs)
      by_kept go None q i = past (go i)
      by_kept go (Some u) q (inr j) = past (go j)
      by_kept go (Some u) q (inl s) =
          let r = one_cell c (distinct_left (names (other d) c) (cells_names (other d) cs rest) a) (kept_of (names (other d) c) es) refl u q in
          inl (ap (λ (f : Entry). f.at) s, subst (λ (f : Entry). Has f es) (sym s) r.0, inl (subst (λ (w : Pairs). IsAliveIn d c x es w) (sym (ap (λ (f : Entry). f.was) s)) r.1))

alive_cells_of : (d : Side) (x : Pairs) (es : List Entry) (cs : List Cell) (rest : List Name) (later : List Entry) → AreDistinct (cells_names (other d) cs rest) → (was : Pairs) → IsRising was → AliveInCells d cs x es was → Has (record { at = []; was = was }) (cell_entries d cs (living_marks d cs (read_cells d cs x es)) later)
alive_cells_of d x es [] rest later a was r h = absurd h
alive_cells_of d x es (c ∷ cs) rest later a was r (inr h) =
    past (living d c (tuple_of (names d c) x) (kept_of (names (other d) c) es)) (alive_cells_of d x es cs rest later (distinct_right (names (other d) c) (cells_names (other d) cs rest) a) was r h)
  where
    past : (o : Option Tuple) → Has (record { at = []; was = was }) (cell_entries d cs (living_marks d cs (read_cells d cs x es)) later) → Has (record { at = []; was = was }) (entry_of (names (other d) c) o (cell_entries d cs (living_marks d cs (read_cells d cs x es)) later))
    past None j = j
    past (Some u) j = inr j
alive_cells_of d x es (c ∷ cs) rest later a was r (inl h) =
    let ns = names (other d) c in
    let back : part ns (tuple_of ns was) ≡ was = put_read ns was (distinct_left ns (cells_names (other d) cs rest) a) r (part_all ns was h.names_it) in
    rw (h.first, h.shows) (inl (ap (λ (w : Pairs). record { at = []; was = w }) (sym back)))

-- ---- levels

abbrev UnderAlive : Side → Inners → Pairs → List Entry → Entry → Type 0
UnderAlive d is x es e = (n : Name) × (at : List Name) × (e.at ≡ n ∷ at) × AliveUnder d is x es n at e.was

module _ (d : Side) (x : Pairs) (es : List Entry) (a b : Name) (rq : Bool) (l : Level) (is : Inners) where
  further : (e : Entry) → Has e es × UnderAlive d is x es e → Has e es × UnderAlive d (inner a b rq l is) x es e
  further e r = (r.0, (r.1.0, r.1.1, r.1.2, inr r.1.3))

  inner_alive : ((y : Pairs) (f : Entry) → Has f (all_entries d l (settled_marks d l (read d l y (inside (named (other d) a b) es)))) → Has f (inside (named (other d) a b) es) × AliveAt d l y (inside (named (other d) a b) es) f.at f.was) → (e : Entry) (later : List Entry)
      → (Has e later → Has e es × UnderAlive d is x es e) → (o : Option Pairs) → object_in (field (named d a b) x) ≡ o → Has e (with_inside (named (other d) a b) (all_entries d l) (there (settled_marks d l) (there (λ (y : Pairs). read d l y (inside (named (other d) a b) es)) o)) later)
      → Has e es × UnderAlive d (inner a b rq l is) x es e
  inner_alive go e later rest None q i = further e (rest i)
  inner_alive go e later rest (Some y) q i =
      by_side (split_has e (map (under (named (other d) a b)) (all_entries d l (settled_marks d l (read d l y (inside (named (other d) a b) es))))) later i)
    where
      by_side : Has e (map (under (named (other d) a b)) (all_entries d l (settled_marks d l (read d l y (inside (named (other d) a b) es))))) ⊎ Has e later → Has e es × UnderAlive d (inner a b rq l is) x es e
      by_side (inr j) = further e (rest j)
      by_side (inl j) =
          let n = named (other d) a b in
          let r = map_has n e (all_entries d l (settled_marks d l (read d l y (inside n es)))) j in
          let g = go y r.0 r.1 in
          let same : r.0.was ≡ e.was = ap (λ (f : Entry). f.was) (sym r.2) in
          let alive_here : AliveAt d l y (inside n es) r.0.at e.was = subst (λ (w : Pairs). AliveAt d l y (inside n es) r.0.at w) same g.1 in (
            subst (λ (f : Entry). Has f es) (sym r.2) (has_under n r.0 es g.0),
            (n, r.0.at, ap (λ (f : Entry). f.at) r.2, inl (refl, subst (λ (o : Option Pairs). IsThere (λ y. AliveAt d l y (inside n es) r.0.at e.was) o) (sym q) alive_here)),
          )

mutual
  pub level_alive : (d : Side) (l : Level) (x : Pairs) (es : List Entry) → Parts es → NoNameTwice (other d) l → (e : Entry) → Has e (all_entries d l (settled_marks d l (read d l x es))) → Has e es × AliveAt d l x es e.at e.was
  level_alive d (level cs is) x es p a e i =
      by_answer (inners_alive d is x es p a.1 e) (cells_alive d x es p cs (inner_names (other d) is) (inner_entries d is (settled_inners d is (read_inners d is x es))) a.0 e i)
    where
      by_answer : (Has e (inner_entries d is (settled_inners d is (read_inners d is x es))) → Has e es × UnderAlive d is x es e) → Answer d x es e (inner_entries d is (settled_inners d is (read_inners d is x es))) cs → Has e es × AliveAt d (level cs is) x es e.at e.was
      by_answer go (inl r) = (r.1, subst (λ (at : List Name). AliveAt d (level cs is) x es at e.was) (sym r.0) r.2)
      by_answer go (inr j) =
          let r = go j in
          (r.0, subst (λ (at : List Name). AliveAt d (level cs is) x es at e.was) (sym r.1.2) r.1.3)

  pub inners_alive : (d : Side) (is : Inners) (x : Pairs) (es : List Entry) → Parts es → NoneTwice (other d) is → (e : Entry) → Has e (inner_entries d is (settled_inners d is (read_inners d is x es))) → Has e es × UnderAlive d is x es e
  inners_alive d no_inner x es p a e i = absurd i
  inners_alive d (inner m k rq l is) x es p a e i =
      let n = named (other d) m k in
      inner_alive d x es m k rq l is (λ y f j. level_alive d l y (inside n es) (λ g h. p (under n g) (has_under n g es h)) a.0 f j) e (inner_entries d is (settled_inners d is (read_inners d is x es))) (inners_alive d is x es p a.1 e) (object_in (field (named d m k) x)) refl i

past_inside : (d : Side) (l : Level) (n : Name) (e : Entry) (later : List Entry) (o : Option (Marked l)) → Has e later → Has e (with_inside n (all_entries d l) o later)
past_inside d l n e later None i = i
past_inside d l n e later (Some m) i = right_has e (map (under n) (all_entries d l m)) later i

in_inside : (d : Side) (l : Level) (n : Name) (es : List Entry) (f : Entry) (later : List Entry) → ((y : Pairs) → AliveAt d l y es f.at f.was → Has f (all_entries d l (settled_marks d l (read d l y es)))) → (o : Option Pairs) → IsThere (λ y. AliveAt d l y es f.at f.was) o
    → Has (under n f) (with_inside n (all_entries d l) (there (settled_marks d l) (there (λ (y : Pairs). read d l y es) o)) later)
in_inside d l n es f later go None h = absurd h
in_inside d l n es f later go (Some y) h =
    let all = all_entries d l (settled_marks d l (read d l y es)) in
    left_has (under n f) (map (under n) all) later (has_map n f all (go y h))

mutual
  pub alive_level : (d : Side) (l : Level) (x : Pairs) (es : List Entry) → NoNameTwice (other d) l → (at : List Name) (was : Pairs) → IsRising was → AliveAt d l x es at was → Has (record { at = at; was = was }) (all_entries d l (settled_marks d l (read d l x es)))
  alive_level d (level cs is) x es a [] was r h =
      alive_cells_of d x es cs (inner_names (other d) is) (inner_entries d is (settled_inners d is (read_inners d is x es))) a.0 was r h
  alive_level d (level cs is) x es a (n ∷ at) was r h =
      past_cells d cs (living_marks d cs (read_cells d cs x es)) (inner_entries d is (settled_inners d is (read_inners d is x es))) (record { at = n ∷ at; was = was }) (alive_inners d is x es a.1 n at was r h)

  pub alive_inners : (d : Side) (is : Inners) (x : Pairs) (es : List Entry) → NoneTwice (other d) is → (n : Name) (at : List Name) (was : Pairs) → IsRising was → AliveUnder d is x es n at was → Has (record { at = n ∷ at; was = was }) (inner_entries d is (settled_inners d is (read_inners d is x es)))
  alive_inners d no_inner x es a n at was r h = absurd h
  alive_inners d (inner p q rq l is) x es a n at was r (inr h) =
      past_inside d l (named (other d) p q) (record { at = n ∷ at; was = was }) (inner_entries d is (settled_inners d is (read_inners d is x es))) (there (settled_marks d l) (there (λ (y : Pairs). read d l y (inside (named (other d) p q) es)) (object_in (field (named d p q) x)))) (
      alive_inners d is x es a.1 n at was r h
      )
  alive_inners d (inner p q rq l is) x es a n at was r (inl h) =
      let m = named (other d) p q in
      let later = inner_entries d is (settled_inners d is (read_inners d is x es)) in
      let o = object_in (field (named d p q) x) in
      subst (λ (k : Name). Has (record { at = k ∷ at; was = was }) (with_inside m (all_entries d l) (there (settled_marks d l) (there (λ (y : Pairs). read d l y (inside m es)) o)) later)) (sym h.0) (
      in_inside d l m (inside m es) (record { at = at; was = was }) later (λ y g. alive_level d l y (inside m es) a.0 at was r g) o h.1
      )
