-- The entries that were written for marks hold of them.
use Rattle.std.proofs.Common.{◌≡◌, List, [], ◌∷◌, ◌++◌, map, Bool, true, false, ◌⊎◌, inl, inr, Option, Some, None, refl, ap, sym, subst, ◌∙◌, arith}
use Rattle.kj_value.specs.Fields.{Pairs}
use Rattle.hub_cells.specs.Side.{Side, other}
use Rattle.hub_cells.specs.Cell.{Tuple}
use Rattle.hub_cells.specs.Level.{Cell, Level, level, Inners, no_inner, inner, names, named, cells_names, inner_names, IsFresh, AreDistinct, NoNameTwice, NoneTwice}
use Rattle.keep_laws.specs.Marked.{Marks, Marked, MarkedInners, IfThere}
use Rattle.hub_cells.specs.Level.{Name}
use Rattle.kept_entries.specs.declared.entry.Entry.{Entry}
use Rattle.keep_laws.specs.Entry.{part, is_part, under}
use Rattle.hub_cells.specs.Fit.{has_name}
use Rattle.keep_laws.specs.Body.{entry_of, cell_entries, with_inside, all_entries, inner_entries}
use Rattle.keep_laws.proofs.Fields.{part_named, Disjoint, distinct_right, distinct_apart, disjoint_turned, disjoint_left, disjoint_right, not_part, has_first, has_more, fresh_absent}
use Rattle.keep_laws.proofs.Holds.{HoldsCell, HoldsCells, Holds, HoldsInners, same_holds}
use Rattle.keep_laws.specs.Words.{Has}

true_false : (b : Bool) → b ≡ true → b ≡ false → ⊥
true_false b p q = grind arith

nil_cons : {A : Type 0} (x : A) (xs : List A) → [] ≡ x ∷ xs → ⊥
nil_cons x xs e = cc

-- ---- cells

wrong_part : (ns ms : List Name) (u : Tuple) (e : Entry) → Disjoint ns ms → e.was ≡ part ms u → is_part ns e.was ≡ true → ⊥
wrong_part ns ms u e h s p =
    true_false (is_part ns (part ms u)) (subst (λ (w : Pairs). is_part ns w ≡ true) s p) (not_part ms ns (part ms u) (disjoint_turned ns ms h) (part_named ms u))

pub none_from : (d : Side) (ns : List Name) (cs : List Cell) (ms : Marks cs) (es : List Entry) (rest : List Name) → Disjoint ns (cells_names (other d) cs rest) → ((e : Entry) → Has e es → e.at ≡ [] → ⊥) → (e : Entry) → Has e (cell_entries d cs ms es) → e.at ≡ [] → is_part ns e.was ≡ true → ⊥
none_from d ns [] ms es rest h no_here e i q p = no_here e i q
none_from d ns (c ∷ cs) ms es rest h no_here e i q p =
    by_kept (λ j. none_from d ns cs ms.1 es rest (disjoint_right ns (names (other d) c) (cells_names (other d) cs rest) h) no_here e j q p) ms.0.1 i
  where
    by_kept : (Has e (cell_entries d cs ms.1 es) → ⊥) → (o : Option Tuple) → Has e (entry_of (names (other d) c) o (cell_entries d cs ms.1 es)) → ⊥
    by_kept later None i = later i
    by_kept later (Some u) (inl s) = wrong_part ns (names (other d) c) u e (disjoint_left ns (names (other d) c) (cells_names (other d) cs rest) h) (ap (λ (f : Entry). f.was) s) p
    by_kept later (Some u) (inr j) = later j

one_more : (ms ns : List Name) (u : Tuple) (o : Option Tuple) (E : Entry → Type 0) → Disjoint ms ns → HoldsCell E ns o → HoldsCell (λ e. (e ≡ record { at = []; was = part ms u }) ⊎ E e) ns o
one_more ms ns u None E h k = by_entry
  where
    by_entry : (e : Entry) → (e ≡ record { at = []; was = part ms u }) ⊎ E e → e.at ≡ [] → is_part ns e.was ≡ true → ⊥
    by_entry e (inl s) q p = wrong_part ns ms u e (disjoint_turned ms ns h) (ap (λ (f : Entry). f.was) s) p
    by_entry e (inr i) q p = k e i q p
one_more ms ns u (Some w) E h k = (inr k.0, by_entry)
  where
    by_entry : (e : Entry) → (e ≡ record { at = []; was = part ms u }) ⊎ E e → e.at ≡ [] → is_part ns e.was ≡ true → e.was ≡ part ns w
    by_entry e (inl s) q p = absurd (wrong_part ns ms u e (disjoint_turned ms ns h) (ap (λ (f : Entry). f.was) s) p)
    by_entry e (inr i) q p = k.1 e i q p

more_cells : (d : Side) (ns : List Name) (u : Tuple) (cs : List Cell) (ms : Marks cs) (rest : List Name) (E : Entry → Type 0) → Disjoint ns (cells_names (other d) cs rest) → HoldsCells d cs ms E → HoldsCells d cs ms (λ e. (e ≡ record { at = []; was = part ns u }) ⊎ E e)
more_cells d ns u [] ms rest E h k = tt
more_cells d ns u (c ∷ cs) ms rest E h k = (
  one_more ns (names (other d) c) u ms.0.1 E (disjoint_left ns (names (other d) c) (cells_names (other d) cs rest) h) k.0,
  more_cells d ns u cs ms.1 rest E (disjoint_right ns (names (other d) c) (cells_names (other d) cs rest) h) k.1,
)

cells_hold : (d : Side) (cs : List Cell) (ms : Marks cs) (es : List Entry) (rest : List Name) → AreDistinct (cells_names (other d) cs rest) → ((e : Entry) → Has e es → e.at ≡ [] → ⊥) → HoldsCells d cs ms (λ e. Has e (cell_entries d cs ms es))
cells_hold d [] ms es rest a no_here = tt
cells_hold d (c ∷ cs) ms es rest a no_here =
    let ns = names (other d) c in
    let others = cells_names (other d) cs rest in
    by_kept (none_from d ns cs ms.1 es rest (distinct_apart ns others a) no_here) (cells_hold d cs ms.1 es rest (distinct_right ns others a) no_here) ms.0.1
  where
    by_kept : ((e : Entry) → Has e (cell_entries d cs ms.1 es) → e.at ≡ [] → is_part (names (other d) c) e.was ≡ true → ⊥) → HoldsCells d cs ms.1 (λ e. Has e (cell_entries d cs ms.1 es)) → (o : Option Tuple)
        → HoldsCell (λ e. Has e (entry_of (names (other d) c) o (cell_entries d cs ms.1 es))) (names (other d) c) o × HoldsCells d cs ms.1 (λ e. Has e (entry_of (names (other d) c) o (cell_entries d cs ms.1 es)))
    by_kept none later None = (none, later)
    by_kept none later (Some u) =
        ((inl refl, by_entry), more_cells d (names (other d) c) u cs ms.1 rest (λ e. Has e (cell_entries d cs ms.1 es)) (distinct_apart (names (other d) c) (cells_names (other d) cs rest) a) later)
      where
        by_entry : (e : Entry) → (e ≡ record { at = []; was = part (names (other d) c) u }) ⊎ Has e (cell_entries d cs ms.1 es) → e.at ≡ [] → is_part (names (other d) c) e.was ≡ true → e.was ≡ part (names (other d) c) u
        by_entry e (inl s) q p = ap (λ (f : Entry). f.was) s
        by_entry e (inr i) q p = absurd (none e i q p)

-- ---- lists of entries inside objects

pub split_has : (e : Entry) (xs ys : List Entry) → Has e (xs ++ ys) → Has e xs ⊎ Has e ys
split_has e [] ys i = inr i
split_has e (x ∷ xs) ys (inl s) = inl (inl s)
split_has e (x ∷ xs) ys (inr i) = by_side (split_has e xs ys i)
  where
    by_side : Has e xs ⊎ Has e ys → Has e (x ∷ xs) ⊎ Has e ys
    by_side (inl j) = inl (inr j)
    by_side (inr j) = inr j

pub left_has : (e : Entry) (xs ys : List Entry) → Has e xs → Has e (xs ++ ys)
left_has e [] ys i = absurd i
left_has e (x ∷ xs) ys (inl s) = inl s
left_has e (x ∷ xs) ys (inr i) = inr (left_has e xs ys i)

pub right_has : (e : Entry) (xs ys : List Entry) → Has e ys → Has e (xs ++ ys)
right_has e [] ys i = i
right_has e (x ∷ xs) ys i = inr (right_has e xs ys i)

pub map_has : (n : Name) (e : Entry) (xs : List Entry) → Has e (map (under n) xs) → (f : Entry) × Has f xs × (e ≡ under n f)
map_has n e [] i = absurd i
map_has n e (x ∷ xs) (inl s) = (x, inl refl, s)
map_has n e (x ∷ xs) (inr i) = let r = map_has n e xs i in (r.0, inr r.1, r.2)

pub has_map : (n : Name) (f : Entry) (xs : List Entry) → Has f xs → Has (under n f) (map (under n) xs)
has_map n f [] i = i
has_map n f (x ∷ xs) (inl s) = inl (ap (under n) s)
has_map n f (x ∷ xs) (inr i) = inr (has_map n f xs i)

abbrev head_of : List Name → Name
head_of [] = []
head_of (m ∷ ms) = m

abbrev tail_of : List Name → List Name
tail_of [] = []
tail_of (m ∷ ms) = ms

same_object : (k n : Name) (e f : Entry) → under k e ≡ under n f → k ≡ n
same_object k n e f s = ap (λ (g : Entry). head_of g.at) s

same_entry : (k n : Name) (e f : Entry) → under k e ≡ under n f → e ≡ f
same_entry k n e f s = ap (λ (g : Entry). record { at = tail_of g.at; was = g.was }) s

-- the entries of one inner object among those of others
pub under_map : (k n : Name) (e : Entry) (xs : List Entry) → Has (under k e) (map (under n) xs) → (k ≡ n) × Has e xs
under_map k n e xs i =
    let r = map_has n (under k e) xs i in
    (same_object k n e r.0 r.2, subst (λ (g : Entry). Has g xs) (sym (same_entry k n e r.0 r.2)) r.1)

-- ---- inner objects

pub no_here : (d : Side) (is : Inners) (ms : MarkedInners is) (e : Entry) → Has e (inner_entries d is ms) → e.at ≡ [] → ⊥
no_here d no_inner ms e i q = i
no_here d (inner a b rq l is) ms e i q = by_there (λ j. no_here d is ms.1 e j q) ms.0 i
  where
    by_side : (Has e (inner_entries d is ms.1) → ⊥) → (m : Marked l) → Has e (map (under (named (other d) a b)) (all_entries d l m)) ⊎ Has e (inner_entries d is ms.1) → ⊥
    by_side later m (inl j) =
        let r = map_has (named (other d) a b) e (all_entries d l m) j in
        nil_cons (named (other d) a b) r.0.at (sym q ∙ ap (λ (g : Entry). g.at) r.2)
    by_side later m (inr j) = later j

    by_there : (Has e (inner_entries d is ms.1) → ⊥) → (o : Option (Marked l)) → Has e (with_inside (named (other d) a b) (all_entries d l) o (inner_entries d is ms.1)) → ⊥
    by_there later None i = later i
    by_there later (Some m) i = by_side later m (split_has e (map (under (named (other d) a b)) (all_entries d l m)) (inner_entries d is ms.1) i)

names_it : (d : Side) (is : Inners) (ms : MarkedInners is) (k : Name) (e : Entry) → Has (under k e) (inner_entries d is ms) → has_name k (inner_names (other d) is) ≡ true
names_it d no_inner ms k e i = absurd i
names_it d (inner a b rq l is) ms k e i =
    by_there (λ j. has_more k (named (other d) a b) (inner_names (other d) is) (names_it d is ms.1 k e j)) ms.0 i
  where
    by_side : (Has (under k e) (inner_entries d is ms.1) → has_name k (inner_names (other d) (inner a b rq l is)) ≡ true) → (m : Marked l) → Has (under k e) (map (under (named (other d) a b)) (all_entries d l m)) ⊎ Has (under k e) (inner_entries d is ms.1)
        → has_name k (inner_names (other d) (inner a b rq l is)) ≡ true
    by_side later m (inl j) =
        let r = under_map k (named (other d) a b) e (all_entries d l m) j in
        subst (λ (n : Name). has_name k (n ∷ inner_names (other d) is) ≡ true) r.0 (has_first k (inner_names (other d) is))
    by_side later m (inr j) = later j

    by_there : (Has (under k e) (inner_entries d is ms.1) → has_name k (inner_names (other d) (inner a b rq l is)) ≡ true) → (o : Option (Marked l)) → Has (under k e) (with_inside (named (other d) a b) (all_entries d l) o (inner_entries d is ms.1))
        → has_name k (inner_names (other d) (inner a b rq l is)) ≡ true
    by_there later None i = later i
    by_there later (Some m) i = by_side later m (split_has (under k e) (map (under (named (other d) a b)) (all_entries d l m)) (inner_entries d is ms.1) i)

cells_under : (d : Side) (cs : List Cell) (ms : Marks cs) (es : List Entry) (k : Name) (e : Entry) → Has (under k e) (cell_entries d cs ms es) → Has (under k e) es
cells_under d [] ms es k e i = i
cells_under d (c ∷ cs) ms es k e i = by_kept (cells_under d cs ms.1 es k e) ms.0.1 i
  where
    by_kept : (Has (under k e) (cell_entries d cs ms.1 es) → Has (under k e) es) → (o : Option Tuple) → Has (under k e) (entry_of (names (other d) c) o (cell_entries d cs ms.1 es)) → Has (under k e) es
    by_kept later None i = later i
    by_kept later (Some u) (inl s) = absurd (nil_cons k e.at (sym (ap (λ (g : Entry). g.at) s)))
    by_kept later (Some u) (inr j) = later j

pub past_cells : (d : Side) (cs : List Cell) (ms : Marks cs) (es : List Entry) (e : Entry) → Has e es → Has e (cell_entries d cs ms es)
past_cells d [] ms es e i = i
past_cells d (c ∷ cs) ms es e i = by_kept (past_cells d cs ms.1 es e i) ms.0.1
  where
    by_kept : Has e (cell_entries d cs ms.1 es) → (o : Option Tuple) → Has e (entry_of (names (other d) c) o (cell_entries d cs ms.1 es))
    by_kept j None = j
    by_kept j (Some u) = inr j

-- E has the entries inside the objects ns that es has
pub record SameInside (E : Entry → Type 0) (ns : List Name) (es : List Entry) : Type 0 where
  pub to : (k : Name) (e : Entry) → has_name k ns ≡ true → E (under k e) → Has (under k e) es
  pub from : (k : Name) (e : Entry) → has_name k ns ≡ true → Has (under k e) es → E (under k e)

module _ (d : Side) (l : Level) (n : Name) (is : Inners) (ms : MarkedInners is) (E : Entry → Type 0) (fresh : IsFresh n (inner_names (other d) is)) where
  pub not_later : (e : Entry) → Has (under n e) (inner_entries d is ms) → ⊥
  not_later e i = true_false (has_name n (inner_names (other d) is)) (names_it d is ms n e i) (fresh_absent n (inner_names (other d) is) fresh)

  not_same : (k : Name) → has_name k (inner_names (other d) is) ≡ true → k ≡ n → ⊥
  not_same k h q =
      true_false (has_name n (inner_names (other d) is)) (subst (λ (m : Name). has_name m (inner_names (other d) is) ≡ true) q h) (fresh_absent n (inner_names (other d) is) fresh)

  own : (m : Marked l) (e : Entry) → Has (under n e) (map (under n) (all_entries d l m)) ⊎ Has (under n e) (inner_entries d is ms) → Has e (all_entries d l m)
  own m e (inl i) = (under_map n n e (all_entries d l m) i).1
  own m e (inr i) = absurd (not_later e i)

  others : (m : Marked l) (k : Name) (e : Entry) → has_name k (inner_names (other d) is) ≡ true → Has (under k e) (map (under n) (all_entries d l m)) ⊎ Has (under k e) (inner_entries d is ms) → Has (under k e) (inner_entries d is ms)
  others m k e h (inl i) = absurd (not_same k h (under_map k n e (all_entries d l m) i).0)
  others m k e h (inr i) = i

  inner_step : (SameInside E (inner_names (other d) is) (inner_entries d is ms) → HoldsInners d is ms E) → ((m : Marked l) → Holds d l m (λ e. Has e (all_entries d l m))) → (o : Option (Marked l)) → SameInside E (n ∷ inner_names (other d) is) (with_inside n (all_entries d l) o (inner_entries d is ms))
      → IfThere (λ m. Holds d l m (λ e. E (under n e))) o × HoldsInners d is ms E
  inner_step rest here None s = (
    tt,
    rest (record {
      to = λ k e h i. s.to k e (has_more k n (inner_names (other d) is) h) i;
      from = λ k e h i. s.from k e (has_more k n (inner_names (other d) is) h) i;
    }),
  )
  inner_step rest here (Some m) s =
      let all = all_entries d l m in
      let later = inner_entries d is ms in (
        same_holds d l m (λ e. Has e all) (λ e. E (under n e)) (λ e i. s.from n e (has_first n (inner_names (other d) is)) (left_has (under n e) (map (under n) all) later (has_map n e all i))) (λ e i. own m e (split_has (under n e) (map (under n) all) later (s.to n e (has_first n (inner_names (other d) is)) i))) (here m),
        rest (record {
          to = λ k e h i. others m k e h (split_has (under k e) (map (under n) all) later (s.to k e (has_more k n (inner_names (other d) is) h) i));
          from = λ k e h i. s.from k e (has_more k n (inner_names (other d) is) h) (right_has (under k e) (map (under n) all) later i);
        }),
      )

pub distinct_inner : (d : Side) (cs : List Cell) (ns : List Name) → AreDistinct (cells_names d cs ns) → AreDistinct ns
distinct_inner d [] ns a = a
distinct_inner d (c ∷ cs) ns a = distinct_inner d cs ns (distinct_right (names d c) (cells_names d cs ns) a)

-- ---- levels

-- E is any way to say which entries were written: with it both functions have types in one universe
mutual
  level_holds_by : (d : Side) (l : Level) (m : Marked l) (E : Entry → Type 0) → NoNameTwice (other d) l → ((e : Entry) → Has e (all_entries d l m) → E e) → ((e : Entry) → E e → Has e (all_entries d l m)) → Holds d l m E
  level_holds_by d (level cs is) m E a t b =
      let all = cell_entries d cs m.0 (inner_entries d is m.1) in
      same_holds d (level cs is) m (λ e. Has e all) E t b (
        cells_hold d cs m.0 (inner_entries d is m.1) (inner_names (other d) is) a.0 (no_here d is m.1),
        inners_hold d is m.1 (λ e. Has e all) (distinct_inner (other d) cs (inner_names (other d) is) a.0) a.1 (record {
          to = λ k e h i. cells_under d cs m.0 (inner_entries d is m.1) k e i;
          from = λ k e h i. past_cells d cs m.0 (inner_entries d is m.1) (under k e) i;
        }),
      )

  inners_hold : (d : Side) (is : Inners) (ms : MarkedInners is) (E : Entry → Type 0) → AreDistinct (inner_names (other d) is) → NoneTwice (other d) is → SameInside E (inner_names (other d) is) (inner_entries d is ms) → HoldsInners d is ms E
  inners_hold d no_inner ms E a t s = tt
  inners_hold d (inner x y rq l is) ms E a t s =
      inner_step d l (named (other d) x y) is ms.1 E a.0 (λ s. inners_hold d is ms.1 E a.1 t.1 s) (λ m. level_holds_by d l m (λ e. Has e (all_entries d l m)) t.0 (λ e i. i) (λ e i. i)) ms.0 s

pub level_holds : (d : Side) (l : Level) (m : Marked l) → NoNameTwice (other d) l → Holds d l m (λ e. Has e (all_entries d l m))
level_holds d l m a = level_holds_by d l m (λ e. Has e (all_entries d l m)) a (λ e i. i) (λ e i. i)
