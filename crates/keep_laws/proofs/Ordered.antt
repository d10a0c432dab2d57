-- The entries that are written of good marks are in order.
use Rattle.std.proofs.Common.{◌≡◌, List, [], ◌∷◌, ◌++◌, map, Bool, true, false, cond, ◌&&◌, ◌⊎◌, inl, inr, Option, Some, None, Ordering, Less, Equal, Greater, is_lt, nat_cmp, refl, ap, sym, subst, ◌∙◌}
use Rattle.std.specs.Cmp.{IsTotalOrder}
use Rattle.std.specs.Ordering.{then_cmp, on, ordering_then, ordering_reverse}
use Rattle.std.specs.Cmp.Lexicographic.{slice_cmp}
use Rattle.std.proofs.lemmas.Cmp.{then_total, on_total, lists_total, nat_list_cmp_total}
use Rattle.kj_value.specs.Fields.{Pairs}
use Rattle.hub_cells.specs.Side.{Side, other}
use Rattle.hub_cells.specs.Cell.{Tuple}
use Rattle.hub_cells.specs.Level.{Name, Cell, Level, level, Inners, no_inner, inner, names, named, cells_names, inner_names, IsFresh, AreDistinct, NoNameTwice, NoneTwice, CellsFit, Fits, InnersFit}
use Rattle.hub_cells.specs.Fit.{has_name}
use Rattle.kept_entries.specs.declared.entry.Entry.{Entry}
use Rattle.kept_entries.specs.Entry.{first_name, has_part, is_before, is_before_first, are_in_order}
use Rattle.keep_laws.specs.Entry.{part, all_named, is_part, with_entry, in_order, under}
use Rattle.keep_laws.specs.Marked.{Marks, Marked, MarkedInners, IsAlive, AreGood, OrAbsent, IsGood, InnersGood}
use Rattle.keep_laws.specs.Body.{entry_of, cell_entries, with_inside, all_entries, inner_entries}
use Rattle.keep_laws.specs.Known.{IsRising}
use Rattle.keep_laws.specs.Words.{Has}
use Rattle.keep_laws.proofs.Fields.{equal_same, distinct_left, distinct_right, distinct_apart}
use Rattle.keep_laws.proofs.Holds.{kept_part, order_has}
use Rattle.keep_laws.proofs.Written.{no_here, map_has, split_has, not_later, distinct_inner}
use Rattle.keep_laws.proofs.Back.{cons_tail}
use Rattle.keep_laws.proofs.Tests.{lies, both_true, and_true, has_left, has_right}
use Rattle.keep_laws.proofs.FittedWritten.{rising_put}

-- ---- each entry has a part, whose names rise

abbrev pub HasRisingPart : Entry → Type 0
HasRisingPart e = IsRising e.was × (has_part e.was ≡ true)

part_there : (ns : List Name) (ps : Pairs) → is_part ns ps ≡ true → has_part ps ≡ true
part_there ns [] h = absurd (lies h)
part_there ns (p ∷ ps) h = refl

first_there : (ns : List Name) (ps : Pairs) → is_part ns ps ≡ true → has_name (first_name ps) ns ≡ true
first_there ns [] h = absurd (lies h)
first_there ns (p ∷ ps) h = (both_true (has_name p.0 ns) (all_named ns ps) h).0

-- the entry of a cell has a rising part, whose first name is the cell's
cell_part : (d : Side) (c : Cell) (cs : List Cell) (rest : List Name) (t u : Tuple) → CellsFit (c ∷ cs) → AreDistinct (cells_names (other d) (c ∷ cs) rest) → IsAlive d c t (Some u) → is_part (names (other d) c) (part (names (other d) c) u) ≡ true
cell_part d c cs rest t u f a g =
    (kept_part d c t u f.0 (distinct_left (names (other d) c) (cells_names (other d) cs rest) a) g).1

cells_parts : (d : Side) (cs : List Cell) (ms : Marks cs) (later : List Entry) (rest : List Name) → CellsFit cs → AreGood d cs ms → AreDistinct (cells_names (other d) cs rest) → ((e : Entry) → Has e later → HasRisingPart e) → (e : Entry) → Has e (cell_entries d cs ms later) → HasRisingPart e
cells_parts d [] ms later rest f g a h e i = h e i
cells_parts d (c ∷ cs) ms later rest f g a h e i =
    by_kept (λ j. cells_parts d cs ms.1 later rest f.1 g.1 (distinct_right (names (other d) c) (cells_names (other d) cs rest) a) h e j) ms.0.1 g.0.1 i
  where
    by_kept : (Has e (cell_entries d cs ms.1 later) → HasRisingPart e) → (o : Option Tuple) → IsAlive d c ms.0.0 o → Has e (entry_of (names (other d) c) o (cell_entries d cs ms.1 later)) → HasRisingPart e
    by_kept go None w j = go j
    by_kept go (Some u) w (inr j) = go j
    by_kept go (Some u) w (inl s) =
        let ns = names (other d) c in
        subst HasRisingPart (sym s) (rising_put ns u [] tt, part_there ns (part ns u) (cell_part d c cs rest ms.0.0 u f a w))

inner_parts : (rq : Bool) (d : Side) (l : Level) (n : Name) (later : List Entry) → ((m : Marked l) → IsGood d l m → (e : Entry) → Has e (all_entries d l m) → HasRisingPart e) → ((e : Entry) → Has e later → HasRisingPart e) → (o : Option (Marked l)) → OrAbsent rq (IsGood d l) o → (e : Entry) → Has e (with_inside n (all_entries d l) o later) → HasRisingPart e
inner_parts rq d l n later go rest None g e i = rest e i
inner_parts rq d l n later go rest (Some m) g e i =
    by_side (split_has e (map (under n) (all_entries d l m)) later i)
  where
    by_side : Has e (map (under n) (all_entries d l m)) ⊎ Has e later → HasRisingPart e
    by_side (inl j) =
        let r = map_has n e (all_entries d l m) j in
        let p : HasRisingPart r.0 = go m g r.0 r.1 in
        subst HasRisingPart (sym r.2) p
    by_side (inr j) = rest e j

mutual
  pub level_parts : (d : Side) (l : Level) (m : Marked l) → Fits l → NoNameTwice (other d) l → IsGood d l m → (e : Entry) → Has e (all_entries d l m) → HasRisingPart e
  level_parts d (level cs is) m f a g e i =
      cells_parts d cs m.0 (inner_entries d is m.1) (inner_names (other d) is) f.0 g.0 a.0 (λ h j. inners_parts d is m.1 f.1 a.1 g.1 h j) e i

  pub inners_parts : (d : Side) (is : Inners) (ms : MarkedInners is) → InnersFit is → NoneTwice (other d) is → InnersGood d is ms → (e : Entry) → Has e (inner_entries d is ms) → HasRisingPart e
  inners_parts d no_inner ms f a g e i = absurd i
  inners_parts d (inner x y rq l is) ms f a g e i =
      inner_parts rq d l (named (other d) x y) (inner_entries d is ms.1) (λ m h k j. level_parts d l m f.0 a.0 h k j) (λ k j. inners_parts d is ms.1 f.1 a.1 g.1 k j) ms.0 g.0 e i

-- ---- no two entries have the same path and the same first name

abbrev Differ : Entry → Entry → Type 0
Differ e f = e.at ≡ f.at → first_name e.was ≡ first_name f.was → ⊥

abbrev pub AllDiffer : List Entry → Type 0
AllDiffer [] = Unit {0}
AllDiffer (e ∷ es) = ((f : Entry) → Has f es → Differ e f) × AllDiffer es

nil_cons : {A : Type 0} (x : A) (xs : List A) → [] ≡ x ∷ xs → ⊥
nil_cons x xs e = cc

-- an entry of this level has its first name in a cell
cells_first : (d : Side) (cs : List Cell) (ms : Marks cs) (later : List Entry) (rest : List Name) → CellsFit cs → AreGood d cs ms → AreDistinct (cells_names (other d) cs rest) → ((e : Entry) → Has e later → e.at ≡ [] → ⊥) → (e : Entry) → Has e (cell_entries d cs ms later) → e.at ≡ [] → has_name (first_name e.was) (cells_names (other d) cs rest) ≡ true
cells_first d [] ms later rest f g a later_at e i q = absurd (later_at e i q)
cells_first d (c ∷ cs) ms later rest f g a later_at e i q =
    by_kept (λ j. cells_first d cs ms.1 later rest f.1 g.1 (distinct_right (names (other d) c) (cells_names (other d) cs rest) a) later_at e j q) ms.0.1 g.0.1 i
  where
    by_kept : (Has e (cell_entries d cs ms.1 later) → has_name (first_name e.was) (cells_names (other d) cs rest) ≡ true) → (o : Option Tuple) → IsAlive d c ms.0.0 o → Has e (entry_of (names (other d) c) o (cell_entries d cs ms.1 later)) → has_name (first_name e.was) (cells_names (other d) (c ∷ cs) rest) ≡ true
    by_kept go None w j = has_right (first_name e.was) (names (other d) c) (cells_names (other d) cs rest) (go j)
    by_kept go (Some u) w (inr j) = has_right (first_name e.was) (names (other d) c) (cells_names (other d) cs rest) (go j)
    by_kept go (Some u) w (inl s) =
        let ns = names (other d) c in
        let others = cells_names (other d) cs rest in
        subst (λ (h : Entry). has_name (first_name h.was) (ns ++ others) ≡ true) (sym s) (has_left (first_name (part ns u)) ns others (first_there ns (part ns u) (cell_part d c cs rest ms.0.0 u f a w)))

cells_differ : (d : Side) (cs : List Cell) (ms : Marks cs) (later : List Entry) (rest : List Name) → CellsFit cs → AreGood d cs ms → AreDistinct (cells_names (other d) cs rest) → ((e : Entry) → Has e later → e.at ≡ [] → ⊥) → AllDiffer later → AllDiffer (cell_entries d cs ms later)
cells_differ d [] ms later rest f g a later_at h = h
cells_differ d (c ∷ cs) ms later rest f g a later_at h =
    let after = distinct_right (names (other d) c) (cells_names (other d) cs rest) a in
    by_kept (cells_differ d cs ms.1 later rest f.1 g.1 after later_at h) (cells_first d cs ms.1 later rest f.1 g.1 after later_at) ms.0.1 g.0.1
  where
    by_kept : AllDiffer (cell_entries d cs ms.1 later) → ((e : Entry) → Has e (cell_entries d cs ms.1 later) → e.at ≡ [] → has_name (first_name e.was) (cells_names (other d) cs rest) ≡ true) → (o : Option Tuple) → IsAlive d c ms.0.0 o
        → AllDiffer (entry_of (names (other d) c) o (cell_entries d cs ms.1 later))
    by_kept go first None w = go
    by_kept go first (Some u) w =
        let ns = names (other d) c in
        let others = cells_names (other d) cs rest in
        let mine : has_name (first_name (part ns u)) ns ≡ true = first_there ns (part ns u) (cell_part d c cs rest ms.0.0 u f a w) in
        let not_theirs : has_name (first_name (part ns u)) others ≡ false = distinct_apart ns others a (first_name (part ns u)) mine in
        (λ e i p q. lies (sym not_theirs ∙ ap (λ (k : Name). has_name k others) q ∙ first e i (sym p)), go)

map_differ : (n : Name) (xs : List Entry) → AllDiffer xs → AllDiffer (map (under n) xs)
map_differ n [] h = tt
map_differ n (x ∷ xs) h = (
  λ f i p q. let r = map_has n f xs i in
      let at : n ∷ x.at ≡ n ∷ r.0.at = p ∙ ap (λ (e : Entry). e.at) r.2 in
      let was : first_name x.was ≡ first_name r.0.was = q ∙ ap (λ (e : Entry). first_name e.was) r.2 in
      h.0 r.0 r.1 (cons_tail n n x.at r.0.at at) was,
  map_differ n xs h.1,
)

append_differ : (xs ys : List Entry) → AllDiffer xs → AllDiffer ys → ((e f : Entry) → Has e xs → Has f ys → Differ e f) → AllDiffer (xs ++ ys)
append_differ [] ys m n h = n
append_differ (x ∷ xs) ys m n h = (λ f i. by_side f (split_has f xs ys i), append_differ xs ys m.1 n (λ e f i j. h e f (inr i) j))
  where
    by_side : (f : Entry) → Has f xs ⊎ Has f ys → Differ x f
    by_side f (inl i) = m.0 f i
    by_side f (inr i) = h x f (inl refl) i

inner_differ : (rq : Bool) (d : Side) (l : Level) (n : Name) (is : Inners) (ms : MarkedInners is) → IsFresh n (inner_names (other d) is) → ((m : Marked l) → IsGood d l m → AllDiffer (all_entries d l m)) → AllDiffer (inner_entries d is ms) → (o : Option (Marked l)) → OrAbsent rq (IsGood d l) o → AllDiffer (with_inside n (all_entries d l) o (inner_entries d is ms))
inner_differ rq d l n is ms f go rest None g = rest
inner_differ rq d l n is ms f go rest (Some m) g =
    append_differ (map (under n) (all_entries d l m)) (inner_entries d is ms) (map_differ n (all_entries d l m) (go m g)) rest apart
  where
    apart : (e h : Entry) → Has e (map (under n) (all_entries d l m)) → Has h (inner_entries d is ms) → Differ e h
    apart e h i j p q =
        let r = map_has n e (all_entries d l m) i in
        let at : h.at ≡ n ∷ r.0.at = sym p ∙ ap (λ (k : Entry). k.at) r.2 in
        let same : h ≡ under n (record { at = r.0.at; was = h.was }) = ap (λ (w : List Name). record { at = w; was = h.was }) at in
        not_later d l n is ms (λ _. ⊥) f (record { at = r.0.at; was = h.was }) (subst (λ (k : Entry). Has k (inner_entries d is ms)) same j)

mutual
  pub level_differ : (d : Side) (l : Level) (m : Marked l) → Fits l → IsGood d l m → NoNameTwice (other d) l → AllDiffer (all_entries d l m)
  level_differ d (level cs is) m f g a =
      cells_differ d cs m.0 (inner_entries d is m.1) (inner_names (other d) is) f.0 g.0 a.0 (no_here d is m.1) (inners_differ d is m.1 f.1 g.1 (distinct_inner (other d) cs (inner_names (other d) is) a.0) a.1)

  pub inners_differ : (d : Side) (is : Inners) (ms : MarkedInners is) → InnersFit is → InnersGood d is ms → AreDistinct (inner_names (other d) is) → NoneTwice (other d) is → AllDiffer (inner_entries d is ms)
  inners_differ d no_inner ms f g a t = tt
  inners_differ d (inner x y rq l is) ms f g a t =
      inner_differ rq d l (named (other d) x y) is ms.1 a.0 (λ m h. level_differ d l m f.0 h t.0) (inners_differ d is ms.1 f.1 g.1 a.1 t.1) ms.0 g.0

-- ---- sorted

paths_total : IsTotalOrder (slice_cmp (slice_cmp nat_cmp))
paths_total = lists_total nat_list_cmp_total

abbrev compare : Entry → Entry → Ordering
compare e f =
    ordering_then (slice_cmp (slice_cmp nat_cmp) e.at f.at) (slice_cmp nat_cmp (first_name e.was) (first_name f.was))

entries_total : IsTotalOrder (then_cmp (on (λ (e : Entry). e.at) (slice_cmp (slice_cmp nat_cmp))) (on (λ (e : Entry). first_name e.was) (slice_cmp nat_cmp)))
entries_total =
    then_total (on_total (λ (e : Entry). e.at) paths_total) (on_total (λ (e : Entry). first_name e.was) nat_list_cmp_total)

less_equal : Less ≡ Equal → ⊥
less_equal e = cc

greater_equal : Greater ≡ Equal → ⊥
greater_equal e = cc

paths_same : (ms ns : List Name) → slice_cmp (slice_cmp nat_cmp) ms ns ≡ Equal → ms ≡ ns
paths_same [] [] h = refl
paths_same [] (n ∷ ns) h = absurd (less_equal h)
paths_same (m ∷ ms) [] h = absurd (greater_equal h)
paths_same (m ∷ ms) (n ∷ ns) h = by_first (λ e. paths_same ms ns e) (slice_cmp nat_cmp m n) refl h
  where
    by_first : (slice_cmp (slice_cmp nat_cmp) ms ns ≡ Equal → ms ≡ ns) → (o : Ordering) → slice_cmp nat_cmp m n ≡ o → ordering_then o (slice_cmp (slice_cmp nat_cmp) ms ns) ≡ Equal → m ∷ ms ≡ n ∷ ns
    by_first later Less q e = absurd (less_equal e)
    by_first later Greater q e = absurd (greater_equal e)
    by_first later Equal q e =
        ap (λ (k : Name). k ∷ ms) (equal_same m n q) ∙ ap (λ (ks : List Name). n ∷ ks) (later e)

both_equal : (a b : Ordering) → ordering_then a b ≡ Equal → (a ≡ Equal) × (b ≡ Equal)
both_equal Less b h = absurd (less_equal h)
both_equal Greater b h = absurd (greater_equal h)
both_equal Equal b h = (refl, h)

apart_of : (e f : Entry) → Differ e f → (is_before e f ≡ true) ⊎ (is_before f e ≡ true)
apart_of e f h = by_order (compare e f) refl
  where
    by_order : (o : Ordering) → compare e f ≡ o → (is_before e f ≡ true) ⊎ (is_before f e ≡ true)
    by_order Less q = inl (ap is_lt q)
    by_order Greater q = inr (ap is_lt (entries_total.antisymm f e ∙ ap ordering_reverse q))
    by_order Equal q =
        let r = both_equal (slice_cmp (slice_cmp nat_cmp) e.at f.at) (slice_cmp nat_cmp (first_name e.was) (first_name f.was)) q in
        absurd (h (paths_same e.at f.at r.0) (equal_same (first_name e.was) (first_name f.was) r.1))

ordered_with : (e : Entry) (es : List Entry) → has_part e.was ≡ true → are_in_order es ≡ true → ((f : Entry) → Has f es → (is_before e f ≡ true) ⊎ (is_before f e ≡ true)) → are_in_order (with_entry e es) ≡ true
ordered_with e [] p r h = and_true (has_part e.was && true) true (and_true (has_part e.was) true p refl) refl
ordered_with e (f ∷ fs) p r h =
    by_answer (both_true (has_part f.was && is_before_first f fs) (are_in_order fs) r) (λ q. ordered_with e fs p q (λ g i. h g (inr i))) (is_before e f) refl (h f (inl refl))
  where
    still_first : (gs : List Entry) → is_before f e ≡ true → is_before_first f gs ≡ true → is_before_first f (with_entry e gs) ≡ true
    still_first [] b q = b
    still_first (g ∷ gs) b q = by_place (is_before e g)
      where
        by_place : (c : Bool) → is_before_first f (cond c (e ∷ g ∷ gs) (g ∷ with_entry e gs)) ≡ true
        by_place true = b
        by_place false = q

    by_answer : (has_part f.was && is_before_first f fs ≡ true) × (are_in_order fs ≡ true) → (are_in_order fs ≡ true → are_in_order (with_entry e fs) ≡ true) → (b : Bool) → is_before e f ≡ b → (is_before e f ≡ true) ⊎ (is_before f e ≡ true) → are_in_order (cond b (e ∷ f ∷ fs) (f ∷ with_entry e fs)) ≡ true
    by_answer w later true q a =
        and_true (has_part e.was && is_before e f) (are_in_order (f ∷ fs)) (and_true (has_part e.was) (is_before e f) p q) r
    by_answer w later false q (inl b) = absurd (lies (sym q ∙ b))
    by_answer w later false q (inr b) =
        let here = both_true (has_part f.was) (is_before_first f fs) w.0 in
        and_true (has_part f.was && is_before_first f (with_entry e fs)) (are_in_order (with_entry e fs)) (and_true (has_part f.was) (is_before_first f (with_entry e fs)) here.0 (still_first fs b here.1)) (later w.1)

pub ordered : (es : List Entry) → ((e : Entry) → Has e es → HasRisingPart e) → AllDiffer es → are_in_order (in_order es) ≡ true
ordered [] p h = refl
ordered (e ∷ es) p h =
    ordered_with e (in_order es) (p e (inl refl)).1 (ordered es (λ f i. p f (inr i)) h.1) (λ f i. apart_of e f (h.0 f (order_has f es i)))
