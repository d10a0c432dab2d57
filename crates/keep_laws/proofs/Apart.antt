-- Of two entries that are written for marks one comes before the other, and each has a part.
use Rattle.std.proofs.Common.{◌≡◌, List, [], ◌∷◌, ◌++◌, map, Bool, true, false, ◌⊎◌, inl, inr, Option, Some, None, Ordering, Less, Equal, Greater, is_lt, nat_cmp, refl, ap, sym, subst, ◌∙◌, arith}
use Rattle.std.specs.Ordering.{ordering_then, ordering_reverse}
use Rattle.std.specs.Cmp.Lexicographic.{slice_cmp}
use Rattle.std.proofs.lemmas.Cmp.{nat_list_cmp_total, tied_itself}
use Rattle.kj_value.specs.Fields.{Pairs}
use Rattle.hub_cells.specs.Side.{Side, other}
use Rattle.hub_cells.specs.Cell.{Tuple}
use Rattle.hub_cells.specs.Fit.{has_name}
use Rattle.hub_cells.specs.Level.{Name, Cell, Level, level, Inners, no_inner, inner, names, named, cells_names, inner_names, IsFresh, AreDistinct, NoNameTwice, NoneTwice, CellsFit, Fits, InnersFit}
use Rattle.kept_entries.specs.declared.entry.Entry.{Entry}
use Rattle.kept_entries.specs.Entry.{first_name, has_part, is_before}
use Rattle.keep_laws.specs.Entry.{part, is_part, under}
use Rattle.keep_laws.specs.Marked.{Marks, Marked, MarkedInners, IsAlive, AreGood, OrAbsent, IsGood, InnersGood}
use Rattle.keep_laws.specs.Body.{entry_of, cell_entries, with_inside, all_entries, inner_entries}
use Rattle.keep_laws.specs.Words.{Has}
use Rattle.keep_laws.proofs.Fields.{equal_same, distinct_left, distinct_right, distinct_apart, has_left, has_right}
use Rattle.keep_laws.proofs.Holds.{kept_part}
use Rattle.keep_laws.proofs.Written.{no_here, map_has, split_has, not_later, distinct_inner}

abbrev pub Apart : Entry → Entry → Type 0
Apart e f = (is_before e f ≡ true) ⊎ (is_before f e ≡ true)

abbrev pub AreApart : List Entry → Type 0
AreApart [] = Unit {0}
AreApart (e ∷ es) = (has_part e.was ≡ true) × ((f : Entry) → Has f es → Apart e f) × AreApart es

true_false : (b : Bool) → b ≡ true → b ≡ false → ⊥
true_false b p q = grind arith

false_true : false ≡ true → ⊥
false_true e = cc

-- ---- names

abbrev LessOne : Name → Name → Type 0
LessOne k n = (slice_cmp nat_cmp k n ≡ Less) ⊎ (slice_cmp nat_cmp n k ≡ Less)

less_one : (k n : Name) → (k ≡ n → ⊥) → LessOne k n
less_one k n h = by_order (slice_cmp nat_cmp k n) refl
  where
    by_order : (o : Ordering) → slice_cmp nat_cmp k n ≡ o → LessOne k n
    by_order Less q = inl q
    by_order Equal q = absurd (h (equal_same k n q))
    by_order Greater q = inr (nat_list_cmp_total.antisymm n k ∙ ap ordering_reverse q)

part_first : (ns : List Name) (ps : Pairs) → is_part ns ps ≡ true → has_name (first_name ps) ns ≡ true
part_first ns [] h = absurd (false_true h)
part_first ns (p ∷ ps) h = grind (arith, h)

part_there : (ns : List Name) (ps : Pairs) → is_part ns ps ≡ true → has_part ps ≡ true
part_there ns [] h = absurd (false_true h)
part_there ns (p ∷ ps) h = refl

-- ---- two entries

here_before : (v w : Pairs) → slice_cmp nat_cmp (first_name v) (first_name w) ≡ Less → is_before (record { at = []; was = v }) (record { at = []; was = w }) ≡ true
here_before v w q = ap is_lt q

here_apart : (v w : Pairs) → LessOne (first_name v) (first_name w) → Apart (record { at = []; was = v }) (record { at = []; was = w })
here_apart v w (inl q) = inl (here_before v w q)
here_apart v w (inr q) = inr (here_before w v q)

path_before : (n k : Name) (a b : List Name) (v w : Pairs) → slice_cmp nat_cmp n k ≡ Less → is_before (record { at = n ∷ a; was = v }) (record { at = k ∷ b; was = w }) ≡ true
path_before n k a b v w q =
    ap (λ (o : Ordering). is_lt (ordering_then (ordering_then o (slice_cmp (slice_cmp nat_cmp) a b)) (slice_cmp nat_cmp (first_name v) (first_name w)))) q

path_apart : (n k : Name) (a b : List Name) (v w : Pairs) → LessOne n k → Apart (record { at = n ∷ a; was = v }) (record { at = k ∷ b; was = w })
path_apart n k a b v w (inl q) = inl (path_before n k a b v w q)
path_apart n k a b v w (inr q) = inr (path_before k n b a w v q)

pub under_before : (n : Name) (e f : Entry) → is_before (under n e) (under n f) ≡ is_before e f
under_before n e f =
    ap (λ (o : Ordering). is_lt (ordering_then (ordering_then o (slice_cmp (slice_cmp nat_cmp) e.at f.at)) (slice_cmp nat_cmp (first_name e.was) (first_name f.was)))) (tied_itself nat_list_cmp_total n)

under_apart : (n : Name) (e f : Entry) → Apart e f → Apart (under n e) (under n f)
under_apart n e f (inl p) = inl (under_before n e f ∙ p)
under_apart n e f (inr p) = inr (under_before n f e ∙ p)

-- ---- cells

first_named : (d : Side) (cs : List Cell) (ms : Marks cs) (later : List Entry) (rest : List Name) → CellsFit cs → AreGood d cs ms → AreDistinct (cells_names (other d) cs rest) → ((e : Entry) → Has e later → e.at ≡ [] → ⊥) → (f : Entry) → Has f (cell_entries d cs ms later) → f.at ≡ [] → has_name (first_name f.was) (cells_names (other d) cs rest) ≡ true
first_named d [] ms later rest fit g a no_one f i q = absurd (no_one f i q)
first_named d (c ∷ cs) ms later rest fit g a no_one f i q =
    by_kept (λ j. first_named d cs ms.1 later rest fit.1 g.1 (distinct_right (names (other d) c) (cells_names (other d) cs rest) a) no_one f j q) ms.0.1 g.0.1 i
  where
    by_kept : (Has f (cell_entries d cs ms.1 later) → has_name (first_name f.was) (cells_names (other d) cs rest) ≡ true) → (o : Option Tuple) → IsAlive d c ms.0.0 o → Has f (entry_of (names (other d) c) o (cell_entries d cs ms.1 later)) → has_name (first_name f.was) (names (other d) c ++ cells_names (other d) cs rest) ≡ true
    by_kept go None h j = has_right (first_name f.was) (names (other d) c) (cells_names (other d) cs rest) (go j)
    by_kept go (Some u) h (inl s) =
        let ns = names (other d) c in
        let others = cells_names (other d) cs rest in
        subst (λ (e : Entry). has_name (first_name e.was) (ns ++ others) ≡ true) (sym s) (has_left (first_name (part ns u)) ns others (part_first ns (part ns u) (kept_part d c ms.0.0 u fit.0 (distinct_left ns others a) h).1))
    by_kept go (Some u) h (inr j) = has_right (first_name f.was) (names (other d) c) (cells_names (other d) cs rest) (go j)

entry_apart : (v : Pairs) (ns : List Name) (f : Entry) → has_name (first_name v) ns ≡ false → (f.at ≡ [] → has_name (first_name f.was) ns ≡ true) → Apart (record { at = []; was = v }) f
entry_apart v ns f h g = by_path f.at refl
  where
    by_path : (at : List Name) → f.at ≡ at → Apart (record { at = []; was = v }) f
    by_path [] q =
        subst (λ (at : List Name). Apart (record { at = []; was = v }) (record { at = at; was = f.was })) (sym q) (here_apart v f.was (less_one (first_name v) (first_name f.was) (λ e. true_false (has_name (first_name f.was) ns) (g q) (subst (λ (k : Name). has_name k ns ≡ false) e h))))
    by_path (m ∷ at) q =
        inl (subst (λ (p : List Name). is_before (record { at = []; was = v }) (record { at = p; was = f.was }) ≡ true) (sym q) refl)

cells_apart : (d : Side) (cs : List Cell) (ms : Marks cs) (later : List Entry) (rest : List Name) → CellsFit cs → AreGood d cs ms → AreDistinct (cells_names (other d) cs rest) → ((e : Entry) → Has e later → e.at ≡ [] → ⊥) → AreApart later → AreApart (cell_entries d cs ms later)
cells_apart d [] ms later rest fit g a no_one n = n
cells_apart d (c ∷ cs) ms later rest fit g a no_one n =
    by_kept (cells_apart d cs ms.1 later rest fit.1 g.1 (distinct_right (names (other d) c) (cells_names (other d) cs rest) a) no_one n) ms.0.1 g.0.1
  where
    by_kept : AreApart (cell_entries d cs ms.1 later) → (o : Option Tuple) → IsAlive d c ms.0.0 o → AreApart (entry_of (names (other d) c) o (cell_entries d cs ms.1 later))
    by_kept go None h = go
    by_kept go (Some u) h =
        let ns = names (other d) c in
        let others = cells_names (other d) cs rest in
        let is : is_part ns (part ns u) ≡ true = (kept_part d c ms.0.0 u fit.0 (distinct_left ns others a) h).1 in (
          part_there ns (part ns u) is,
          λ f i. entry_apart (part ns u) others f (distinct_apart ns others a (first_name (part ns u)) (part_first ns (part ns u) is)) (first_named d cs ms.1 later rest fit.1 g.1 (distinct_right ns others a) no_one f i),
          go,
        )

-- ---- inner objects

map_apart : (n : Name) (xs : List Entry) → AreApart xs → AreApart (map (under n) xs)
map_apart n [] h = tt
map_apart n (x ∷ xs) h = (
  h.0,
  λ f i. let r = map_has n f xs i in subst (Apart (under n x)) (sym r.2) (under_apart n x r.0 (h.1 r.0 r.1)),
  map_apart n xs h.2,
)

append_apart : (xs ys : List Entry) → AreApart xs → AreApart ys → ((e f : Entry) → Has e xs → Has f ys → Apart e f) → AreApart (xs ++ ys)
append_apart [] ys m n h = n
append_apart (x ∷ xs) ys m n h =
    (m.0, λ f i. by_side f (split_has f xs ys i), append_apart xs ys m.2 n (λ e f i j. h e f (inr i) j))
  where
    by_side : (f : Entry) → Has f xs ⊎ Has f ys → Apart x f
    by_side f (inl i) = m.1 f i
    by_side f (inr j) = h x f (inl refl) j

inner_apart : (rq : Bool) (d : Side) (l : Level) (n : Name) (is : Inners) (ms : MarkedInners is) → IsFresh n (inner_names (other d) is) → ((m : Marked l) → IsGood d l m → AreApart (all_entries d l m)) → AreApart (inner_entries d is ms) → (o : Option (Marked l)) → OrAbsent rq (IsGood d l) o → AreApart (with_inside n (all_entries d l) o (inner_entries d is ms))
inner_apart rq d l n is ms f go rest None g = rest
inner_apart rq d l n is ms f go rest (Some m) g =
    append_apart (map (under n) (all_entries d l m)) (inner_entries d is ms) (map_apart n (all_entries d l m) (go m g)) rest across
  where
    by_path : (e x : Entry) → Has x (inner_entries d is ms) → (at : List Name) → x.at ≡ at → Apart (under n e) x
    by_path e x j [] q = absurd (no_here d is ms x j q)
    by_path e x j (k ∷ at) q =
        let there : Has (record { at = k ∷ at; was = x.was }) (inner_entries d is ms) = subst (λ (p : List Name). Has (record { at = p; was = x.was }) (inner_entries d is ms)) q j in
        subst (λ (p : List Name). Apart (under n e) (record { at = p; was = x.was })) (sym q) (
        path_apart n k e.at at e.was x.was (
        less_one n k (λ s. not_later d l n is ms (λ _. ⊥) f (record { at = at; was = x.was }) (subst (λ (m : Name). Has (record { at = m ∷ at; was = x.was }) (inner_entries d is ms)) (sym s) there))
        )
        )

    across : (e x : Entry) → Has e (map (under n) (all_entries d l m)) → Has x (inner_entries d is ms) → Apart e x
    across e x i j =
        let r = map_has n e (all_entries d l m) i in
        subst (λ (y : Entry). Apart y x) (sym r.2) (by_path r.0 x j x.at refl)

mutual
  pub level_apart : (d : Side) (l : Level) (m : Marked l) → Fits l → IsGood d l m → NoNameTwice (other d) l → AreApart (all_entries d l m)
  level_apart d (level cs is) m f g a =
      cells_apart d cs m.0 (inner_entries d is m.1) (inner_names (other d) is) f.0 g.0 a.0 (no_here d is m.1) (inners_apart d is m.1 f.1 g.1 (distinct_inner (other d) cs (inner_names (other d) is) a.0) a.1)

  inners_apart : (d : Side) (is : Inners) (ms : MarkedInners is) → InnersFit is → InnersGood d is ms → AreDistinct (inner_names (other d) is) → NoneTwice (other d) is → AreApart (inner_entries d is ms)
  inners_apart d no_inner ms f g a t = tt
  inners_apart d (inner x y rq l is) ms f g a t =
      inner_apart rq d l (named (other d) x y) is ms.1 a.0 (λ m h. level_apart d l m f.0 h t.0) (inners_apart d is ms.1 f.1 g.1 a.1 t.1) ms.0 g.0
