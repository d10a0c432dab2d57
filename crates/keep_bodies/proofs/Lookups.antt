-- The first entry that names a cell is found by the names of the cell.
use Rattle.std.proofs.Common.{◌≡◌, ℕ, zero, suc, ◌+◌, ◌<◌, List, [], ◌∷◌, map, drop, length, get_or, Bool, true, false, cond, ◌⊎◌, inl, inr, Option, Some, None, option_map, slice_get, Ordering, Less, Equal, Greater, is_lt, nat_cmp, drop-cons, add-one, refl, ap, ap₂, sym, subst, ◌∙◌, arith}
use Rattle.std.specs.Str.{bytes_eq}
use Rattle.std.specs.Ordering.{is_le, is_eq, ordering_reverse}
use Rattle.std.specs.Cmp.Lexicographic.{slice_cmp}
use Rattle.std.proofs.lemmas.Cmp.{nat_list_cmp_total, tied_itself}
use Rattle.std.proofs.lemmas.Slice.Eq.{bytes_eq-Decides}
use Rattle.std.proofs.lemmas.Map.Text.{is_eq-slice_cmp}
use Rattle.std.proofs.lemmas.Option.{slice_get-get_or}
use Rattle.kj_value.specs.Fields.{Pairs}
use Rattle.hub_cells.specs.Cell.{Tuple}
use Rattle.hub_cells.specs.Fit.{has_name}
use Rattle.hub_cells.specs.Level.{Name, tuple_of}
use Rattle.kept_entries.specs.declared.entry.Entry.{Entry}
use Rattle.kept_entries.specs.Entry.{first_name, is_before, are_in_order}
use Rattle.keep_laws.specs.Entry.{is_part, kept_here, kept_of}
use Rattle.keep_laws.proofs.Canonical.{AllAfter, EntriesRise, rise_from}
use Rattle.keep_bodies.specs.inner.Left.{left_entry}
use Rattle.keep_bodies.specs.inner.Spots.{spot_at, spot, spot_cmp, comes_first, leading}
use Rattle.keep_bodies.specs.inner.Lookup.{find, part_of, AreTwo, IsFound}
use Rattle.keep_bodies.proofs.Standing.{true_false, spot_total, lt_less, lt_not_eq, gt_not_eq, le_lt, here_strict, falls, AllNot, none_after}

lies : false ≡ true → ⊥
lies e = cc

-- what is left from a place on
pub rest_from : {A : Type 0} (xs : List A) (i : ℕ) (x : A) → i < length xs → x ≡ get_or xs i x → drop i xs ≡ x ∷ drop (i + 1) xs
rest_from {A} xs i x p e =
    drop-cons xs i x p ∙ ap₂ (λ (y : A) (k : ℕ). y ∷ drop k xs) (sym e) (sym (add-one i))

pub got : (raw : List Entry) (i : ℕ) (x : Entry) → i < length raw → x ≡ get_or raw i x → slice_get raw i ≡ Some x
got raw i x l q = slice_get-get_or raw i x l ∙ ap Some (sym q)

-- ---- the entry that begins with a name

abbrev found_at : Name → Option Entry → Option Entry
found_at n None = None
found_at n (Some e) = cond (is_eq (spot_cmp (spot e) (false, n))) (Some e) None

find_none : (n : Name) (es : List Entry) → AllNot (comes_first (false, n) true) es → find n es ≡ None
find_none n [] h = refl
find_none n (e ∷ es) h =
    ap (λ (b : Bool). cond b (Some e) (find n es)) (gt_not_eq (spot_cmp (spot e) (false, n)) h.0) ∙ find_none n es h.1

after_eq : (o : Ordering) → is_lt o ≡ false → is_eq o ≡ false → is_le o ≡ false
after_eq Less h g = absurd (lies (sym h))
after_eq Equal h g = absurd (lies (sym g))
after_eq Greater h g = refl

find_seek : (n : Name) (es : List Entry) → EntriesRise es → find n es ≡ found_at n (slice_get es (leading (comes_first (false, n) false) es))
find_seek n [] r = refl
find_seek n (e ∷ es) r =
    by_first (find_seek n es r.1) (comes_first (false, n) false e) refl
  where
    by_it : is_lt (spot_cmp (spot e) (false, n)) ≡ false → (b : Bool) → is_eq (spot_cmp (spot e) (false, n)) ≡ b → cond b (Some e) (find n es) ≡ cond b (Some e) None
    by_it h true q = refl
    by_it h false q =
        find_none n es (none_after (comes_first (false, n) true) (falls (false, n) true) e es r.0 (after_eq (spot_cmp (spot e) (false, n)) h q))

    by_first : find n es ≡ found_at n (slice_get es (leading (comes_first (false, n) false) es)) → (b : Bool) → comes_first (false, n) false e ≡ b → find n (e ∷ es) ≡ found_at n (slice_get (e ∷ es) (cond b (suc (leading (comes_first (false, n) false) es)) 0))
    by_first go true q =
        ap (λ (b : Bool). cond b (Some e) (find n es)) (lt_not_eq (spot_cmp (spot e) (false, n)) q) ∙ go
    by_first go false q = by_it q (is_eq (spot_cmp (spot e) (false, n))) refl

get_left : (d : ℕ) (raw : List Entry) (i : ℕ) → slice_get (map (left_entry d) raw) i ≡ option_map (left_entry d) (slice_get raw i)
get_left d [] i = refl
get_left d (x ∷ xs) zero = refl
get_left d (x ∷ xs) (suc i) = get_left d xs i

sought : (d : ℕ) (raw : List Entry) (i : ℕ) (n : Name) (o : Option Entry) → are_in_order (map (left_entry d) raw) ≡ true → i ≡ leading (comes_first (false, n) false) (map (left_entry d) raw) → slice_get raw i ≡ o → find n (map (left_entry d) raw) ≡ found_at n (option_map (left_entry d) o)
sought d raw i n o h q g =
    let es = map (left_entry d) raw in
    find_seek n es (rise_from es h) ∙ ap (λ (j : ℕ). found_at n (slice_get es j)) (sym q) ∙ ap (found_at n) (get_left d raw i ∙ ap (option_map (left_entry d)) g)

pub found_past : (ns : List Name) (d : ℕ) (raw : List Entry) (i : ℕ) (n : Name) → are_in_order (map (left_entry d) raw) ≡ true → i ≡ leading (comes_first (false, n) false) (map (left_entry d) raw) → slice_get raw i ≡ None → part_of ns (find n (map (left_entry d) raw)) ≡ None
found_past ns d raw i n h q g = ap (part_of ns) (sought d raw i n None h q g)

pub found_other : (ns : List Name) (d : ℕ) (raw : List Entry) (i : ℕ) (n : Name) (e : Entry) → are_in_order (map (left_entry d) raw) ≡ true → i ≡ leading (comes_first (false, n) false) (map (left_entry d) raw) → slice_get raw i ≡ Some e → is_eq (spot_cmp (spot (left_entry d e)) (false, n)) ≡ false → part_of ns (find n (map (left_entry d) raw)) ≡ None
found_other ns d raw i n e h q g p =
    ap (part_of ns) (sought d raw i n (Some e) h q g ∙ ap (λ (b : Bool). cond b (Some (left_entry d e)) None) p)

pub found_mixed : (ns : List Name) (d : ℕ) (raw : List Entry) (i : ℕ) (n : Name) (e : Entry) → are_in_order (map (left_entry d) raw) ≡ true → i ≡ leading (comes_first (false, n) false) (map (left_entry d) raw) → slice_get raw i ≡ Some e → is_eq (spot_cmp (spot (left_entry d e)) (false, n)) ≡ true → is_part ns e.was ≡ false → part_of ns (find n (map (left_entry d) raw)) ≡ None
found_mixed ns d raw i n e h q g p s =
    ap (part_of ns) (sought d raw i n (Some e) h q g ∙ ap (λ (b : Bool). cond b (Some (left_entry d e)) None) p) ∙ ap (λ (b : Bool). cond b (Some (tuple_of ns e.was)) None) s

at_level : (at : List Name) (was : Pairs) (n : Name) → is_eq (spot_cmp (spot_at at was) (false, n)) ≡ true → at ≡ []
at_level [] was n h = refl
at_level (m ∷ at) was n h = absurd (lies h)

pub found_hit : (ns : List Name) (d : ℕ) (raw : List Entry) (i : ℕ) (n : Name) (e : Entry) → are_in_order (map (left_entry d) raw) ≡ true → i ≡ leading (comes_first (false, n) false) (map (left_entry d) raw) → slice_get raw i ≡ Some e → is_eq (spot_cmp (spot (left_entry d e)) (false, n)) ≡ true → is_part ns e.was ≡ true → IsFound ns (map (left_entry d) raw) (part_of ns (find n (map (left_entry d) raw))) i (left_entry d e)
found_hit ns d raw i n e h q g p s = record {
  place = get_left d raw i ∙ ap (option_map (left_entry d)) g;
  here = at_level (drop d e.at) e.was n p;
  part = s;
  kept = ap (part_of ns) (sought d raw i n (Some e) h q g ∙ ap (λ (b : Bool). cond b (Some (left_entry d e)) None) p) ∙ ap (λ (b : Bool). cond b (Some (tuple_of ns e.was)) None) s;
}

-- ---- the entry that names a cell

abbrev pub or_else : Option Tuple → Option Tuple → Option Tuple
or_else None o = o
or_else (Some t) o = Some t

same_name : (k n : Name) → is_eq (slice_cmp nat_cmp k n) ≡ true → k ≡ n
same_name k n h = (bytes_eq-Decides k n).0 (sym (is_eq-slice_cmp k n) ∙ h)

is_same : (k n : Name) → k ≡ n → is_eq (slice_cmp nat_cmp k n) ≡ true
is_same k n q = is_eq-slice_cmp k n ∙ (bytes_eq-Decides k n).1 q

le_self : (n : Name) → is_le (slice_cmp nat_cmp n n) ≡ true
le_self n = ap is_le (tied_itself nat_list_cmp_total n)

-- after an entry at the level whose part begins with n or a later name
find_later : (n : Name) (e : Entry) (es : List Entry) → AllAfter e es → e.at ≡ [] → is_le (slice_cmp nat_cmp n (first_name e.was)) ≡ true → find n es ≡ None
find_later n e [] a q h = refl
find_later n e (f ∷ fs) a q h =
    let strict : is_lt (spot_cmp (false, n) (spot f)) ≡ true = le_lt (false, n) (spot_at [] e.was) (spot f) h (here_strict f.at e.was f.was (subst (λ (at : List Name). is_before (record { at = at; was = e.was }) f ≡ true) q a.0)) in
    let apart : is_eq (spot_cmp (spot f) (false, n)) ≡ false = ap is_eq (spot_total.antisymm (spot f) (false, n) ∙ ap ordering_reverse (lt_less (spot_cmp (false, n) (spot f)) strict)) in
    ap (λ (b : Bool). cond b (Some f) (find n fs)) apart ∙ find_later n e fs a.1 q h

part_first : (ns : List Name) (ps : Pairs) → is_part ns ps ≡ true → has_name (first_name ps) ns ≡ true
part_first ns [] h = absurd (lies h)
part_first ns (p ∷ ps) h = grind (arith, h)

kept_by_find : (ns : List Name) (m n : Name) → AreTwo ns m n → is_le (slice_cmp nat_cmp m n) ≡ true → (es : List Entry) → EntriesRise es → kept_of ns es ≡ or_else (part_of ns (find m es)) (part_of ns (find n es))
kept_by_find ns m n two rises [] r = refl
kept_by_find ns m n two rises (e ∷ es) r = by_at (kept_by_find ns m n two rises es r.1) e.at refl
  where
    none_at : (k : Name) → e.at ≡ [] → is_eq (slice_cmp nat_cmp (first_name e.was) k) ≡ true → find k es ≡ None
    none_at k q h =
        find_later k e es r.0 q (subst (λ (j : Name). is_le (slice_cmp nat_cmp k j) ≡ true) (sym (same_name (first_name e.was) k h)) (le_self k))

    none_low : e.at ≡ [] → is_eq (slice_cmp nat_cmp (first_name e.was) n) ≡ true → find m es ≡ None
    none_low q h =
        find_later m e es r.0 q (subst (λ (j : Name). is_le (slice_cmp nat_cmp m j) ≡ true) (sym (same_name (first_name e.was) n h)) rises)

    neither : is_part ns e.was ≡ true → is_eq (slice_cmp nat_cmp (first_name e.was) m) ≡ false → is_eq (slice_cmp nat_cmp (first_name e.was) n) ≡ false → ⊥
    neither p b c = by_name (two (first_name e.was) (part_first ns e.was p))
      where
        by_name : (first_name e.was ≡ m) ⊎ (first_name e.was ≡ n) → ⊥
        by_name (inl s) = true_false (is_eq (slice_cmp nat_cmp (first_name e.was) m)) (is_same (first_name e.was) m s) b
        by_name (inr s) = true_false (is_eq (slice_cmp nat_cmp (first_name e.was) n)) (is_same (first_name e.was) n s) c

    by_part : kept_of ns es ≡ or_else (part_of ns (find m es)) (part_of ns (find n es)) → e.at ≡ [] → (p : Bool) → is_part ns e.was ≡ p → (b : Bool) → is_eq (slice_cmp nat_cmp (first_name e.was) m) ≡ b → (c : Bool) → is_eq (slice_cmp nat_cmp (first_name e.was) n) ≡ c
        → cond p (Some (tuple_of ns e.was)) (kept_of ns es) ≡ or_else (part_of ns (cond b (Some e) (find m es))) (part_of ns (cond c (Some e) (find n es)))
    by_part go q true p true b c s =
        ap (λ (v : Bool). or_else (cond v (Some (tuple_of ns e.was)) None) (part_of ns (cond c (Some e) (find n es)))) (sym p)
    by_part go q true p false b true s =
        ap (λ (v : Bool). cond v (Some (tuple_of ns e.was)) None) (sym p) ∙ ap (λ (o : Option Entry). or_else (part_of ns o) (part_of ns (Some e))) (sym (none_low q s))
    by_part go q true p false b false s = absurd (neither p b s)
    by_part go q false p true b true s =
        go ∙ ap₂ (λ (o u : Option Entry). or_else (part_of ns o) (part_of ns u)) (none_at m q b) (none_at n q s) ∙ ap (λ (v : Bool). or_else (cond v (Some (tuple_of ns e.was)) None) (cond v (Some (tuple_of ns e.was)) None)) (sym p)
    by_part go q false p true b false s =
        go ∙ ap (λ (o : Option Entry). or_else (part_of ns o) (part_of ns (find n es))) (none_at m q b) ∙ ap (λ (v : Bool). or_else (cond v (Some (tuple_of ns e.was)) None) (part_of ns (find n es))) (sym p)
    by_part go q false p false b true s =
        go ∙ ap (λ (o : Option Entry). or_else (part_of ns (find m es)) (part_of ns o)) (none_at n q s) ∙ ap (λ (v : Bool). or_else (part_of ns (find m es)) (cond v (Some (tuple_of ns e.was)) None)) (sym p)
    by_part go q false p false b false s = go

    by_at : kept_of ns es ≡ or_else (part_of ns (find m es)) (part_of ns (find n es)) → (at : List Name) → e.at ≡ at
        → kept_here ns at e.was (kept_of ns es) ≡ or_else (part_of ns (cond (is_eq (spot_cmp (spot_at at e.was) (false, m))) (Some e) (find m es))) (part_of ns (cond (is_eq (spot_cmp (spot_at at e.was) (false, n))) (Some e) (find n es)))
    by_at go [] q =
        by_part go q (is_part ns e.was) refl (is_eq (slice_cmp nat_cmp (first_name e.was) m)) refl (is_eq (slice_cmp nat_cmp (first_name e.was) n)) refl
    by_at go (k ∷ at) q = go

pub kept_second : (ns : List Name) (m n : Name) (es : List Entry) → AreTwo ns m n → is_le (slice_cmp nat_cmp m n) ≡ true → are_in_order es ≡ true → part_of ns (find m es) ≡ None → part_of ns (find n es) ≡ kept_of ns es
kept_second ns m n es two rises h g =
    sym (kept_by_find ns m n two rises es (rise_from es h) ∙ ap (λ (o : Option Tuple). or_else o (part_of ns (find n es))) g)

pub kept_first : (ns : List Name) (m n : Name) (es : List Entry) (t : Tuple) → AreTwo ns m n → is_le (slice_cmp nat_cmp m n) ≡ true → are_in_order es ≡ true → part_of ns (find m es) ≡ Some t → kept_of ns es ≡ Some t
kept_first ns m n es t two rises h g =
    kept_by_find ns m n two rises es (rise_from es h) ∙ ap (λ (o : Option Tuple). or_else o (part_of ns (find n es))) g

pub found_again : (ns : List Name) (es : List Entry) (o u : Option Tuple) (i : ℕ) (e : Entry) → IsFound ns es o i e → u ≡ Some (tuple_of ns e.was) → IsFound ns es u i e
found_again ns es o u i e f q = record { place = f.place; here = f.here; part = f.part; kept = q }

or_same : (o : Option Tuple) → or_else o o ≡ o
or_same None = refl
or_same (Some t) = refl

one_name : (n k : Name) → has_name k (n ∷ []) ≡ true → k ≡ n
one_name n k h = (bytes_eq-Decides k n).0 (grind (arith, h))

pub kept_of_one : (n : Name) (es : List Entry) → are_in_order es ≡ true → part_of (n ∷ []) (find n es) ≡ kept_of (n ∷ []) es
kept_of_one n es h =
    sym (kept_by_find (n ∷ []) n n (λ k g. inl (one_name n k g)) (le_self n) es (rise_from es h) ∙ or_same (part_of (n ∷ []) (find n es)))

no_part : (was : Pairs) → is_part [] was ≡ false
no_part [] = refl
no_part (p ∷ ps) = refl

pub kept_of_none : (es : List Entry) → kept_of [] es ≡ None
kept_of_none [] = refl
kept_of_none (e ∷ es) = by_at e.at ∙ kept_of_none es
  where
    by_at : (at : List Name) → kept_here [] at e.was (kept_of [] es) ≡ kept_of [] es
    by_at [] = ap (λ (b : Bool). cond b (Some (tuple_of [] e.was)) (kept_of [] es)) (no_part e.was)
    by_at (m ∷ at) = refl

pub two_names : (m n : Name) → AreTwo (m ∷ n ∷ []) m n
two_names m n k h = by_first (bytes_eq k m) refl
  where
    by_first : (b : Bool) → bytes_eq k m ≡ b → (k ≡ m) ⊎ (k ≡ n)
    by_first true q = inl ((bytes_eq-Decides k m).0 q)
    by_first false q = inr ((bytes_eq-Decides k n).0 (grind (arith, h, q)))

pub two_turned : (m n : Name) → AreTwo (m ∷ n ∷ []) n m
two_turned m n k h = by_side (two_names m n k h)
  where
    by_side : (k ≡ m) ⊎ (k ≡ n) → (k ≡ n) ⊎ (k ≡ m)
    by_side (inl q) = inr q
    by_side (inr q) = inl q

reversed_le : (o : Ordering) → is_le o ≡ false → is_le (ordering_reverse o) ≡ true
reversed_le Less h = absurd (lies (sym h))
reversed_le Equal h = refl
reversed_le Greater h = refl

pub turned_le : (m n : Name) → is_le (slice_cmp nat_cmp m n) ≡ false → is_le (slice_cmp nat_cmp n m) ≡ true
turned_le m n h =
    ap is_le (nat_list_cmp_total.antisymm n m) ∙ reversed_le (slice_cmp nat_cmp m n) h
