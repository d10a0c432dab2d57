-- Entries in order stand by their spots: what comes before a spot comes first, and what is inside an object stands side by side.
use Rattle.std.proofs.Common.{◌≡◌, ℕ, zero, suc, ◌+◌, ◌<◌, ◌≤◌, List, [], ◌∷◌, map, take, drop, length, get_or, Bool, true, false, cond, ◌⊎◌, inl, inr, Ordering, Less, Equal, Greater, is_lt, nat_cmp, Some, None, slice_get, ◌-◌, add-one, refl, ap, ap₂, sym, subst, ◌∙◌, arith}
use Rattle.std.specs.Str.{bytes_eq}
use Rattle.std.specs.Ordering.{bool_cmp, is_le, is_eq, ordering_then, ordering_reverse, then_cmp, on}
use Rattle.std.specs.Cmp.{IsTotalOrder, bool_cmp_total}
use Rattle.std.specs.Cmp.Lexicographic.{slice_cmp}
use Rattle.std.proofs.lemmas.Cmp.{then_total, on_total, nat_list_cmp_total}
use Rattle.std.proofs.lemmas.List.{drop-map, take_rest}
use Rattle.std.proofs.lemmas.Map.Text.{is_eq-slice_cmp}
use Rattle.std.proofs.lemmas.Slice.Eq.{bytes_eq-Decides}
use Rattle.kj_value.specs.Fields.{Pairs}
use Rattle.hub_cells.specs.Level.{Name}
use Rattle.kept_entries.specs.declared.entry.Entry.{Entry}
use Rattle.kept_entries.specs.Entry.{first_name, has_part, is_before, are_in_order}
use Rattle.keep_laws.specs.Entry.{inside_by, inside, under}
use Rattle.keep_laws.specs.Words.{Has}
use Rattle.keep_laws.proofs.Apart.{under_before}
use Rattle.keep_laws.proofs.Canonical.{AllAfter, EntriesRise, has_after, rise_from, in_order_from}
use Rattle.keep_laws.proofs.Holds.{has_under}
use Rattle.keep_bodies.specs.inner.Left.{left_entry}
use Rattle.keep_bodies.specs.inner.Spots.{Spot, spot_at, spot, spot_cmp, comes_first, leading, AllDeeper}

pub true_false : (b : Bool) → b ≡ true → b ≡ false → ⊥
true_false b p q = grind arith

lies : false ≡ true → ⊥
lies e = cc

nil_cons : {A : Type 0} (x : A) (xs : List A) → [] ≡ x ∷ xs → ⊥
nil_cons x xs e = cc

not_true : (b : Bool) → (b ≡ true → ⊥) → b ≡ false
not_true true h = absurd (h refl)
not_true false h = refl

-- ---- the order of spots

pub spot_total : IsTotalOrder (then_cmp (on (λ (s : Spot). s.0) bool_cmp) (on (λ (s : Spot). s.1) (slice_cmp nat_cmp)))
spot_total =
    then_total (on_total (λ (s : Spot). s.0) bool_cmp_total) (on_total (λ (s : Spot). s.1) nat_list_cmp_total)

pub lt_less : (o : Ordering) → is_lt o ≡ true → o ≡ Less
lt_less Less h = refl
lt_less Equal h = absurd (lies h)
lt_less Greater h = absurd (lies h)

lt_le : (o : Ordering) → is_lt o ≡ true → is_le o ≡ true
lt_le Less h = refl
lt_le Equal h = absurd (lies h)
lt_le Greater h = absurd (lies h)

pub lt_not_eq : (o : Ordering) → is_lt o ≡ true → is_eq o ≡ false
lt_not_eq Less h = refl
lt_not_eq Equal h = absurd (lies h)
lt_not_eq Greater h = refl

pub gt_not_eq : (o : Ordering) → is_le o ≡ false → is_eq o ≡ false
gt_not_eq Less h = refl
gt_not_eq Equal h = absurd (lies (sym h))
gt_not_eq Greater h = refl

eq_between : (o : Ordering) → is_le o ≡ true → is_lt o ≡ false → is_eq o ≡ true
eq_between Less h g = absurd (lies (sym g))
eq_between Equal h g = refl
eq_between Greater h g = absurd (lies h)

le_cases : (o : Ordering) → is_le o ≡ true → (o ≡ Less) ⊎ (o ≡ Equal)
le_cases Less h = inl refl
le_cases Equal h = inr refl
le_cases Greater h = absurd (lies h)

pub le_lt : (s t k : Spot) → is_le (spot_cmp s t) ≡ true → is_lt (spot_cmp t k) ≡ true → is_lt (spot_cmp s k) ≡ true
le_lt s t k h g = by_case (le_cases (spot_cmp s t) h)
  where
    by_case : (spot_cmp s t ≡ Less) ⊎ (spot_cmp s t ≡ Equal) → is_lt (spot_cmp s k) ≡ true
    by_case (inl q) = ap is_lt (spot_total.trans s t k q (lt_less (spot_cmp t k) g))
    by_case (inr q) = ap is_lt (spot_total.congr s t k q) ∙ g

le_le : (s t k : Spot) → is_le (spot_cmp s t) ≡ true → is_le (spot_cmp t k) ≡ true → is_le (spot_cmp s k) ≡ true
le_le s t k h g = by_case (le_cases (spot_cmp t k) g)
  where
    by_case : (spot_cmp t k ≡ Less) ⊎ (spot_cmp t k ≡ Equal) → is_le (spot_cmp s k) ≡ true
    by_case (inl q) = lt_le (spot_cmp s k) (le_lt s t k h (ap is_lt q))
    by_case (inr q) =
        ap is_le (spot_total.antisymm s k ∙ ap ordering_reverse (sym (spot_total.congr t k s q)) ∙ sym (spot_total.antisymm s t)) ∙ h

first_down : (k : Spot) (also : Bool) (s t : Spot) → is_le (spot_cmp s t) ≡ true → cond also (is_le (spot_cmp t k)) (is_lt (spot_cmp t k)) ≡ true → cond also (is_le (spot_cmp s k)) (is_lt (spot_cmp s k)) ≡ true
first_down k true s t h g = le_le s t k h g
first_down k false s t h g = le_lt s t k h g

first_le : (o p q : Ordering) → is_lt (ordering_then (ordering_then o p) q) ≡ true → is_le o ≡ true
first_le Less p q h = refl
first_le Equal p q h = refl
first_le Greater p q h = absurd (lies h)

rise_at : (a b : List Name) (v w : Pairs) → is_before (record { at = a; was = v }) (record { at = b; was = w }) ≡ true → is_le (spot_cmp (spot_at a v) (spot_at b w)) ≡ true
rise_at [] [] v w h = lt_le (slice_cmp nat_cmp (first_name v) (first_name w)) h
rise_at [] (m ∷ b) v w h = refl
rise_at (n ∷ a) [] v w h = absurd (lies h)
rise_at (n ∷ a) (m ∷ b) v w h =
    first_le (slice_cmp nat_cmp n m) (slice_cmp (slice_cmp nat_cmp) a b) (slice_cmp nat_cmp (first_name v) (first_name w)) h

spots_rise : (e f : Entry) → is_before e f ≡ true → is_le (spot_cmp (spot e) (spot f)) ≡ true
spots_rise e f h = rise_at e.at f.at e.was f.was h

-- an entry at the level comes before any later one's spot
pub here_strict : (b : List Name) (v w : Pairs) → is_before (record { at = []; was = v }) (record { at = b; was = w }) ≡ true → is_lt (spot_cmp (spot_at [] v) (spot_at b w)) ≡ true
here_strict [] v w h = h
here_strict (m ∷ b) v w h = refl

-- what passes for a later entry passes for an earlier one
abbrev pub Falls : (Entry → Bool) → Type 0
Falls p = (e f : Entry) → is_before e f ≡ true → p f ≡ true → p e ≡ true

pub falls : (k : Spot) (also : Bool) → Falls (comes_first k also)
falls k also e f h g = first_down k also (spot e) (spot f) (spots_rise e f h) g

-- ---- how many come first

pub has_at : (es : List Entry) (i : ℕ) (x : Entry) → i < length es → x ≡ get_or es i x → Has x es
has_at [] i x l q = absurd (omega (arith, l))
has_at (e ∷ es) zero x l q = inl q
has_at (e ∷ es) (suc i) x l q = inr (has_at es i x (omega (arith, l)) q)

lead_more : (p : Entry → Bool) → Falls p → (es : List Entry) (i : ℕ) (x : Entry) → EntriesRise es → i < length es → x ≡ get_or es i x → p x ≡ true → suc i ≤ leading p es
lead_more p D [] i x r l q h = absurd (omega (arith, l))
lead_more p D (e ∷ es) zero x r l q h =
    let first : p e ≡ true = subst (λ (y : Entry). p y ≡ true) q h in
    subst (λ (b : Bool). suc zero ≤ cond b (suc (leading p es)) 0) (sym first) (omega arith)
lead_more p D (e ∷ es) (suc i) x r l q h =
    let go = lead_more p D es i x r.1 (omega (arith, l)) q h in
    let first : p e ≡ true = D e x (has_after e x es r.0 (has_at es i x (omega (arith, l)) q)) h in
    subst (λ (b : Bool). suc (suc i) ≤ cond b (suc (leading p es)) 0) (sym first) (omega (arith, go))

lead_stop : (p : Entry → Bool) (es : List Entry) (i : ℕ) (x : Entry) → i < length es → x ≡ get_or es i x → p x ≡ false → leading p es ≤ i
lead_stop p [] i x l q h = absurd (omega (arith, l))
lead_stop p (e ∷ es) zero x l q h =
    let first : p e ≡ false = subst (λ (y : Entry). p y ≡ false) q h in
    subst (λ (b : Bool). cond b (suc (leading p es)) 0 ≤ zero) (sym first) (omega arith)
lead_stop p (e ∷ es) (suc i) x l q h = by_first (lead_stop p es i x (omega (arith, l)) q h) (p e)
  where
    by_first : leading p es ≤ i → (b : Bool) → cond b (suc (leading p es)) 0 ≤ suc i
    by_first go true = omega (arith, go)
    by_first go false = omega arith

pub lead_length : (p : Entry → Bool) (es : List Entry) → leading p es ≤ length es
lead_length p [] = omega arith
lead_length p (e ∷ es) = by_first (lead_length p es) (p e)
  where
    by_first : leading p es ≤ length es → (b : Bool) → cond b (suc (leading p es)) 0 ≤ suc (length es)
    by_first go true = omega (arith, go)
    by_first go false = omega arith

at_map : (d : ℕ) (raw : List Entry) (i : ℕ) (x : Entry) → i < length raw → x ≡ get_or raw i x → left_entry d x ≡ get_or (map (left_entry d) raw) i (left_entry d x)
at_map d [] i x l q = absurd (omega (arith, l))
at_map d (y ∷ ys) zero x l q = ap (left_entry d) q
at_map d (y ∷ ys) (suc i) x l q = at_map d ys i x (omega (arith, l)) q

pub left_length : (d : ℕ) (raw : List Entry) → length (map (left_entry d) raw) ≡ length raw
left_length d [] = refl
left_length d (x ∷ xs) = ap suc (left_length d xs)

pub search_more : (k : Spot) (also : Bool) (d : ℕ) (raw : List Entry) (i : ℕ) (x : Entry) → are_in_order (map (left_entry d) raw) ≡ true → i < length raw → x ≡ get_or raw i x → true ≡ comes_first k also (left_entry d x) → suc i ≤ leading (comes_first k also) (map (left_entry d) raw)
search_more k also d raw i x r l q h =
    lead_more (comes_first k also) (falls k also) (map (left_entry d) raw) i (left_entry d x) (rise_from (map (left_entry d) raw) r) (subst (λ (n : ℕ). i < n) (sym (left_length d raw)) l) (at_map d raw i x l q) (sym h)

pub search_stop : (k : Spot) (also : Bool) (d : ℕ) (raw : List Entry) (i : ℕ) (x : Entry) → i < length raw → x ≡ get_or raw i x → false ≡ comes_first k also (left_entry d x) → leading (comes_first k also) (map (left_entry d) raw) ≤ i
search_stop k also d raw i x l q h =
    lead_stop (comes_first k also) (map (left_entry d) raw) i (left_entry d x) (subst (λ (n : ℕ). i < n) (sym (left_length d raw)) l) (at_map d raw i x l q) (sym h)

pub search_within : (k : Spot) (also : Bool) (d : ℕ) (raw : List Entry) → leading (comes_first k also) (map (left_entry d) raw) ≤ length raw
search_within k also d raw =
    subst (λ (n : ℕ). leading (comes_first k also) (map (left_entry d) raw) ≤ n) (left_length d raw) (lead_length (comes_first k also) (map (left_entry d) raw))

-- ---- what comes after the first ones

abbrev pub AllNot : (Entry → Bool) → List Entry → Type 0
AllNot p [] = Unit {0}
AllNot p (e ∷ es) = (p e ≡ false) × AllNot p es

pub none_after : (p : Entry → Bool) → Falls p → (e : Entry) (es : List Entry) → AllAfter e es → p e ≡ false → AllNot p es
none_after p D e [] a h = tt
none_after p D e (f ∷ fs) a h =
    (not_true (p f) (λ g. true_false (p e) (D e f a.0 g) h), none_after p D e fs a.1 h)

rest_not : (p : Entry → Bool) → Falls p → (es : List Entry) → EntriesRise es → AllNot p (drop (leading p es) es)
rest_not p D [] r = tt
rest_not p D (e ∷ es) r = by_first (rest_not p D es r.1) (p e) refl
  where
    by_first : AllNot p (drop (leading p es) es) → (b : Bool) → p e ≡ b → AllNot p (drop (cond b (suc (leading p es)) 0) (e ∷ es))
    by_first go true q = go
    by_first go false q = (q, none_after p D e es r.0 q)

-- ---- inside an object

abbrev pub before : Name → Entry → Bool
before n e = comes_first (true, n) false e

abbrev pub upto : Name → Entry → Bool
upto n e = comes_first (true, n) true e

out : (n : Name) (e : Entry) (es : List Entry) → is_eq (spot_cmp (spot e) (true, n)) ≡ false → inside n (e ∷ es) ≡ inside n es
out n e es h = by_at e.at h
  where
    by_at : (at : List Name) → is_eq (spot_cmp (spot_at at e.was) (true, n)) ≡ false → inside_by n at e.was (inside n es) ≡ inside n es
    by_at [] g = refl
    by_at (m ∷ at) g =
        ap (λ (b : Bool). cond b (record { at = at; was = e.was } ∷ inside n es) (inside n es)) (sym (is_eq-slice_cmp m n) ∙ g)

skip : (n : Name) (es : List Entry) → inside n (drop (leading (before n) es) es) ≡ inside n es
skip n [] = refl
skip n (e ∷ es) = by_first (skip n es) (before n e) refl
  where
    by_first : inside n (drop (leading (before n) es) es) ≡ inside n es → (b : Bool) → before n e ≡ b → inside n (drop (cond b (suc (leading (before n) es)) 0) (e ∷ es)) ≡ inside n (e ∷ es)
    by_first go true q = go ∙ sym (out n e es (lt_not_eq (spot_cmp (spot e) (true, n)) q))
    by_first go false q = refl

none_in : (n : Name) (es : List Entry) → AllNot (upto n) es → inside n es ≡ []
none_in n [] h = refl
none_in n (e ∷ es) h = out n e es (gt_not_eq (spot_cmp (spot e) (true, n)) h.0) ∙ none_in n es h.1

drop_tail : (d : ℕ) (ns : List Name) (m : Name) (at : List Name) → drop d ns ≡ m ∷ at → drop (suc d) ns ≡ at
drop_tail zero [] m at q = absurd (nil_cons m at q)
drop_tail zero (n ∷ ns) m at q = tails n m ns at q
  where
    tails : (a b : Name) (xs ys : List Name) → a ∷ xs ≡ b ∷ ys → xs ≡ ys
    tails a b xs ys e = cc
drop_tail (suc d) [] m at q = absurd (nil_cons m at q)
drop_tail (suc d) (n ∷ ns) m at q = drop_tail d ns m at q

drop_within : (d : ℕ) (ns : List Name) (m : Name) (at : List Name) → drop d ns ≡ m ∷ at → d < length ns
drop_within zero [] m at q = absurd (nil_cons m at q)
drop_within zero (n ∷ ns) m at q = omega arith
drop_within (suc d) [] m at q = absurd (nil_cons m at q)
drop_within (suc d) (n ∷ ns) m at q = let go = drop_within d ns m at q in omega (arith, go)

-- an entry of the run: a name of the object leads to it
abbrev InRun : ℕ → Name → Entry → Type 0
InRun d n x = (m : Name) × (at : List Name) × (drop d x.at ≡ m ∷ at) × (bytes_eq m n ≡ true)

in_run : (d : ℕ) (n : Name) (x : Entry) → upto n (left_entry d x) ≡ true → before n (left_entry d x) ≡ false → InRun d n x
in_run d n x h g = by_at (drop d x.at) refl h g
  where
    by_at : (at : List Name) → drop d x.at ≡ at → is_le (spot_cmp (spot_at at x.was) (true, n)) ≡ true → is_lt (spot_cmp (spot_at at x.was) (true, n)) ≡ false → InRun d n x
    by_at [] q u v = absurd (lies (sym v))
    by_at (m ∷ at) q u v =
        (m, at, q, sym (is_eq-slice_cmp m n) ∙ eq_between (slice_cmp nat_cmp m n) u v)

run : (d : ℕ) (n : Name) (raw : List Entry) → EntriesRise (map (left_entry d) raw) → AllNot (before n) (map (left_entry d) raw) → map (left_entry (suc d)) (take (leading (upto n) (map (left_entry d) raw)) raw) ≡ inside n (map (left_entry d) raw)
run d n [] r h = refl
run d n (x ∷ xs) r h = by_first (run d n xs r.1 h.1) (upto n (left_entry d x)) refl
  where
    by_run : (go : map (left_entry (suc d)) (take (leading (upto n) (map (left_entry d) xs)) xs) ≡ inside n (map (left_entry d) xs)) → InRun d n x → left_entry (suc d) x ∷ map (left_entry (suc d)) (take (leading (upto n) (map (left_entry d) xs)) xs) ≡ inside n (left_entry d x ∷ map (left_entry d) xs)
    by_run go i =
        let tail : drop (suc d) x.at ≡ i.1 = drop_tail d x.at i.0 i.1 i.2 in
        ap₂ (λ (at : List Name) (fs : List Entry). record { at = at; was = x.was } ∷ fs) tail go
        ∙ ap (λ (b : Bool). cond b (record { at = i.1; was = x.was } ∷ inside n (map (left_entry d) xs)) (inside n (map (left_entry d) xs))) (sym i.3)
        ∙ ap (λ (at : List Name). inside_by n at x.was (inside n (map (left_entry d) xs))) (sym i.2)

    by_first : map (left_entry (suc d)) (take (leading (upto n) (map (left_entry d) xs)) xs) ≡ inside n (map (left_entry d) xs) → (b : Bool) → upto n (left_entry d x) ≡ b → map (left_entry (suc d)) (take (cond b (suc (leading (upto n) (map (left_entry d) xs))) 0) (x ∷ xs)) ≡ inside n (left_entry d x ∷ map (left_entry d) xs)
    by_first go true q = by_run go (in_run d n x q h.0)
    by_first go false q =
        sym (none_in n (left_entry d x ∷ map (left_entry d) xs) (q, none_after (upto n) (falls (true, n) true) (left_entry d x) (map (left_entry d) xs) r.0 q))

run_deeper : (d : ℕ) (n : Name) (raw : List Entry) → AllNot (before n) (map (left_entry d) raw) → AllDeeper d (take (leading (upto n) (map (left_entry d) raw)) raw)
run_deeper d n [] h = tt
run_deeper d n (x ∷ xs) h = by_first (run_deeper d n xs h.1) (upto n (left_entry d x)) refl
  where
    by_first : AllDeeper d (take (leading (upto n) (map (left_entry d) xs)) xs) → (b : Bool) → upto n (left_entry d x) ≡ b → AllDeeper d (take (cond b (suc (leading (upto n) (map (left_entry d) xs))) 0) (x ∷ xs))
    by_first go true q =
        let i = in_run d n x q h.0 in
        (drop_within d x.at i.0 i.1 i.2, go)
    by_first go false q = tt

tail_order : (e : Entry) (es : List Entry) → are_in_order (e ∷ es) ≡ true → are_in_order es ≡ true
tail_order e es h = grind (arith, h)

drop_order : (k : ℕ) (es : List Entry) → are_in_order es ≡ true → are_in_order (drop k es) ≡ true
drop_order zero es h = h
drop_order (suc k) [] h = h
drop_order (suc k) (e ∷ es) h = drop_order k es (tail_order e es h)

-- the entries from the first that isn't before the object's
pub rest_order : (d k : ℕ) (raw : List Entry) → are_in_order (map (left_entry d) raw) ≡ true → are_in_order (map (left_entry d) (drop k raw)) ≡ true
rest_order d k raw h =
    subst (λ (es : List Entry). are_in_order es ≡ true) (drop-map (left_entry d) k raw) (drop_order k (map (left_entry d) raw) h)

rest_from_start : (d k : ℕ) (n : Name) (raw : List Entry) → are_in_order (map (left_entry d) raw) ≡ true → k ≡ leading (before n) (map (left_entry d) raw) → AllNot (before n) (map (left_entry d) (drop k raw))
rest_from_start d k n raw h q =
    let es = map (left_entry d) raw in
    subst (AllNot (before n)) (ap (λ (j : ℕ). drop j es) (sym q) ∙ drop-map (left_entry d) k raw) (rest_not (before n) (falls (true, n) false) es (rise_from es h))

pub run_inside : (d k j : ℕ) (n : Name) (raw : List Entry) → are_in_order (map (left_entry d) raw) ≡ true → k ≡ leading (before n) (map (left_entry d) raw) → j ≡ leading (upto n) (map (left_entry d) (drop k raw)) → map (left_entry (d + 1)) (take j (drop k raw)) ≡ inside n (map (left_entry d) raw)
run_inside d k j n raw h q p =
    let es = map (left_entry d) raw in
    ap₂ (λ (a b : ℕ). map (left_entry a) (take b (drop k raw))) (add-one d) p
    ∙ run d n (drop k raw) (rise_from (map (left_entry d) (drop k raw)) (rest_order d k raw h)) (rest_from_start d k n raw h q)
    ∙ ap (inside n) (sym (drop-map (left_entry d) k raw) ∙ ap (λ (i : ℕ). drop i es) q)
    ∙ skip n es

pub run_is_deeper : (d k j : ℕ) (n : Name) (raw : List Entry) → are_in_order (map (left_entry d) raw) ≡ true → k ≡ leading (before n) (map (left_entry d) raw) → j ≡ leading (upto n) (map (left_entry d) (drop k raw)) → AllDeeper d (take j (drop k raw))
run_is_deeper d k j n raw h q p =
    subst (λ (i : ℕ). AllDeeper d (take i (drop k raw))) (sym p) (run_deeper d n (drop k raw) (rest_from_start d k n raw h q))

-- ---- what is inside an object is in order

all_from_has : (e : Entry) (fs : List Entry) → ((f : Entry) → Has f fs → is_before e f ≡ true) → AllAfter e fs
all_from_has e [] h = tt
all_from_has e (f ∷ fs) h = (h f (inl refl), all_from_has e fs (λ g i. h g (inr i)))

inside_rises : (n : Name) (es : List Entry) → EntriesRise es → EntriesRise (inside n es)
inside_rises n [] r = tt
inside_rises n (e ∷ es) r = by_at (inside_rises n es r.1) e.at refl
  where
    by_name : EntriesRise (inside n es) → (m : Name) (at : List Name) → e.at ≡ m ∷ at → (b : Bool) → bytes_eq m n ≡ b → EntriesRise (cond b (record { at = at; was = e.was } ∷ inside n es) (inside n es))
    by_name go m at q true p =
        let same : e ≡ under m (record { at = at; was = e.was }) = ap (λ (a : List Name). record { at = a; was = e.was }) q in
        let named : m ≡ n = (bytes_eq-Decides m n).0 p in (
          all_from_has (record { at = at; was = e.was }) (inside n es) (
              λ f i. sym (under_before n (record { at = at; was = e.was }) f) ∙ subst (λ (g : Entry). is_before g (under n f) ≡ true) (same ∙ ap (λ (k : Name). under k (record { at = at; was = e.was })) named) (has_after e (under n f) es r.0 (has_under n f es i))
              ),
          go,
        )
    by_name go m at q false p = go

    by_at : EntriesRise (inside n es) → (at : List Name) → e.at ≡ at → EntriesRise (inside_by n at e.was (inside n es))
    by_at go [] q = go
    by_at go (m ∷ at) q = by_name go m at q (bytes_eq m n) refl

parts_from : (es : List Entry) → are_in_order es ≡ true → (e : Entry) → Has e es → has_part e.was ≡ true
parts_from [] h e i = absurd i
parts_from (f ∷ fs) h e (inl q) =
    subst (λ (g : Entry). has_part g.was ≡ true) (sym q) (grind (arith, h))
parts_from (f ∷ fs) h e (inr i) = parts_from fs (tail_order f fs h) e i

pub inside_order : (n : Name) (es : List Entry) → are_in_order es ≡ true → are_in_order (inside n es) ≡ true
inside_order n es h =
    in_order_from (inside n es) (inside_rises n es (rise_from es h)) (λ e i. parts_from es h (under n e) (has_under n e es i))

pub inside_is_order : (n : Name) (es fs : List Entry) → fs ≡ inside n es → are_in_order es ≡ true → are_in_order fs ≡ true
inside_is_order n es fs q h =
    subst (λ (gs : List Entry). are_in_order gs ≡ true) (sym q) (inside_order n es h)

-- ---- none of the names left out

pub none_left : (es : List Entry) → map (left_entry 0) es ≡ es
none_left [] = refl
none_left (e ∷ es) = ap (λ (fs : List Entry). e ∷ fs) (none_left es)

pub lent_order : (raw es : List Entry) → raw ≡ es → are_in_order es ≡ true → are_in_order (map (left_entry 0) raw) ≡ true
lent_order raw es q h =
    subst (λ (gs : List Entry). are_in_order gs ≡ true) (sym (none_left raw ∙ q)) h

-- ---- the spot of an entry, read

ends_at : (d : ℕ) (at : List Name) → slice_get at d ≡ None → drop d at ≡ []
ends_at zero [] h = refl
ends_at zero (n ∷ at) h = absurd (some_none n h)
  where
    some_none : {A : Type 0} (x : A) → Some x ≡ None → ⊥
    some_none x e = cc
ends_at (suc d) [] h = refl
ends_at (suc d) (n ∷ at) h = ends_at d at h

goes_on : (d : ℕ) (at : List Name) (m : Name) → slice_get at d ≡ Some m → drop d at ≡ m ∷ drop (suc d) at
goes_on zero [] m h = absurd (none_some m h)
  where
    none_some : {A : Type 0} (x : A) → None ≡ Some x → ⊥
    none_some x e = cc
goes_on zero (n ∷ at) m h = ap (λ (k : Name). k ∷ at) (same n m h)
  where
    same : (x y : Name) → Some x ≡ Some y → x ≡ y
    same x y e = cc
goes_on (suc d) [] m h = absurd (none_some m h)
  where
    none_some : {A : Type 0} (x : A) → None ≡ Some x → ⊥
    none_some x e = cc
goes_on (suc d) (n ∷ at) m h = goes_on d at m h

spot_is : (e : Entry) (d : ℕ) (at : List Name) (b c : Bool) (n : Name) → drop d e.at ≡ at → b ≡ c → spot_cmp (spot_at at e.was) (c, n) ≡ spot_cmp (spot (left_entry d e)) (b, n)
spot_is e d at b c n q p =
    ap₂ (λ (a : List Name) (v : Bool). spot_cmp (spot_at a e.was) (v, n)) (sym q) (sym p)

pub before_object : (e : Entry) (d : ℕ) (b : Bool) (n : Name) → None ≡ slice_get e.at d → b ≡ true → Less ≡ spot_cmp (spot (left_entry d e)) (b, n)
before_object e d b n h p = spot_is e d [] b true n (ends_at d e.at (sym h)) p

pub by_part : (e : Entry) (d : ℕ) (b : Bool) (n k : Name) (o : Ordering) → None ≡ slice_get e.at d → b ≡ false → o ≡ slice_cmp nat_cmp k n → k ≡ first_name e.was → o ≡ spot_cmp (spot (left_entry d e)) (b, n)
by_part e d b n k o h p q g =
    q ∙ ap (λ (m : Name). slice_cmp nat_cmp m n) g ∙ spot_is e d [] b false n (ends_at d e.at (sym h)) p

pub by_object : (e : Entry) (d : ℕ) (b : Bool) (n k m : Name) (o : Ordering) → Some m ≡ slice_get e.at d → b ≡ true → o ≡ slice_cmp nat_cmp k n → k ≡ m → o ≡ spot_cmp (spot (left_entry d e)) (b, n)
by_object e d b n k m o h p q g =
    q ∙ ap (λ (j : Name). slice_cmp nat_cmp j n) g ∙ spot_is e d (m ∷ drop (suc d) e.at) b true n (goes_on d e.at m (sym h)) p

pub after_part : (e : Entry) (d : ℕ) (b : Bool) (n m : Name) → Some m ≡ slice_get e.at d → b ≡ false → Greater ≡ spot_cmp (spot (left_entry d e)) (b, n)
after_part e d b n m h p =
    spot_is e d (m ∷ drop (suc d) e.at) b false n (goes_on d e.at m (sym h)) p

-- ---- slices

pub rest_slice : (d k : ℕ) (raw : List Entry) → are_in_order (map (left_entry d) raw) ≡ true → are_in_order (map (left_entry d) (take (length raw - k) (drop k raw))) ≡ true
rest_slice d k raw h =
    subst (λ (es : List Entry). are_in_order (map (left_entry d) es) ≡ true) (sym (take_rest raw k)) (rest_order d k raw h)

pub run_slice_deeper : (d k j : ℕ) (n : Name) (raw : List Entry) → are_in_order (map (left_entry d) raw) ≡ true → k ≡ leading (before n) (map (left_entry d) raw) → j ≡ leading (upto n) (map (left_entry d) (take (length raw - k) (drop k raw))) → AllDeeper d (take j (take (length raw - k) (drop k raw)))
run_slice_deeper d k j n raw h q p =
    subst (λ (es : List Entry). AllDeeper d (take j es)) (sym (take_rest raw k)) (run_is_deeper d k j n raw h q (p ∙ ap (λ (es : List Entry). leading (upto n) (map (left_entry d) es)) (take_rest raw k)))

pub run_slice : (d k j : ℕ) (n : Name) (raw : List Entry) → are_in_order (map (left_entry d) raw) ≡ true → k ≡ leading (before n) (map (left_entry d) raw) → j ≡ leading (upto n) (map (left_entry d) (take (length raw - k) (drop k raw))) → map (left_entry (d + 1)) (take j (take (length raw - k) (drop k raw))) ≡ inside n (map (left_entry d) raw)
run_slice d k j n raw h q p =
    ap (λ (es : List Entry). map (left_entry (d + 1)) (take j es)) (take_rest raw k) ∙ run_inside d k j n raw h q (p ∙ ap (λ (es : List Entry). leading (upto n) (map (left_entry d) es)) (take_rest raw k))
