-- The tuple that was put at distinct names is read back.
use Rattle.std.proofs.Common.{◌≡◌, ℕ, suc, map, List, [], ◌∷◌, ◌++◌, length, Bool, true, false, cond, ◌&&◌, ◌||◌, Option, Some, None, Ordering, Less, Equal, Greater, nat_cmp, is_eq, bytes_eq, refl, ap, ap₂, sym, subst, ◌∙◌, arith}
use Rattle.std.specs.Ordering.{match_ordering}
use Rattle.std.specs.Cmp.Lexicographic.{slice_cmp}
use Rattle.std.proofs.lemmas.Map.Text.{is_eq-slice_cmp}
use Rattle.std.proofs.lemmas.Slice.Eq.{bytes_eq-Decides}
use Rattle.kj_value.specs.Json.{Json}
use Rattle.kj_value.specs.Fields.{Pairs, field, with_field}
use Rattle.hub_cells.specs.Cell.{Tuple}
use Rattle.hub_cells.specs.Side.{Side}
use Rattle.hub_cells.specs.Level.{Place, Cell, places, names, allowed_at, all_allowed, allows, Name, tuple_of}
use Rattle.keep_laws.specs.Entry.{put, part, all_named, is_part}
use Rattle.hub_cells.specs.Fit.{has_name}
use Rattle.hub_cells.specs.Level.{IsFresh, AreDistinct}

true_false : (b : Bool) → b ≡ true → b ≡ false → ⊥
true_false b p q = grind arith

pub bytes_same : (k : Name) → bytes_eq k k ≡ true
bytes_same k = (bytes_eq-Decides k k).1 refl

pub bytes_other : (k n : Name) → (k ≡ n → ⊥) → bytes_eq k n ≡ false
bytes_other k n h = by_answer (bytes_eq k n) refl
  where
    by_answer : (b : Bool) → bytes_eq k n ≡ b → b ≡ false
    by_answer true q = absurd (h ((bytes_eq-Decides k n).0 q))
    by_answer false q = refl

pub at_same : (k : Name) → is_eq (slice_cmp nat_cmp k k) ≡ true
at_same k = is_eq-slice_cmp k k ∙ bytes_same k

pub at_other : (k n : Name) → (k ≡ n → ⊥) → is_eq (slice_cmp nat_cmp k n) ≡ false
at_other k n h = is_eq-slice_cmp k n ∙ bytes_other k n h

pub equal_same : (k n : Name) → slice_cmp nat_cmp k n ≡ Equal → k ≡ n
equal_same k n e = (bytes_eq-Decides k n).0 (sym (is_eq-slice_cmp k n) ∙ ap is_eq e)

pub field_same : (k : Name) (v : Json) (es : Pairs) → field k (with_field k v es) ≡ Some v
field_same k v [] = rw (at_same k) refl
field_same k v (e ∷ es) = by_order (field_same k v es) (slice_cmp nat_cmp k e.0) refl
  where
    by_order : field k (with_field k v es) ≡ Some v → (o : Ordering) → slice_cmp nat_cmp k e.0 ≡ o → field k (match_ordering o ((k, v) ∷ e ∷ es) ((e.0, v) ∷ es) (e ∷ with_field k v es)) ≡ Some v
    by_order later Less q = rw (at_same k) refl
    by_order later Equal q = rw q refl
    by_order later Greater q = rw q later

pub field_other : (k n : Name) (v : Json) (es : Pairs) → (k ≡ n → ⊥) → field k (with_field n v es) ≡ field k es
field_other k n v [] h = rw (at_other k n h) refl
field_other k n v (e ∷ es) h = by_order (field_other k n v es h) (slice_cmp nat_cmp n e.0) refl
  where
    by_order : field k (with_field n v es) ≡ field k es → (o : Ordering) → slice_cmp nat_cmp n e.0 ≡ o → field k (match_ordering o ((n, v) ∷ e ∷ es) ((e.0, v) ∷ es) (e ∷ with_field n v es)) ≡ field k (e ∷ es)
    by_order later Less q = rw (at_other k n h) refl
    by_order later Equal q = rw (at_other k e.0 (λ p. h (p ∙ sym (equal_same n e.0 q)))) refl
    by_order later Greater q = ap (λ (o : Option Json). cond (is_eq (slice_cmp nat_cmp k e.0)) (Some e.1) o) later

pub put_fresh : (k : Name) (ns : List Name) (os : Tuple) (ps : Pairs) → IsFresh k ns → field k (put ns os ps) ≡ field k ps
put_fresh k [] os ps f = refl
put_fresh k (n ∷ ns) [] ps f = refl
put_fresh k (n ∷ ns) (None ∷ os) ps f = put_fresh k ns os ps f.1
put_fresh k (n ∷ ns) (Some j ∷ os) ps f = put_fresh k ns os (with_field n j ps) f.1 ∙ field_other k n j ps f.0

abbrev AreAbsent : List Name → Pairs → Type 0
AreAbsent [] ps = Unit {0}
AreAbsent (n ∷ ns) ps = (field n ps ≡ None) × AreAbsent ns ps

absent_with : (n : Name) (j : Json) (ns : List Name) (ps : Pairs) → IsFresh n ns → AreAbsent ns ps → AreAbsent ns (with_field n j ps)
absent_with n j [] ps f a = tt
absent_with n j (m ∷ ns) ps f a = (field_other m n j ps (λ e. f.0 (sym e)) ∙ a.0, absent_with n j ns ps f.1 a.1)

absent_nil : (ns : List Name) → AreAbsent ns []
absent_nil [] = tt
absent_nil (n ∷ ns) = (refl, absent_nil ns)

put_back_on : (ns : List Name) (os : Tuple) (ps : Pairs) → AreDistinct ns → AreAbsent ns ps → length os ≡ length ns → tuple_of ns (put ns os ps) ≡ os
put_back_on [] [] ps d a e = refl
put_back_on [] (o ∷ os) ps d a e = absurd (omega (arith, e))
put_back_on (n ∷ ns) [] ps d a e = absurd (omega (arith, e))
put_back_on (n ∷ ns) (None ∷ os) ps d a e =
    ap₂ (λ (q : Option Json) (qs : Tuple). q ∷ qs) (put_fresh n ns os ps d.0 ∙ a.0) (put_back_on ns os ps d.1 a.1 (omega (arith, e)))
put_back_on (n ∷ ns) (Some j ∷ os) ps d a e =
    ap₂ (λ (q : Option Json) (qs : Tuple). q ∷ qs) (put_fresh n ns os (with_field n j ps) d.0 ∙ field_same n j ps) (put_back_on ns os (with_field n j ps) d.1 (absent_with n j ns ps d.0 a.1) (omega (arith, e)))

pub put_back : (ns : List Name) (os : Tuple) → AreDistinct ns → length os ≡ length ns → tuple_of ns (put ns os []) ≡ os
put_back ns os d e = put_back_on ns os [] d (absent_nil ns) e

-- ---- the names of a part

pub has_more : (k n : Name) (ns : List Name) → has_name k ns ≡ true → has_name k (n ∷ ns) ≡ true
has_more k n ns h = grind (arith, h)

pub has_first : (n : Name) (ns : List Name) → has_name n (n ∷ ns) ≡ true
has_first n ns = rw (bytes_same n) refl

and_intro : (a b : Bool) → a ≡ true → b ≡ true → (a && b) ≡ true
and_intro a b p q = grind arith

and_left : (a b : Bool) → (a && b) ≡ true → a ≡ true
and_left a b p = grind arith

and_right : (a b : Bool) → (a && b) ≡ true → b ≡ true
and_right a b p = grind arith

named_with : (k : Name) (v : Json) (ns : List Name) (ps : Pairs) → has_name k ns ≡ true → all_named ns ps ≡ true → all_named ns (with_field k v ps) ≡ true
named_with k v ns [] h a = and_intro (has_name k ns) true h refl
named_with k v ns (p ∷ ps) h a = by_order (named_with k v ns ps h (and_right (has_name p.0 ns) (all_named ns ps) a)) (slice_cmp nat_cmp k p.0)
  where
    by_order : all_named ns (with_field k v ps) ≡ true → (o : Ordering) → all_named ns (match_ordering o ((k, v) ∷ p ∷ ps) ((p.0, v) ∷ ps) (p ∷ with_field k v ps)) ≡ true
    by_order later Less = and_intro (has_name k ns) (all_named ns (p ∷ ps)) h a
    by_order later Equal = a
    by_order later Greater = and_intro (has_name p.0 ns) (all_named ns (with_field k v ps)) (and_left (has_name p.0 ns) (all_named ns ps) a) later

put_named : (ms ns : List Name) (os : Tuple) (ps : Pairs) → ((k : Name) → has_name k ns ≡ true → has_name k ms ≡ true) → all_named ms ps ≡ true → all_named ms (put ns os ps) ≡ true
put_named ms [] os ps h a = a
put_named ms (n ∷ ns) [] ps h a = a
put_named ms (n ∷ ns) (None ∷ os) ps h a = put_named ms ns os ps (λ k p. h k (has_more k n ns p)) a
put_named ms (n ∷ ns) (Some j ∷ os) ps h a =
    put_named ms ns os (with_field n j ps) (λ k p. h k (has_more k n ns p)) (named_with n j ms ps (h n (has_first n ns)) a)

pub part_named : (ns : List Name) (os : Tuple) → all_named ns (part ns os) ≡ true
part_named ns os = put_named ns ns os [] (λ k p. p) refl

pub is_part_of : (ns : List Name) (ps : Pairs) → all_named ns ps ≡ true → (ps ≡ [] → ⊥) → is_part ns ps ≡ true
is_part_of ns [] a h = absurd (h refl)
is_part_of ns (p ∷ ps) a h = a

-- ---- names apart

abbrev pub Disjoint : List Name → List Name → Type 0
Disjoint ns ms = (k : Name) → has_name k ns ≡ true → has_name k ms ≡ false

pub fresh_absent : (k : Name) (ns : List Name) → IsFresh k ns → has_name k ns ≡ false
fresh_absent k [] f = refl
fresh_absent k (n ∷ ns) f = rw (bytes_other k n f.0) (fresh_absent k ns f.1)

fresh_right : (k : Name) (ns ms : List Name) → IsFresh k (ns ++ ms) → IsFresh k ms
fresh_right k [] ms f = f
fresh_right k (n ∷ ns) ms f = fresh_right k ns ms f.1

fresh_left : (k : Name) (ns ms : List Name) → IsFresh k (ns ++ ms) → IsFresh k ns
fresh_left k [] ms f = tt
fresh_left k (n ∷ ns) ms f = (f.0, fresh_left k ns ms f.1)

pub distinct_left : (ns ms : List Name) → AreDistinct (ns ++ ms) → AreDistinct ns
distinct_left [] ms d = tt
distinct_left (n ∷ ns) ms d = (fresh_left n ns ms d.0, distinct_left ns ms d.1)

pub distinct_right : (ns ms : List Name) → AreDistinct (ns ++ ms) → AreDistinct ms
distinct_right [] ms d = d
distinct_right (n ∷ ns) ms d = distinct_right ns ms d.1

pub distinct_apart : (ns ms : List Name) → AreDistinct (ns ++ ms) → Disjoint ns ms
distinct_apart [] ms d k h = absurd (true_false false h refl)
distinct_apart (n ∷ ns) ms d k h = by_name (distinct_apart ns ms d.1 k) (bytes_eq k n) refl
  where
    by_name : (has_name k ns ≡ true → has_name k ms ≡ false) → (b : Bool) → bytes_eq k n ≡ b → has_name k ms ≡ false
    by_name later true q = subst (λ (m : Name). has_name m ms ≡ false) (sym ((bytes_eq-Decides k n).0 q)) (fresh_absent n ms (fresh_right n ns ms d.0))
    by_name later false q = later (grind (arith, h, q))

pub disjoint_turned : (ns ms : List Name) → Disjoint ns ms → Disjoint ms ns
disjoint_turned ns ms h k p = by_answer (has_name k ns) refl
  where
    by_answer : (b : Bool) → has_name k ns ≡ b → b ≡ false
    by_answer true q = absurd (true_false (has_name k ms) p (h k q))
    by_answer false q = refl

pub has_left : (k : Name) (ns ms : List Name) → has_name k ns ≡ true → has_name k (ns ++ ms) ≡ true
has_left k [] ms h = absurd (true_false false h refl)
has_left k (n ∷ ns) ms h = by_name (has_left k ns ms) (bytes_eq k n) refl
  where
    by_name : (has_name k ns ≡ true → has_name k (ns ++ ms) ≡ true) → (b : Bool) → bytes_eq k n ≡ b → (b || has_name k (ns ++ ms)) ≡ true
    by_name later true q = refl
    by_name later false q = later (grind (arith, h, q))

pub has_right : (k : Name) (ns ms : List Name) → has_name k ms ≡ true → has_name k (ns ++ ms) ≡ true
has_right k [] ms h = h
has_right k (n ∷ ns) ms h = has_more k n (ns ++ ms) (has_right k ns ms h)

absent_of : (a b : Bool) → (a ≡ true → b ≡ true) → b ≡ false → a ≡ false
absent_of true b f q = absurd (true_false b (f refl) q)
absent_of false b f q = refl

pub disjoint_left : (ns xs ys : List Name) → Disjoint ns (xs ++ ys) → Disjoint ns xs
disjoint_left ns xs ys h k p = absent_of (has_name k xs) (has_name k (xs ++ ys)) (has_left k xs ys) (h k p)

pub disjoint_right : (ns xs ys : List Name) → Disjoint ns (xs ++ ys) → Disjoint ns ys
disjoint_right ns xs ys h k p = absent_of (has_name k ys) (has_name k (xs ++ ys)) (has_right k xs ys) (h k p)

pub not_part : (ns ms : List Name) (ps : Pairs) → Disjoint ns ms → all_named ns ps ≡ true → is_part ms ps ≡ false
not_part ns ms [] h a = refl
not_part ns ms (p ∷ ps) h a = rw (h p.0 (and_left (has_name p.0 ns) (all_named ns ps) a)) refl

-- ---- an allowed tuple has a value or none for each name

all_length : (n : ℕ) (ps : List Place) (t : Tuple) → all_allowed n ps t ≡ true → length t ≡ length (map (λ (p : Place). p.name) ps)
all_length n [] [] h = refl
all_length n [] (o ∷ os) h = absurd (true_false false h refl)
all_length n (p ∷ ps) [] h = absurd (true_false false h refl)
all_length n (p ∷ ps) (o ∷ os) h =
    ap suc (all_length n ps os (and_right (allowed_at n p o) (all_allowed n ps os) h))

pub allowed_length : (d : Side) (c : Cell) (t : Tuple) → allows d c t ≡ true → length t ≡ length (names d c)
allowed_length d c t h = all_length c.depth (places d c) t h
