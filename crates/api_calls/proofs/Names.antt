-- Fields whose names rise, each of which may be absent: equal lists of them have equal values. And fields that are put over others.
use Rattle.std.proofs.Common.{◌≡◌, ◌∙◌, ℕ, List, [], ◌∷◌, ◌++◌, Option, Some, None, true, false, cond, Ordering, Less, Equal, Greater, nat_cmp, is_eq, map, subst, ap, sym, refl}
use Rattle.std.specs.Cmp.Lexicographic.{slice_cmp}
use Rattle.std.specs.BTreeMap.{is_at}
use Rattle.std.specs.Ordering.{match_ordering}
use Rattle.std.proofs.lemmas.Cmp.{nat_list_cmp_total}
use Rattle.std.proofs.lemmas.Map.Text.{is_eq-slice_cmp}
use Rattle.std.proofs.lemmas.Slice.Eq.{bytes_eq-Decides}
use Rattle.kj_value.specs.Json.{Json, object, Members, member, members_of}
use Rattle.kj_value.specs.Fields.{Pairs, field, with_field, without_field, NamesRise}
use Rattle.kube_meta.specs.Document.{optional}

-- ---- comparing names

pub one_name : (k l : List ℕ) → slice_cmp nat_cmp k l ≡ Equal → k ≡ l
one_name k l e = (bytes_eq-Decides k l).0 (sym (is_eq-slice_cmp k l) ∙ ap is_eq e)

itself : (k : List ℕ) → is_at (slice_cmp nat_cmp k) k ≡ true
itself k = is_eq-slice_cmp k k ∙ (bytes_eq-Decides k k).1 refl

less_itself : (k l : List ℕ) → slice_cmp nat_cmp k l ≡ Less → k ≡ l → ⊥
less_itself k l less same =
    let e : true ≡ false = sym (itself k) ∙ ap (λ (n : List ℕ). is_at (slice_cmp nat_cmp k) n) same ∙ ap is_eq less in cc

-- ---- rising names

abbrev pub Table : Type 0
Table = List (List ℕ × Option Json)

-- the fields that are there
abbrev pub given : Table → Pairs
given [] = []
given (t ∷ ts) = optional t.0 t.1 ++ given ts

abbrev pub names : Table → List (List ℕ)
names ts = map (λ t. t.0) ts

-- tables with the same values
abbrev pub Same : Table → Table → Type 0
Same [] [] = Unit {0}
Same [] (q ∷ t) = ⊥
Same (p ∷ s) [] = ⊥
Same (p ∷ s) (q ∷ t) = (p.1 ≡ q.1) × Same s t

head_name : (p q : List ℕ × Json) (es fs : Pairs) → p ∷ es ≡ q ∷ fs → p.0 ≡ q.0
head_name p q es fs e = let same : p ≡ q = cc in ap (λ (x : List ℕ × Json). x.0) same

head_value : (p q : List ℕ × Json) (es fs : Pairs) → p ∷ es ≡ q ∷ fs → p.1 ≡ q.1
head_value p q es fs e = let same : p ≡ q = cc in ap (λ (x : List ℕ × Json). x.1) same

tail_fields : (p q : List ℕ × Json) (es fs : Pairs) → p ∷ es ≡ q ∷ fs → es ≡ fs
tail_fields p q es fs e = cc

next_below : (n k : List ℕ) (s : Table) → slice_cmp nat_cmp n k ≡ Less → NamesRise (k ∷ names s) → NamesRise (n ∷ names s)
next_below n k [] below rise = (tt, tt)
next_below n k (q ∷ t) below rise = (nat_list_cmp_total.trans n k q.0 below rise.0, rise.1)

-- a name below all others isn't the first of their fields
not_first : (n : List ℕ) (j : Json) (rest : Pairs) (s : Table) → NamesRise (n ∷ names s) → given s ≡ (n, j) ∷ rest → ⊥
not_first n j rest [] h e = cc
not_first n j rest (p ∷ s) h e =
    by_value (not_first n j rest s (next_below n p.0 s h.0 h.1)) p.1 e
  where
    by_value : (given s ≡ (n, j) ∷ rest → ⊥) → (o : Option Json) → optional p.0 o ++ given s ≡ (n, j) ∷ rest → ⊥
    by_value more None f = more f
    by_value more (Some i) f = less_itself n p.0 h.0 (sym (head_name (p.0, i) (n, j) (given s) rest f))

one_head : (n : List ℕ) (a b : Option Json) (s t : Table) → NamesRise (n ∷ names s) → NamesRise (n ∷ names t)
    → optional n a ++ given s ≡ optional n b ++ given t → (a ≡ b) × (given s ≡ given t)
one_head n None None s t h g e = (refl, e)
one_head n None (Some j) s t h g e = absurd (not_first n j (given t) s h e)
one_head n (Some i) None s t h g e = absurd (not_first n i (given s) t g (sym e))
one_head n (Some i) (Some j) s t h g e =
    (ap Some (head_value (n, i) (n, j) (given s) (given t) e), tail_fields (n, i) (n, j) (given s) (given t) e)

head_of : (k l : List ℕ) (ks ls : List (List ℕ)) → k ∷ ks ≡ l ∷ ls → k ≡ l
head_of k l ks ls e = cc

tail_of : (k l : List ℕ) (ks ls : List (List ℕ)) → k ∷ ks ≡ l ∷ ls → ks ≡ ls
tail_of k l ks ls e = cc

pub given_one : (s t : Table) → names s ≡ names t → NamesRise (names s) → given s ≡ given t → Same s t
given_one [] [] n h e = tt
given_one [] (q ∷ t) n h e = cc
given_one (p ∷ s) [] n h e = cc
given_one (p ∷ s) (q ∷ t) n h e =
    let first : p.0 ≡ q.0 = head_of p.0 q.0 (names s) (names t) n in
    let others : names s ≡ names t = tail_of p.0 q.0 (names s) (names t) n in
    let below : NamesRise (p.0 ∷ names t) = subst (λ (ns : List (List ℕ)). NamesRise (p.0 ∷ ns)) others h in
    let renamed : optional q.0 q.1 ++ given t ≡ optional p.0 q.1 ++ given t = ap (λ (k : List ℕ). optional k q.1 ++ given t) (sym first) in
    let both = one_head p.0 p.1 q.1 s t h below (e ∙ renamed) in
    (both.0, given_one s t others h.1 both.1)

-- ---- fields over others

pub field-with : (k : List ℕ) (v : Json) (es : Pairs) → field k (with_field k v es) ≡ Some v
field-with k v [] = rw (itself k) refl
field-with k v (e ∷ es) = by_order (field-with k v es) (slice_cmp nat_cmp k e.0) refl
  where
    by_order : field k (with_field k v es) ≡ Some v → (o : Ordering) → slice_cmp nat_cmp k e.0 ≡ o
        → field k (match_ordering o ((k, v) ∷ e ∷ es) ((e.0, v) ∷ es) (e ∷ with_field k v es)) ≡ Some v
    by_order more Less q = rw (itself k) refl
    by_order more Equal q = rw q refl
    by_order more Greater q = rw q more

pub field-with_other : (k l : List ℕ) (v : Json) (es : Pairs) → is_at (slice_cmp nat_cmp k) l ≡ false → field k (with_field l v es) ≡ field k es
field-with_other k l v [] other = rw other refl
field-with_other k l v (e ∷ es) other = by_order (field-with_other k l v es other) (slice_cmp nat_cmp l e.0) refl
  where
    by_order : field k (with_field l v es) ≡ field k es → (o : Ordering) → slice_cmp nat_cmp l e.0 ≡ o
        → field k (match_ordering o ((l, v) ∷ e ∷ es) ((e.0, v) ∷ es) (e ∷ with_field l v es)) ≡ field k (e ∷ es)
    by_order more Less q = rw other refl
    by_order more Equal q =
        let apart : is_at (slice_cmp nat_cmp k) e.0 ≡ false = ap (λ (n : List ℕ). is_at (slice_cmp nat_cmp k) n) (sym (one_name l e.0 q)) ∙ other in
        rw apart refl
    by_order more Greater q = ap (λ (r : Option Json). cond (is_at (slice_cmp nat_cmp k) e.0) (Some e.1) r) more

never_there : (k : List ℕ) (e : List ℕ × Json) (es : Pairs) → slice_cmp nat_cmp k e.0 ≡ Equal → field k (e ∷ es) ≡ None → ⊥
never_there k e es q none = let some : Some e.1 ≡ None = rw q at none in cc

pub without-with : (k : List ℕ) (v : Json) (es : Pairs) → field k es ≡ None → without_field k (with_field k v es) ≡ es
without-with k v [] none = rw (itself k) refl
without-with k v (e ∷ es) none = by_order (without-with k v es) (slice_cmp nat_cmp k e.0) refl none
  where
    by_order : (field k es ≡ None → without_field k (with_field k v es) ≡ es) → (o : Ordering) → slice_cmp nat_cmp k e.0 ≡ o
        → cond (is_eq o) (Some e.1) (field k es) ≡ None
        → without_field k (match_ordering o ((k, v) ∷ e ∷ es) ((e.0, v) ∷ es) (e ∷ with_field k v es)) ≡ e ∷ es
    by_order more Less q absent = rw (itself k) refl
    by_order more Equal q absent = cc
    by_order more Greater q absent = rw q (ap (λ (r : Pairs). e ∷ r) (more absent))

-- ---- an object's fields are those of its list

member_name : (k l : List ℕ) (i j : Json) (ms ns : Members) → member k i ms ≡ member l j ns → k ≡ l
member_name k l i j ms ns e = cc

member_value : (k l : List ℕ) (i j : Json) (ms ns : Members) → member k i ms ≡ member l j ns → i ≡ j
member_value k l i j ms ns e = cc

member_rest : (k l : List ℕ) (i j : Json) (ms ns : Members) → member k i ms ≡ member l j ns → ms ≡ ns
member_rest k l i j ms ns e = cc

pub members_one : (es fs : Pairs) → members_of es ≡ members_of fs → es ≡ fs
members_one [] [] e = refl
members_one [] (f ∷ fs) e = cc
members_one (p ∷ es) [] e = cc
members_one (p ∷ es) (q ∷ fs) e =
    ap (λ (k : List ℕ). (k, p.1) ∷ es) (member_name _ _ _ _ _ _ e)
    ∙ ap (λ (j : Json). (q.0, j) ∷ es) (member_value _ _ _ _ _ _ e)
    ∙ ap (λ (r : Pairs). q ∷ r) (members_one es fs (member_rest _ _ _ _ _ _ e))

object_members : (ms ns : Members) → object ms ≡ object ns → ms ≡ ns
object_members ms ns e = cc

pub object_one : (es fs : Pairs) → object (members_of es) ≡ object (members_of fs) → es ≡ fs
object_one es fs e = members_one es fs (object_members _ _ e)
