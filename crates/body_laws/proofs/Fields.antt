-- Fields by name: what was put is read back, own fields are those of the other names, and two rising lists that answer alike are one.
use Rattle.std.proofs.Common.{◌≡◌, suc, List, [], ◌∷◌, length, Bool, true, false, cond, Option, Some, None, Ordering, Less, Equal, Greater, nat_cmp, is_eq, bytes_eq, refl, ap, ap₂, sym, subst, ◌∙◌, arith}
use Rattle.std.specs.Ordering.{match_ordering, ordering_reverse}
use Rattle.std.specs.Cmp.Lexicographic.{slice_cmp}
use Rattle.std.proofs.lemmas.Cmp.{nat_list_cmp_total}
use Rattle.std.proofs.lemmas.Map.Text.{is_eq-slice_cmp}
use Rattle.std.proofs.lemmas.Slice.Eq.{bytes_eq-Decides}
use Rattle.kj_value.specs.Json.{Json, members_of}
use Rattle.kj_value.specs.Fields.{Pairs, field, with_field}
use Rattle.kj_value.specs.Sound.{ComesFirst, AreRising}
use Rattle.hub_cells.specs.Cell.{Tuple}
use Rattle.hub_cells.specs.Level.{Name, tuple_of, IsFresh, AreDistinct}
use Rattle.hub_cells.specs.Fit.{has_name}
use Rattle.body_laws.specs.Over.{put, own}
use Rattle.body_laws.specs.Body.{IsBelow, IsRising}

pub true_false : (b : Bool) → b ≡ true → b ≡ false → ⊥
true_false b p q = grind arith

some_some : {A : Type 0} (x y : A) → Some x ≡ Some y → x ≡ y
some_some x y e = cc

none_some : {A : Type 0} (x : A) → None ≡ Some x → ⊥
none_some x e = cc

pub cons_head : {A : Type 0} (x y : A) (xs ys : List A) → x ∷ xs ≡ y ∷ ys → x ≡ y
cons_head x y xs ys e = cc

pub cons_tail : {A : Type 0} (x y : A) (xs ys : List A) → x ∷ xs ≡ y ∷ ys → xs ≡ ys
cons_tail x y xs ys e = cc

-- ---- names

bytes_same : (k : Name) → bytes_eq k k ≡ true
bytes_same k = (bytes_eq-Decides k k).1 refl

bytes_other : (k n : Name) → (k ≡ n → ⊥) → bytes_eq k n ≡ false
bytes_other k n h = by_answer (bytes_eq k n) refl
  where
    by_answer : (b : Bool) → bytes_eq k n ≡ b → b ≡ false
    by_answer true q = absurd (h ((bytes_eq-Decides k n).0 q))
    by_answer false q = refl

at_same : (k : Name) → is_eq (slice_cmp nat_cmp k k) ≡ true
at_same k = is_eq-slice_cmp k k ∙ bytes_same k

at_other : (k n : Name) → (k ≡ n → ⊥) → is_eq (slice_cmp nat_cmp k n) ≡ false
at_other k n h = is_eq-slice_cmp k n ∙ bytes_other k n h

equal_same : (k n : Name) → slice_cmp nat_cmp k n ≡ Equal → k ≡ n
equal_same k n e = (bytes_eq-Decides k n).0 (sym (is_eq-slice_cmp k n) ∙ ap is_eq e)

-- ---- one field

field_same : (k : Name) (v : Json) (es : Pairs) → field k (with_field k v es) ≡ Some v
field_same k v [] = rw (at_same k) refl
field_same k v (e ∷ es) = by_order (field_same k v es) (slice_cmp nat_cmp k e.0) refl
  where
    by_order : field k (with_field k v es) ≡ Some v → (o : Ordering) → slice_cmp nat_cmp k e.0 ≡ o → field k (match_ordering o ((k, v) ∷ e ∷ es) ((e.0, v) ∷ es) (e ∷ with_field k v es)) ≡ Some v
    by_order later Less q = rw (at_same k) refl
    by_order later Equal q = rw q refl
    by_order later Greater q = rw q later

field_other : (k n : Name) (v : Json) (es : Pairs) → (k ≡ n → ⊥) → field k (with_field n v es) ≡ field k es
field_other k n v [] h = rw (at_other k n h) refl
field_other k n v (e ∷ es) h = by_order (field_other k n v es h) (slice_cmp nat_cmp n e.0) refl
  where
    by_order : field k (with_field n v es) ≡ field k es → (o : Ordering) → slice_cmp nat_cmp n e.0 ≡ o → field k (match_ordering o ((n, v) ∷ e ∷ es) ((e.0, v) ∷ es) (e ∷ with_field n v es)) ≡ field k (e ∷ es)
    by_order later Less q = rw (at_other k n h) refl
    by_order later Equal q = rw (at_other k e.0 (λ p. h (p ∙ sym (equal_same n e.0 q)))) refl
    by_order later Greater q = ap (λ (o : Option Json). cond (is_eq (slice_cmp nat_cmp k e.0)) (Some e.1) o) later

field_first : (p : Name × Json) (ps : Pairs) → field p.0 (p ∷ ps) ≡ Some p.1
field_first p ps = rw (at_same p.0) refl

field_later : (k : Name) (p : Name × Json) (ps : Pairs) → (k ≡ p.0 → ⊥) → field k (p ∷ ps) ≡ field k ps
field_later k p ps h = rw (at_other k p.0 h) refl

-- ---- what is put is read back

put_fresh : (k : Name) (ns : List Name) (os : Tuple) (ps : Pairs) → IsFresh k ns → field k (put ns os ps) ≡ field k ps
put_fresh k [] os ps f = refl
put_fresh k (n ∷ ns) [] ps f = refl
put_fresh k (n ∷ ns) (None ∷ os) ps f = put_fresh k ns os ps f.1
put_fresh k (n ∷ ns) (Some j ∷ os) ps f = put_fresh k ns os (with_field n j ps) f.1 ∙ field_other k n j ps f.0

fresh_from : (k : Name) (ns : List Name) → has_name k ns ≡ false → IsFresh k ns
fresh_from k [] h = tt
fresh_from k (n ∷ ns) h =
    (λ e. true_false (bytes_eq k n) ((bytes_eq-Decides k n).1 e) (grind (arith, h)), fresh_from k ns (grind (arith, h)))

pub put_other : (k : Name) (ns : List Name) (os : Tuple) (ps : Pairs) → has_name k ns ≡ false → field k (put ns os ps) ≡ field k ps
put_other k ns os ps h = put_fresh k ns os ps (fresh_from k ns h)

abbrev AreAbsent : List Name → Pairs → Type 0
AreAbsent [] ps = Unit {0}
AreAbsent (n ∷ ns) ps = (field n ps ≡ None) × AreAbsent ns ps

absent_with : (n : Name) (j : Json) (ns : List Name) (ps : Pairs) → IsFresh n ns → AreAbsent ns ps → AreAbsent ns (with_field n j ps)
absent_with n j [] ps f a = tt
absent_with n j (m ∷ ns) ps f a = (field_other m n j ps (λ e. f.0 (sym e)) ∙ a.0, absent_with n j ns ps f.1 a.1)

put_back : (ns : List Name) (os : Tuple) (ps : Pairs) → AreDistinct ns → AreAbsent ns ps → length os ≡ length ns → tuple_of ns (put ns os ps) ≡ os
put_back [] [] ps d a e = refl
put_back [] (o ∷ os) ps d a e = absurd (omega (arith, e))
put_back (n ∷ ns) [] ps d a e = absurd (omega (arith, e))
put_back (n ∷ ns) (None ∷ os) ps d a e =
    ap₂ (λ (q : Option Json) (qs : Tuple). q ∷ qs) (put_fresh n ns os ps d.0 ∙ a.0) (put_back ns os ps d.1 a.1 (omega (arith, e)))
put_back (n ∷ ns) (Some j ∷ os) ps d a e =
    ap₂ (λ (q : Option Json) (qs : Tuple). q ∷ qs) (put_fresh n ns os (with_field n j ps) d.0 ∙ field_same n j ps) (put_back ns os (with_field n j ps) d.1 (absent_with n j ns ps d.0 a.1) (omega (arith, e)))

pub tuple_length : (ns : List Name) (x : Pairs) → length (tuple_of ns x) ≡ length ns
tuple_length [] x = refl
tuple_length (n ∷ ns) x = ap suc (tuple_length ns x)

-- ---- own fields

named_same : (k n : Name) (ns : List Name) → k ≡ n → has_name k ns ≡ has_name n ns
named_same k n ns e = ap (λ (m : Name). has_name m ns) e

no_field : (b : Bool) → field {V = Json} [] [] ≡ cond b None (field {V = Json} [] [])
no_field true = refl
no_field false = refl

-- a name of the level is no own field's, and any other is as it was
pub field_own : (k : Name) (ns : List Name) (ps : Pairs) → field k (own ns ps) ≡ cond (has_name k ns) None (field k ps)
field_own k ns [] = no_field (has_name k ns)
field_own k ns (p ∷ ps) = by_name (bytes_eq k p.0) refl (has_name p.0 ns) refl (field_own k ns ps)
  where
    by_name : (b : Bool) → bytes_eq k p.0 ≡ b → (c : Bool) → has_name p.0 ns ≡ c → field k (own ns ps) ≡ cond (has_name k ns) None (field k ps) → field k (cond c (own ns ps) (with_field p.0 p.1 (own ns ps))) ≡ cond (has_name k ns) None (field k (p ∷ ps))
    by_name true q true r later =
        let e = (bytes_eq-Decides k p.0).0 q in
        let t : has_name k ns ≡ true = named_same k p.0 ns e ∙ r in
        later ∙ ap (λ (b : Bool). cond b None (field k ps)) t ∙ ap (λ (b : Bool). cond b None (field k (p ∷ ps))) (sym t)
    by_name true q false r later =
        let e = (bytes_eq-Decides k p.0).0 q in
        let t : has_name k ns ≡ false = named_same k p.0 ns e ∙ r in
        let here : field k (with_field p.0 p.1 (own ns ps)) ≡ Some p.1 = ap (λ (m : Name). field m (with_field p.0 p.1 (own ns ps))) e ∙ field_same p.0 p.1 (own ns ps) in
        let there : field k (p ∷ ps) ≡ Some p.1 = ap (λ (m : Name). field m (p ∷ ps)) e ∙ field_first p ps in
        here ∙ sym there ∙ ap (λ (b : Bool). cond b None (field k (p ∷ ps))) (sym t)
    by_name false q true r later =
        let apart : k ≡ p.0 → ⊥ = λ i. true_false (bytes_eq k p.0) ((bytes_eq-Decides k p.0).1 i) q in
        later ∙ ap (λ (o : Option Json). cond (has_name k ns) None o) (sym (field_later k p ps apart))
    by_name false q false r later =
        let apart : k ≡ p.0 → ⊥ = λ i. true_false (bytes_eq k p.0) ((bytes_eq-Decides k p.0).1 i) q in
        field_other k p.0 p.1 (own ns ps) apart ∙ later ∙ ap (λ (o : Option Json). cond (has_name k ns) None o) (sym (field_later k p ps apart))

pub own_named : (k : Name) (ns : List Name) (ps : Pairs) → has_name k ns ≡ true → field k (own ns ps) ≡ None
own_named k ns ps h = field_own k ns ps ∙ ap (λ (b : Bool). cond b None (field k ps)) h

pub own_other : (k : Name) (ns : List Name) (ps : Pairs) → has_name k ns ≡ false → field k (own ns ps) ≡ field k ps
own_other k ns ps h = field_own k ns ps ∙ ap (λ (b : Bool). cond b None (field k ps)) h

has_more : (k n : Name) (ns : List Name) → has_name k ns ≡ true → has_name k (n ∷ ns) ≡ true
has_more k n ns h = grind (arith, h)

own_absent : (ms ns : List Name) (ps : Pairs) → ((k : Name) → has_name k ns ≡ true → has_name k ms ≡ true) → AreAbsent ns (own ms ps)
own_absent ms [] ps h = tt
own_absent ms (n ∷ ns) ps h =
    (own_named n ms ps (h n (rw (bytes_same n) refl)), own_absent ms ns ps (λ k i. h k (has_more k n ns i)))

-- the values of a level are read back beside own fields
pub put_own_back : (ns : List Name) (os : Tuple) (ps : Pairs) → AreDistinct ns → length os ≡ length ns → tuple_of ns (put ns os (own ns ps)) ≡ os
put_own_back ns os ps d e = put_back ns os (own ns ps) d (own_absent ns ns ps (λ k i. i)) e

-- ---- rising lists

less_apart : (k n : Name) → slice_cmp nat_cmp k n ≡ Less → k ≡ n → ⊥
less_apart k n l e = true_false (is_eq (slice_cmp nat_cmp k n)) (ap (λ (m : Name). is_eq (slice_cmp nat_cmp k m)) (sym e) ∙ at_same k) (ap is_eq l)

greater_less : (k l : Name) → slice_cmp nat_cmp k l ≡ Greater → slice_cmp nat_cmp l k ≡ Less
greater_less k l e = nat_list_cmp_total.antisymm l k ∙ ap ordering_reverse e

below_all : (k n : Name) (ps : Pairs) → slice_cmp nat_cmp k n ≡ Less → IsBelow n ps → IsBelow k ps
below_all k n [] l b = tt
below_all k n (p ∷ ps) l b = (nat_list_cmp_total.trans k n p.0 l b.0, below_all k n ps l b.1)

field_below : (k : Name) (ps : Pairs) → IsBelow k ps → field k ps ≡ None
field_below k [] b = refl
field_below k (p ∷ ps) b = rw b.0 (field_below k ps b.1)

-- two rising lists that answer alike are one
pub same_rising : (ps qs : Pairs) → IsRising ps → IsRising qs → ((k : Name) → field k ps ≡ field k qs) → ps ≡ qs
same_rising [] [] r s h = refl
same_rising [] (q ∷ qs) r s h = absurd (none_some q.1 (h q.0 ∙ field_first q qs))
same_rising (p ∷ ps) [] r s h = absurd (none_some p.1 (sym (h p.0) ∙ field_first p ps))
same_rising (p ∷ ps) (q ∷ qs) r s h = by_order (same_rising ps qs r.1 s.1) (slice_cmp nat_cmp p.0 q.0) refl
  where
    by_name : (e : p.0 ≡ q.0) (k : Name) (b : Bool) → bytes_eq k p.0 ≡ b → field k ps ≡ field k qs
    by_name e k true t =
        let is : k ≡ p.0 = (bytes_eq-Decides k p.0).0 t in
        field_below k ps (subst (λ (m : Name). IsBelow m ps) (sym is) r.0) ∙ sym (field_below k qs (subst (λ (m : Name). IsBelow m qs) (sym (is ∙ e)) s.0))
    by_name e k false t =
        let apart : k ≡ p.0 → ⊥ = λ i. true_false (bytes_eq k p.0) ((bytes_eq-Decides k p.0).1 i) t in
        sym (field_later k p ps apart) ∙ h k ∙ field_later k q qs (λ i. apart (i ∙ sym e))

    by_order : (((k : Name) → field k ps ≡ field k qs) → ps ≡ qs) → (o : Ordering) → slice_cmp nat_cmp p.0 q.0 ≡ o → p ∷ ps ≡ q ∷ qs
    by_order later Less l =
        absurd (none_some p.1 (sym (field_below p.0 (q ∷ qs) (l, below_all p.0 q.0 qs l s.0)) ∙ sym (h p.0) ∙ field_first p ps))
    by_order later Equal l =
        let e = equal_same p.0 q.0 l in
        let v : p.1 ≡ q.1 = some_some p.1 q.1 (sym (field_first p ps) ∙ h p.0 ∙ ap (λ (k : Name). field k (q ∷ qs)) e ∙ field_first q qs) in
        ap₂ (λ (x : Name × Json) (xs : Pairs). x ∷ xs) (ap₂ (λ (k : Name) (j : Json). (k, j)) e v) (later (λ k. by_name e k (bytes_eq k p.0) refl))
    by_order later Greater l =
        let g = greater_less p.0 q.0 l in
        absurd (none_some q.1 (sym (field_below q.0 (p ∷ ps) (g, below_all q.0 p.0 ps g r.0)) ∙ h q.0 ∙ field_first q qs))

below_with : (l n : Name) (j : Json) (ps : Pairs) → slice_cmp nat_cmp l n ≡ Less → IsBelow l ps → IsBelow l (with_field n j ps)
below_with l n j [] h b = (h, tt)
below_with l n j (p ∷ ps) h b = by_order (below_with l n j ps h b.1) (slice_cmp nat_cmp n p.0)
  where
    by_order : IsBelow l (with_field n j ps) → (o : Ordering) → IsBelow l (match_ordering o ((n, j) ∷ p ∷ ps) ((p.0, j) ∷ ps) (p ∷ with_field n j ps))
    by_order later Less = (h, b)
    by_order later Equal = b
    by_order later Greater = (b.0, later)

rising_with : (n : Name) (j : Json) (ps : Pairs) → IsRising ps → IsRising (with_field n j ps)
rising_with n j [] r = (tt, tt)
rising_with n j (p ∷ ps) r = by_order (rising_with n j ps r.1) (slice_cmp nat_cmp n p.0) refl
  where
    by_order : IsRising (with_field n j ps) → (o : Ordering) → slice_cmp nat_cmp n p.0 ≡ o → IsRising (match_ordering o ((n, j) ∷ p ∷ ps) ((p.0, j) ∷ ps) (p ∷ with_field n j ps))
    by_order later Less q = ((q, below_all n p.0 ps q r.0), r)
    by_order later Equal q = r
    by_order later Greater q = (below_with p.0 n j ps (greater_less n p.0 q) r.0, later)

pub rising_put : (ns : List Name) (os : Tuple) (ps : Pairs) → IsRising ps → IsRising (put ns os ps)
rising_put [] os ps r = r
rising_put (n ∷ ns) [] ps r = r
rising_put (n ∷ ns) (None ∷ os) ps r = rising_put ns os ps r
rising_put (n ∷ ns) (Some j ∷ os) ps r = rising_put ns os (with_field n j ps) (rising_with n j ps r)

pub rising_own : (ns : List Name) (ps : Pairs) → IsRising (own ns ps)
rising_own ns [] = tt
rising_own ns (p ∷ ps) = by_test (has_name p.0 ns) (rising_own ns ps)
  where
    by_test : (b : Bool) → IsRising (own ns ps) → IsRising (cond b (own ns ps) (with_field p.0 p.1 (own ns ps)))
    by_test true r = r
    by_test false r = rising_with p.0 p.1 (own ns ps) r

below_first : (k : Name) (x : Pairs) → ComesFirst k (members_of x) → IsRising x → IsBelow k x
below_first k [] c r = tt
below_first k (p ∷ ps) c r = (c, below_all k p.0 ps c r.0)

pub rising_fields : (x : Pairs) → AreRising (members_of x) → IsRising x
rising_fields [] h = tt
rising_fields (p ∷ ps) h = (below_first p.0 ps h.0 (rising_fields ps h.2), rising_fields ps h.2)

-- ---- a level's values and its own fields are all of a body

at_name : (k : Name) (ns : List Name) (ps qs : Pairs) → has_name k ns ≡ true → tuple_of ns ps ≡ tuple_of ns qs → field k ps ≡ field k qs
at_name k [] ps qs h e = absurd (true_false false h refl)
at_name k (n ∷ ns) ps qs h e = by_name (λ i. at_name k ns ps qs i (cons_tail (field n ps) (field n qs) (tuple_of ns ps) (tuple_of ns qs) e)) (bytes_eq k n) refl
  where
    by_name : (has_name k ns ≡ true → field k ps ≡ field k qs) → (b : Bool) → bytes_eq k n ≡ b → field k ps ≡ field k qs
    by_name later true q =
        subst (λ (m : Name). field m ps ≡ field m qs) (sym ((bytes_eq-Decides k n).0 q)) (cons_head (field n ps) (field n qs) (tuple_of ns ps) (tuple_of ns qs) e)
    by_name later false q = later (grind (arith, h, q))

pub whole_again : (ns : List Name) (os : Tuple) (ps x : Pairs) → AreDistinct ns → IsRising x → os ≡ tuple_of ns x → own ns ps ≡ own ns x → put ns os (own ns ps) ≡ x
whole_again ns os ps x d r e f =
    same_rising (put ns os (own ns ps)) x (rising_put ns os (own ns ps) (rising_own ns ps)) r (λ k. by_test k (has_name k ns) refl)
  where
    read : tuple_of ns (put ns os (own ns ps)) ≡ tuple_of ns x
    read = put_own_back ns os ps d (ap length e ∙ tuple_length ns x) ∙ e

    by_test : (k : Name) (b : Bool) → has_name k ns ≡ b → field k (put ns os (own ns ps)) ≡ field k x
    by_test k true q = at_name k ns (put ns os (own ns ps)) x q read
    by_test k false q =
        put_other k ns os (own ns ps) q ∙ ap (λ (qs : Pairs). field k qs) f ∙ own_other k ns x q

-- own fields of own fields are the same ones
pub own_again : (ns : List Name) (ps : Pairs) → own ns (own ns ps) ≡ own ns ps
own_again ns ps =
    same_rising (own ns (own ns ps)) (own ns ps) (rising_own ns (own ns ps)) (rising_own ns ps) (λ k. by_test k (has_name k ns) refl)
  where
    by_test : (k : Name) (b : Bool) → has_name k ns ≡ b → field k (own ns (own ns ps)) ≡ field k (own ns ps)
    by_test k true q = own_named k ns (own ns ps) q ∙ sym (own_named k ns ps q)
    by_test k false q = own_other k ns (own ns ps) q

-- beside a level's values stand the own fields that were put there
pub own_put : (ns : List Name) (os : Tuple) (ps : Pairs) → own ns (put ns os (own ns ps)) ≡ own ns ps
own_put ns os ps =
    same_rising (own ns (put ns os (own ns ps))) (own ns ps) (rising_own ns (put ns os (own ns ps))) (rising_own ns ps) (λ k. by_test k (has_name k ns) refl)
  where
    by_test : (k : Name) (b : Bool) → has_name k ns ≡ b → field k (own ns (put ns os (own ns ps))) ≡ field k (own ns ps)
    by_test k true q = own_named k ns (put ns os (own ns ps)) q ∙ sym (own_named k ns ps q)
    by_test k false q = own_other k ns (put ns os (own ns ps)) q ∙ put_other k ns os (own ns ps) q
