-- Maps by name: what stands at a name after a change, and that two maps which answer alike are one.
use Rattle.std.proofs.Common.{◌≡◌, List, [], ◌∷◌, ◌++◌, Bool, true, false, cond, ◌⊎◌, inl, inr, Option, Some, None, Ordering, Less, Equal, Greater, nat_cmp, is_eq, bytes_eq, refl, ap, ap₂, sym, subst, ◌∙◌, arith}
use Rattle.std.specs.Ordering.{match_ordering, ordering_reverse}
use Rattle.std.specs.Cmp.Lexicographic.{slice_cmp}
use Rattle.std.specs.Map.{keys_of}
use Rattle.std.proofs.lemmas.Cmp.{nat_list_cmp_total}
use Rattle.std.proofs.lemmas.Slice.Eq.{bytes_eq-Decides}
use Rattle.kj_value.specs.Fields.{field, with_field, without_field, IsBelowFirst, AreInOrder}
use Rattle.hub_cells.specs.Level.{Name}
use Rattle.keep_laws.proofs.Fields.{at_same, at_other, equal_same}

none_some : {A : Type 0} (x : A) → None ≡ Some x → ⊥
none_some x e = cc

some_some : {A : Type 0} (x y : A) → Some x ≡ Some y → x ≡ y
some_some x y e = cc

pub name_cases : (k n : Name) → (k ≡ n) ⊎ (k ≡ n → ⊥)
name_cases k n = by_answer (bytes_eq k n) refl
  where
    lies : (b : Bool) → b ≡ true → b ≡ false → ⊥
    lies b p q = grind arith

    by_answer : (b : Bool) → bytes_eq k n ≡ b → (k ≡ n) ⊎ (k ≡ n → ⊥)
    by_answer true q = inl ((bytes_eq-Decides k n).0 q)
    by_answer false q = inr (λ e. lies (bytes_eq k n) ((bytes_eq-Decides k n).1 e) q)

greater_less : (k l : Name) → slice_cmp nat_cmp k l ≡ Greater → slice_cmp nat_cmp l k ≡ Less
greater_less k l e = nat_list_cmp_total.antisymm l k ∙ ap ordering_reverse e

less_greater : (k l : Name) → slice_cmp nat_cmp k l ≡ Less → slice_cmp nat_cmp l k ≡ Greater
less_greater k l e = nat_list_cmp_total.antisymm l k ∙ ap ordering_reverse e

-- ---- the first names of a map

field_first : {V : Type 0} (e : Name × V) (es : List (Name × V)) → field e.0 (e ∷ es) ≡ Some e.1
field_first e es = rw (at_same e.0) refl

field_later : {V : Type 0} (k : Name) (e : Name × V) (es : List (Name × V)) → (k ≡ e.0 → ⊥) → field k (e ∷ es) ≡ field k es
field_later k e es h = rw (at_other k e.0 h) refl

below_tail : {V : Type 0} (l : Name) (e : Name × V) (es : List (Name × V)) → slice_cmp nat_cmp l e.0 ≡ Less → AreInOrder (e ∷ es) → IsBelowFirst l (keys_of es)
below_tail l e [] p h = tt
below_tail l e (f ∷ es) p h = nat_list_cmp_total.trans l e.0 f.0 p h.0

field_below : {V : Type 0} (k : Name) (es : List (Name × V)) → IsBelowFirst k (keys_of es) → AreInOrder es → field k es ≡ None
field_below k [] b h = refl
field_below k (e ∷ es) b h =
    let l : slice_cmp nat_cmp k e.0 ≡ Less = b in
    rw l (field_below k es (below_tail k e es b h) h.1)

-- two maps that answer alike are one
pub same_fields : {V : Type 0} (ps qs : List (Name × V)) → AreInOrder ps → AreInOrder qs → ((k : Name) → field k ps ≡ field k qs) → ps ≡ qs
same_fields [] [] r s h = refl
same_fields [] (q ∷ qs) r s h = absurd (none_some q.1 (h q.0 ∙ field_first q qs))
same_fields (p ∷ ps) [] r s h = absurd (none_some p.1 (sym (h p.0) ∙ field_first p ps))
same_fields {V} (p ∷ ps) (q ∷ qs) r s h = by_order (same_fields ps qs r.1 s.1) (slice_cmp nat_cmp p.0 q.0) refl
  where
    at_name : (e : p.0 ≡ q.0) (k : Name) → (k ≡ p.0) ⊎ (k ≡ p.0 → ⊥) → field k ps ≡ field k qs
    at_name e k (inl is) =
        field_below k ps (subst (λ (m : Name). IsBelowFirst m (keys_of ps)) (sym is) r.0) r.1 ∙ sym (field_below k qs (subst (λ (m : Name). IsBelowFirst m (keys_of qs)) (sym (is ∙ e)) s.0) s.1)
    at_name e k (inr apart) = sym (field_later k p ps apart) ∙ h k ∙ field_later k q qs (λ i. apart (i ∙ sym e))

    by_order : (((k : Name) → field k ps ≡ field k qs) → ps ≡ qs) → (o : Ordering) → slice_cmp nat_cmp p.0 q.0 ≡ o → p ∷ ps ≡ q ∷ qs
    by_order later Less l = absurd (none_some p.1 (sym (field_below p.0 (q ∷ qs) l s) ∙ sym (h p.0) ∙ field_first p ps))
    by_order later Equal l =
        let e = equal_same p.0 q.0 l in
        let v : p.1 ≡ q.1 = some_some p.1 q.1 (sym (field_first p ps) ∙ h p.0 ∙ ap (λ (k : Name). field k (q ∷ qs)) e ∙ field_first q qs) in
        ap₂ (λ (x : Name × V) (xs : List (Name × V)). x ∷ xs) (ap₂ (λ (k : Name) (w : V). (k, w)) e v) (later (λ k. at_name e k (name_cases k p.0)))
    by_order later Greater l =
        absurd (none_some q.1 (sym (field_below q.0 (p ∷ ps) (greater_less p.0 q.0 l) r) ∙ h q.0 ∙ field_first q qs))

-- ---- a name put in, or taken out

pub field_same : {V : Type 0} (k : Name) (v : V) (es : List (Name × V)) → field k (with_field k v es) ≡ Some v
field_same k v [] = rw (at_same k) refl
field_same {V} k v (e ∷ es) = by_order (field_same k v es) (slice_cmp nat_cmp k e.0) refl
  where
    by_order : field k (with_field k v es) ≡ Some v → (o : Ordering) → slice_cmp nat_cmp k e.0 ≡ o → field k (match_ordering o ((k, v) ∷ e ∷ es) ((e.0, v) ∷ es) (e ∷ with_field k v es)) ≡ Some v
    by_order later Less q = rw (at_same k) refl
    by_order later Equal q = rw q refl
    by_order later Greater q = rw q later

pub field_other : {V : Type 0} (k n : Name) (v : V) (es : List (Name × V)) → (k ≡ n → ⊥) → field k (with_field n v es) ≡ field k es
field_other k n v [] h = rw (at_other k n h) refl
field_other {V} k n v (e ∷ es) h = by_order (field_other k n v es h) (slice_cmp nat_cmp n e.0) refl
  where
    by_order : field k (with_field n v es) ≡ field k es → (o : Ordering) → slice_cmp nat_cmp n e.0 ≡ o → field k (match_ordering o ((n, v) ∷ e ∷ es) ((e.0, v) ∷ es) (e ∷ with_field n v es)) ≡ field k (e ∷ es)
    by_order later Less q = rw (at_other k n h) refl
    by_order later Equal q = rw (at_other k e.0 (λ p. h (p ∙ sym (equal_same n e.0 q)))) refl
    by_order later Greater q = ap (λ (o : Option V). cond (is_eq (slice_cmp nat_cmp k e.0)) (Some e.1) o) later

pub field_gone : {V : Type 0} (k : Name) (es : List (Name × V)) → AreInOrder es → field k (without_field k es) ≡ None
field_gone k [] h = refl
field_gone {V} k (e ∷ es) h = by_order (field_gone k es h.1) (slice_cmp nat_cmp k e.0) refl
  where
    by_order : field k (without_field k es) ≡ None → (o : Ordering) → slice_cmp nat_cmp k e.0 ≡ o → field k (cond (is_eq o) es (e ∷ without_field k es)) ≡ None
    by_order later Less q = rw q later
    by_order later Equal q = field_below k es (subst (λ (m : Name). IsBelowFirst m (keys_of es)) (sym (equal_same k e.0 q)) h.0) h.1
    by_order later Greater q = rw q later

pub field_stays : {V : Type 0} (k n : Name) (es : List (Name × V)) → (k ≡ n → ⊥) → field k (without_field n es) ≡ field k es
field_stays k n [] h = refl
field_stays {V} k n (e ∷ es) h = by_order (field_stays k n es h) (slice_cmp nat_cmp n e.0) refl
  where
    by_order : field k (without_field n es) ≡ field k es → (o : Ordering) → slice_cmp nat_cmp n e.0 ≡ o → field k (cond (is_eq o) es (e ∷ without_field n es)) ≡ field k (e ∷ es)
    by_order later Less q = ap (λ (o : Option V). cond (is_eq (slice_cmp nat_cmp k e.0)) (Some e.1) o) later
    by_order later Equal q = sym (field_later k e es (λ p. h (p ∙ sym (equal_same n e.0 q))))
    by_order later Greater q = ap (λ (o : Option V). cond (is_eq (slice_cmp nat_cmp k e.0)) (Some e.1) o) later

-- ---- a name behind those of a map

pub push_same : {V : Type 0} (n : Name) (v : V) (es : List (Name × V)) → field n es ≡ None → field n (es ++ (n, v) ∷ []) ≡ Some v
push_same n v [] h = rw (at_same n) refl
push_same {V} n v (e ∷ es) h = by_test (is_eq (slice_cmp nat_cmp n e.0)) h (push_same n v es)
  where
    by_test : (b : Bool) → cond b (Some e.1) (field n es) ≡ None → (field n es ≡ None → field n (es ++ (n, v) ∷ []) ≡ Some v) → cond b (Some e.1) (field n (es ++ (n, v) ∷ [])) ≡ Some v
    by_test true q later = absurd (none_some e.1 (sym q))
    by_test false q later = later q

pub push_other : {V : Type 0} (k n : Name) (v : V) (es : List (Name × V)) → (k ≡ n → ⊥) → field k (es ++ (n, v) ∷ []) ≡ field k es
push_other k n v [] h = rw (at_other k n h) refl
push_other {V} k n v (e ∷ es) h = ap (λ (o : Option V). cond (is_eq (slice_cmp nat_cmp k e.0)) (Some e.1) o) (push_other k n v es h)

before_next : {V : Type 0} (l : Name) (es : List (Name × V)) (e : Name × V) (rest : List (Name × V)) → IsBelowFirst l (keys_of (es ++ e ∷ rest)) → AreInOrder (es ++ e ∷ rest) → slice_cmp nat_cmp l e.0 ≡ Less
before_next l [] e rest p h = p
before_next l (f ∷ es) e rest p h = nat_list_cmp_total.trans l f.0 e.0 p (before_next f.0 es e rest h.0 h.1)

pub fresh_next : {V : Type 0} (es : List (Name × V)) (e : Name × V) (rest : List (Name × V)) → AreInOrder (es ++ e ∷ rest) → field e.0 es ≡ None
fresh_next [] e rest h = refl
fresh_next (f ∷ es) e rest h =
    let above : slice_cmp nat_cmp e.0 f.0 ≡ Greater = less_greater f.0 e.0 (before_next f.0 es e rest h.0 h.1) in
    rw above (fresh_next es e rest h.1)

-- what comes before a name stands in front of it
pub in_front : {V : Type 0} (j : Name) (es : List (Name × V)) (e : Name × V) (rest : List (Name × V)) → AreInOrder (es ++ e ∷ rest) → slice_cmp nat_cmp j e.0 ≡ Less → field j (es ++ e ∷ rest) ≡ field j es
in_front j [] e rest h l = field_below j (e ∷ rest) l h
in_front {V} j (f ∷ es) e rest h l = ap (λ (o : Option V). cond (is_eq (slice_cmp nat_cmp j f.0)) (Some f.1) o) (in_front j es e rest h.1 l)

pub field_there : {V : Type 0} (es : List (Name × V)) (e : Name × V) (rest : List (Name × V)) → AreInOrder (es ++ e ∷ rest) → field e.0 (es ++ e ∷ rest) ≡ Some e.1
field_there [] e rest h = field_first e rest
field_there (f ∷ es) e rest h =
    let above : slice_cmp nat_cmp e.0 f.0 ≡ Greater = less_greater f.0 e.0 (before_next f.0 es e rest h.0 h.1) in
    rw above (field_there es e rest h.1)

pub less_self : (k : Name) → slice_cmp nat_cmp k k ≡ Less → ⊥
less_self k l = lies (sym (at_same k) ∙ ap is_eq l)
  where
    lies : true ≡ false → ⊥
    lies e = cc

-- a name behind those of a map goes last
pub with_last : {V : Type 0} (es : List (Name × V)) (n : Name) (v : V) (rest : List (Name × V)) → AreInOrder (es ++ (n, v) ∷ rest) → with_field n v es ≡ es ++ (n, v) ∷ []
with_last [] n v rest h = refl
with_last {V} (f ∷ es) n v rest h =
    let above : slice_cmp nat_cmp n f.0 ≡ Greater = less_greater f.0 n (before_next f.0 es (n, v) rest h.0 h.1) in
    rw above (ap (λ (r : List (Name × V)). f ∷ r) (with_last es n v rest h.1))
