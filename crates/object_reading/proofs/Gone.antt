-- A name that was taken out stands nowhere else.
use Rattle.std.proofs.Common.{◌≡◌, ℕ, List, [], ◌∷◌, None, Ordering, Less, Equal, Greater, cond, nat_cmp, is_eq, ap, refl, sym, subst}
use Rattle.std.specs.Cmp.Lexicographic.{slice_cmp}
use Rattle.std.proofs.lemmas.Cmp.{nat_list_cmp_total}
use Rattle.kj_value.specs.Json.{members_of}
use Rattle.kj_value.specs.Sound.{ComesFirst, AreRising}
use Rattle.kj_value.specs.Fields.{Pairs, field, without_field}
use Rattle.object_reading.proofs.Left.{one_name}

-- a name before all names is none of them
field_before : (k : List ℕ) (es : Pairs) → ComesFirst k (members_of es) → AreRising (members_of es) → field k es ≡ None
field_before k [] p h = refl
field_before k (e ∷ []) p h = rw p refl
field_before k (e ∷ f ∷ es) p h = rw p (field_before k (f ∷ es) (nat_list_cmp_total.trans k e.0 f.0 p h.0) h.2)

pub field-gone : (k : List ℕ) (es : Pairs) → AreRising (members_of es) → field k (without_field k es) ≡ None
field-gone k [] h = refl
field-gone k (e ∷ es) h = by_order (slice_cmp nat_cmp k e.0) refl (field-gone k es h.2)
  where
    by_order : (o : Ordering) → slice_cmp nat_cmp k e.0 ≡ o → field k (without_field k es) ≡ None → field k (cond (is_eq o) es (e ∷ without_field k es)) ≡ None
    by_order Less p more = rw p more
    by_order Equal p more =
        let first : ComesFirst k (members_of es) = subst (λ (n : List ℕ). ComesFirst n (members_of es)) (sym (one_name k e.0 (ap is_eq p))) h.0 in
        field_before k es first h.2
    by_order Greater p more = rw p more
