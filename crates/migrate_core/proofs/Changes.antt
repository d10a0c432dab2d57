-- A move of the plan changes the first slot with a property.
use Rattle.std.proofs.Common.{◌≡◌, ℕ, ◌+◌, ◌<◌, zero, suc, List, [], ◌∷◌, None, Some, Bool, true, false, ap, refl, sym, ◌∙◌, nat_eq, get_or, length, set, arith}
use Rattle.std.specs.Prelude.{◌||◌, if◌then◌else◌}
use Rattle.std.specs.List.{list_any, position_from}
use Rattle.std.proofs.lemmas.Iterator.Adapters.{position_from-zero}
use Rattle.std.proofs.lemmas.List.Quantifiers.{position-Some}
use Rattle.kube_meta.specs.Plan.{Span, Slot, Free, Held, Loose, changed, span_of, hold_loose, hold_free, is_loose, is_free}
use Rattle.migrate_core.specs.inner.Slots.{is_held_by, held_as, held_span, turned}

-- the first element with a property becomes another
abbrev pub first_changed : (Slot → Bool) → (Slot → Slot) → List Slot → List Slot
first_changed p f [] = []
first_changed p f (s ∷ ss) = if p s then f s ∷ ss else s ∷ first_changed p f ss

set-first : (p : Slot → Bool) (f : Slot → Slot) (ss : List Slot) (i : ℕ) (d : Slot) → i < length ss → p (get_or ss i d) ≡ true → ((k : ℕ) → k < i → p (get_or ss k d) ≡ false)
    → set ss i (f (get_or ss i d)) ≡ first_changed p f ss
set-first p f [] i d lt here before = absurd (omega arith)
set-first p f (s ∷ ss) zero d lt here before = rw here refl
set-first p f (s ∷ ss) (suc i) d lt here before =
    let first : p s ≡ false = before 0 (omega arith) in
    rw first (ap (λ (t : List Slot). s ∷ t) (set-first p f ss i d (omega arith) here (λ k q. before (suc k) (omega arith))))

-- the first one stands at a place: it is there, and to change it is to set it
pub record Sits (p : Slot → Bool) (ss : List Slot) (i : ℕ) : Type 0 where
  pub within : i < length ss
  pub here : (d : Slot) → p (get_or ss i d) ≡ true
  pub set : (f : Slot → Slot) (d : Slot) → set ss i (f (get_or ss i d)) ≡ first_changed p f ss

pub sits : (p : Slot → Bool) (ss : List Slot) (i : ℕ) → position_from p 0 ss ≡ Some i → Sits p ss i
sits p ss i h = record {
  within = (found Free).0;
  here = λ d. (found d).1;
  set = λ f d. set-first p f ss i d (found d).0 (found d).1 (found d).2;
}
  where
    found : (d : Slot) → (i < length ss) × (p (get_or ss i d) ≡ true) × ((k : ℕ) → k < i → p (get_or ss k d) ≡ false)
    found d = position-Some p ss i d (position_from-zero p ss ∙ h)

-- none has the property
pub none_has : (p : Slot → Bool) (n : ℕ) (ss : List Slot) → position_from p n ss ≡ None → list_any p ss ≡ false
none_has p n [] h = refl
none_has p n (s ∷ ss) h = by (p s) h (none_has p (n + 1) ss)
  where
    by : (b : Bool) → (if b then Some n else position_from p (n + 1) ss) ≡ None → (position_from p (n + 1) ss ≡ None → list_any p ss ≡ false) → (b || list_any p ss) ≡ false
    by true h more = cc
    by false h more = more h

pub some_has : (p : Slot → Bool) (n i : ℕ) (ss : List Slot) → position_from p n ss ≡ Some i → list_any p ss ≡ true
some_has p n i [] h = cc
some_has p n i (s ∷ ss) h = by (p s) h (some_has p (n + 1) i ss)
  where
    by : (b : Bool) → (if b then Some n else position_from p (n + 1) ss) ≡ Some i → (position_from p (n + 1) ss ≡ Some i → list_any p ss ≡ true) → (b || list_any p ss) ≡ true
    by true h more = refl
    by false h more = more h

pub first_changed-none : (p : Slot → Bool) (f : Slot → Slot) (ss : List Slot) → list_any p ss ≡ false → first_changed p f ss ≡ ss
first_changed-none p f [] h = refl
first_changed-none p f (s ∷ ss) h = by (p s) h (first_changed-none p f ss)
  where
    by : (b : Bool) → (b || list_any p ss) ≡ false → (list_any p ss ≡ false → first_changed p f ss ≡ ss) → (if b then f s ∷ ss else s ∷ first_changed p f ss) ≡ s ∷ ss
    by true h more = cc
    by false h more = ap (λ (t : List Slot). s ∷ t) (more h)

-- ---- the moves

pub changed-first : (f : Span → Slot) (c : ℕ) (ss : List Slot) → first_changed (is_held_by c) (turned f) ss ≡ changed f c ss
changed-first f c [] = refl
changed-first f c (Free ∷ ss) = ap (λ (t : List Slot). Free ∷ t) (changed-first f c ss)
changed-first f c (Loose r ∷ ss) = ap (λ (t : List Slot). Loose r ∷ t) (changed-first f c ss)
changed-first f c (Held d r ∷ ss) = ap (λ (t : List Slot). if nat_eq d c then f r ∷ ss else Held d r ∷ t) (changed-first f c ss)

pub hold_loose-first : (c : ℕ) (ss : List Slot) → first_changed is_loose (held_as c) ss ≡ hold_loose c ss
hold_loose-first c [] = refl
hold_loose-first c (Free ∷ ss) = ap (λ (t : List Slot). Free ∷ t) (hold_loose-first c ss)
hold_loose-first c (Held d r ∷ ss) = ap (λ (t : List Slot). Held d r ∷ t) (hold_loose-first c ss)
hold_loose-first c (Loose r ∷ ss) = refl

pub hold_free-first : (c : ℕ) (r : Span) (ss : List Slot) → first_changed is_free (λ s. Held c r) ss ≡ hold_free c r ss
hold_free-first c r [] = refl
hold_free-first c r (Free ∷ ss) = refl
hold_free-first c r (Held d q ∷ ss) = ap (λ (t : List Slot). Held d q ∷ t) (hold_free-first c r ss)
hold_free-first c r (Loose q ∷ ss) = ap (λ (t : List Slot). Loose q ∷ t) (hold_free-first c r ss)

-- ---- the span of a claim

pub span_of-none : (c : ℕ) (ss : List Slot) → list_any (is_held_by c) ss ≡ false → span_of c ss ≡ None
span_of-none c [] h = refl
span_of-none c (Free ∷ ss) h = span_of-none c ss h
span_of-none c (Loose r ∷ ss) h = span_of-none c ss h
span_of-none c (Held d r ∷ ss) h = by (nat_eq d c) h (span_of-none c ss)
  where
    by : (b : Bool) → (b || list_any (is_held_by c) ss) ≡ false → (list_any (is_held_by c) ss ≡ false → span_of c ss ≡ None) → (if b then Some r else span_of c ss) ≡ None
    by true h more = cc
    by false h more = more h

pub span_of-place : (c n i : ℕ) (ss : List Slot) (d : Slot) → position_from (is_held_by c) n ss ≡ Some i → (k : ℕ) × (i ≡ n + k) × (held_span (get_or ss k d) ≡ span_of c ss)
span_of-place c n i [] d h = cc
span_of-place c n i (Free ∷ ss) d h = let (k, is, span) = span_of-place c (n + 1) i ss d h in (suc k, omega (arith, is), span)
span_of-place c n i (Loose r ∷ ss) d h = let (k, is, span) = span_of-place c (n + 1) i ss d h in (suc k, omega (arith, is), span)
span_of-place c n i (Held e r ∷ ss) d h = by (nat_eq e c) h (span_of-place c (n + 1) i ss d)
  where
    by : (b : Bool) → (if b then Some n else position_from (is_held_by c) (n + 1) ss) ≡ Some i
        → (position_from (is_held_by c) (n + 1) ss ≡ Some i → (k : ℕ) × (i ≡ (n + 1) + k) × (held_span (get_or ss k d) ≡ span_of c ss))
        → (k : ℕ) × (i ≡ n + k) × (held_span (get_or (Held e r ∷ ss) k d) ≡ (if b then Some r else span_of c ss))
    by true h more = let here : n ≡ i = cc in (0, omega (arith, here), refl)
    by false h more = let (k, is, span) = more h in (suc k, omega (arith, is), span)

pub span_at : (c i : ℕ) (ss : List Slot) (d : Slot) → position_from (is_held_by c) 0 ss ≡ Some i → held_span (get_or ss i d) ≡ span_of c ss
span_at c i ss d h =
    let (k, is, span) = span_of-place c 0 i ss d h in
    let same : i ≡ k = omega (arith, is) in ap (λ (j : ℕ). held_span (get_or ss j d)) same ∙ span

-- ---- what a function that sets the first one leaves

pub changes : (p : Slot → Bool) (f : Slot → Slot) (ss : List Slot) (i : ℕ) (new d : Slot) → position_from p 0 ss ≡ Some i → new ≡ f (get_or ss i d)
    → set ss i new ≡ first_changed p f ss
changes p f ss i new d h e = ap (λ (s : Slot). set ss i s) e ∙ (sits p ss i h).set f d

pub stays : (p : Slot → Bool) (f : Slot → Slot) (ss : List Slot) → position_from p 0 ss ≡ None → ss ≡ first_changed p f ss
stays p f ss h = sym (first_changed-none p f ss (none_has p 0 ss h))

pub hold_loose-none : (c : ℕ) (ss : List Slot) → list_any is_loose ss ≡ false → hold_loose c ss ≡ ss
hold_loose-none c ss none = sym (hold_loose-first c ss) ∙ first_changed-none is_loose (held_as c) ss none
