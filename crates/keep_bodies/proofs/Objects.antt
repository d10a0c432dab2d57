-- An inner object taken over, and a level as what its cells and its inner objects give.
use Rattle.std.proofs.Common.{◌≡◌, ℕ, ◌+◌, ◌<◌, List, [], ◌∷◌, ◌++◌, map, drop, length, get_or, Bool, Option, Some, None, append_assoc, refl, ap, ap₂, sym, subst, ◌∙◌}
use Rattle.kj_value.specs.Json.{Json, object, members_of}
use Rattle.kj_value.specs.Fields.{Pairs, field, with_field}
use Rattle.kept_entries.specs.declared.entry.Entry.{Entry}
use Rattle.hub_cells.specs.Side.{Side, other}
use Rattle.hub_cells.specs.Level.{Name, Level, Inners, inner, named}
use Rattle.hub_cells.specs.SeenFit.{inners_of}
use Rattle.hub_cells.specs.declared.fitted.Inner.{Inner}
use Rattle.keep_laws.specs.Entry.{put, inside, under}
use Rattle.keep_laws.specs.Marked.{Marked, IfThere, OrAbsent, there}
use Rattle.keep_laws.specs.Body.{object_in, as_field, read, read_inners, body, with_inside, all_entries}
use Rattle.keep_laws.specs.Settle.{IsAllowed, InnersAllowed}
use Rattle.keep_bodies.specs.inner.Over.{marks_over, inner_marks}
use Rattle.keep_bodies.proofs.Lookups.{rest_from}

-- ---- one object

object_marks : (d : Side) (l : Level) (o : Option Json) (ys : Pairs) (es : List Entry) → Some ys ≡ object_in o → inner_marks d l o es ≡ Some (marks_over d l ys es)
object_marks d l o ys es e = ap (λ (p : Option Pairs). there (λ (y : Pairs). marks_over d l y es) p) (sym e)

pub object_allowed : (d : Side) (l : Level) (o : Option Json) (ys : Pairs) (es fs : List Entry) → Some ys ≡ object_in o → fs ≡ es → IfThere (IsAllowed d l) (there (λ (y : Pairs). read d l y es) (object_in o)) → IsAllowed d l (read d l ys fs)
object_allowed d l o ys es fs e s h =
    let P : Option Pairs → Type 0 = λ p. IfThere (IsAllowed d l) (there (λ (y : Pairs). read d l y es) p) in
    let R : List Entry → Type 0 = λ gs. IsAllowed d l (read d l ys gs) in
    subst R (sym s) (subst P (sym e) h)

pub object_fields : (d : Side) (l : Level) (o : Option Json) (ys : Pairs) (es fs : List Entry) (n k : Name) (qs old new : Pairs) → Some ys ≡ object_in o → fs ≡ es → k ≡ n → qs ≡ body (other d) l (marks_over d l ys fs) → new ≡ with_field k (object (members_of qs)) old → new ≡ put (n ∷ []) (as_field (there (body (other d) l) (inner_marks d l o es)) ∷ []) old
object_fields d l o ys es fs n k qs old new e s kn made h =
    h ∙ ap₂ (λ (m : Name) (ps : Pairs). with_field m (object (members_of ps)) old) kn (made ∙ ap (λ (gs : List Entry). body (other d) l (marks_over d l ys gs)) s)
    ∙ ap (λ (m : Option (Marked l)). put (n ∷ []) (as_field (there (body (other d) l) m) ∷ []) old) (sym (object_marks d l o ys es e))

append_nil : (xs : List Entry) → xs ++ [] ≡ xs
append_nil [] = refl
append_nil (x ∷ xs) = ap (λ (ys : List Entry). x ∷ ys) (append_nil xs)

pub object_entries : (d : Side) (l : Level) (o : Option Json) (ys : Pairs) (es fs : List Entry) (n : Name) (found old new : List Entry) → Some ys ≡ object_in o → fs ≡ es → found ≡ all_entries (other d) l (marks_over d l ys fs) → new ≡ old ++ map (under n) found → new ≡ old ++ with_inside n (all_entries (other d) l) (inner_marks d l o es) []
object_entries d l o ys es fs n found old new e s made h =
    h ∙ ap (λ (gs : List Entry). old ++ map (under n) gs) (made ∙ ap (λ (gs : List Entry). all_entries (other d) l (marks_over d l ys gs)) s)
    ∙ ap (λ (gs : List Entry). old ++ gs) (sym (append_nil (map (under n) (all_entries (other d) l (marks_over d l ys es)))))
    ∙ ap (λ (m : Option (Marked l)). old ++ with_inside n (all_entries (other d) l) m []) (sym (object_marks d l o ys es e))

pub or_absent : {A : Type 0} (r : Bool) (P : A → Type 0) (o : Option A) → OrAbsent r P o → IfThere P o
or_absent r P None h = tt
or_absent r P (Some x) h = h

-- ---- one inner object more

pub inners_from : (is : List Inner) (i : ℕ) (o : Inner) → i < length is → o ≡ get_or is i o → inners_of (drop i is) ≡ inner o.spoke.bytes o.hub.bytes o.required o.fitted.level (inners_of (drop (i + 1) is))
inners_from is i o p e = ap inners_of (rest_from is i o p e)

abbrev pub AreInnersAllowed : Side → Pairs → List Entry → Inners → Type 0
AreInnersAllowed d x es is = InnersAllowed d is (read_inners d is x es)

pub first_inner : (d : Side) (x : Pairs) (es : List Entry) (js is : Inners) (a b : Name) (r : Bool) (l : Level) → js ≡ inner a b r l is → AreInnersAllowed d x es js → OrAbsent r (IsAllowed d l) (there (λ (y : Pairs). read d l y (inside (named (other d) a b) es)) (object_in (field (named d a b) x))) × AreInnersAllowed d x es is
first_inner d x es js is a b r l e h =
    let g = subst (AreInnersAllowed d x es) e h in
    (g.0, g.1)

inside_more : {A : Type 0} (n : Name) (f : A → List Entry) (o : Option A) (rest : List Entry) → with_inside n f o [] ++ rest ≡ with_inside n f o rest
inside_more n f None rest = refl
inside_more n f (Some x) rest = append_assoc (map (under n) (f x)) [] rest

pub inside_append : {A : Type 0} (n : Name) (f : A → List Entry) (o : Option A) (old rest : List Entry) → (old ++ with_inside n f o []) ++ rest ≡ old ++ with_inside n f o rest
inside_append n f o old rest = append_assoc old (with_inside n f o []) rest ∙ ap (λ (es : List Entry). old ++ es) (inside_more n f o rest)

pub renamed_allowed : (d : Side) (l : Level) (r : Bool) (x : Pairs) (es : List Entry) (n m k j : Name) → k ≡ n → j ≡ m → OrAbsent r (IsAllowed d l) (there (λ (y : Pairs). read d l y (inside m es)) (object_in (field n x))) → IfThere (IsAllowed d l) (there (λ (y : Pairs). read d l y (inside j es)) (object_in (field k x)))
renamed_allowed d l r x es n m k j p q h =
    let P : Name → Type 0 = λ i. IfThere (IsAllowed d l) (there (λ (y : Pairs). read d l y (inside m es)) (object_in (field i x))) in
    let Q : Name → Type 0 = λ i. IfThere (IsAllowed d l) (there (λ (y : Pairs). read d l y (inside i es)) (object_in (field k x))) in
    subst Q (sym q) (subst P (sym p) (or_absent r (IsAllowed d l) (there (λ (y : Pairs). read d l y (inside m es)) (object_in (field n x))) h))
