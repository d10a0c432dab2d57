-- The names that must be there, between names that are there.
use Rattle.std.proofs.Common.{◌≡◌, ℕ, List, [], ◌∷◌, Bool, true, false, ◌&&◌, ◌||◌, not, cond, Option, Some, None, Ordering, Less, Equal, Greater, nat_cmp, ◌⊎◌, inl, inr, refl, ap, sym, subst, ◌∙◌}
use Rattle.std.specs.Prelude.{is_some}
use Rattle.std.specs.Ordering.{is_lt, ordering_reverse}
use Rattle.std.specs.Cmp.Lexicographic.{slice_cmp}
use Rattle.std.proofs.lemmas.Cmp.{nat_list_cmp_total}
use Rattle.kj_value.specs.Json.{Json, Members, no_members, member}
use Rattle.kj_value.specs.Sound.{AreRising}
use Rattle.struct_schema.specs.Names.{value_at}
use Rattle.schema_reading.specs.Visits.{is_below}
use Rattle.crd_reading.specs.Words.{spelled}
use Rattle.crd_reading.specs.Walk.{missing_between, missing_behind}
use Rattle.crd_reading.specs.Accepted.{has_rows}
use Rattle.crd_reading.specs.declared.places.Row.{Row}
use Rattle.crd_reading.specs.declared.words.Word.{Word}
use Rattle.crd_reading.specs.declared.words.Word.TheVariants.{ApiVersion, Categories, Conversion, Deprecated, Group, Kind, ListKind, Metadata, Name, Names, OpenApi, Plural, PreserveUnknownFields, PrinterColumns, Schema, Scope, Served, ShortNames, Singular, Spec, Status, Storage, Versions}
use Rattle.crd_reading.proofs.Nones.{both, joined}

abbrev pub In : Row → List Row → Type 0
In r [] = ⊥
In r (x ∷ xs) = (r ≡ x) ⊎ In r xs

-- ---- rows that are missed

cond_none : (t : Bool) (n : List ℕ) (o : Option (List ℕ)) → cond t (Some n) o ≡ None → (t ≡ false) × (o ≡ None)
cond_none true n o h = absurd (cc)
cond_none false n o h = (refl, h)

none_cond : (t : Bool) (n : List ℕ) (o : Option (List ℕ)) → (t ≡ true → ⊥) → o ≡ None → cond t (Some n) o ≡ None
none_cond true n o h k = absurd (h refl)
none_cond false n o h k = k

abbrev pub between : List ℕ → List ℕ → Row → Bool
between a b r = r.required && (is_below a (spelled r.named) && is_below (spelled r.named) b)

abbrev pub behind : List ℕ → Row → Bool
behind a r = r.required && is_below a (spelled r.named)

pub not_between : (a b : List ℕ) (rs : List Row) (r : Row) → In r rs → missing_between a b rs ≡ None → between a b r ≡ false
not_between a b [] r i h = absurd i
not_between a b (x ∷ xs) r i h =
    let p = cond_none (between a b x) (spelled x.named) (missing_between a b xs) h in
    elim i [ inl e ↦ ap (between a b) e ∙ p.0 | inr k ↦ not_between a b xs r k p.1 ]

pub not_behind : (a : List ℕ) (rs : List Row) (r : Row) → In r rs → missing_behind a rs ≡ None → behind a r ≡ false
not_behind a [] r i h = absurd i
not_behind a (x ∷ xs) r i h =
    let p = cond_none (behind a x) (spelled x.named) (missing_behind a xs) h in
    elim i [ inl e ↦ ap (behind a) e ∙ p.0 | inr k ↦ not_behind a xs r k p.1 ]

pub none_between : (a b : List ℕ) (rs : List Row) → ((r : Row) → In r rs → between a b r ≡ true → ⊥) → missing_between a b rs ≡ None
none_between a b [] h = refl
none_between a b (x ∷ xs) h =
    none_cond (between a b x) (spelled x.named) (missing_between a b xs) (h x (inl refl)) (none_between a b xs (λ r i. h r (inr i)))

pub none_behind : (a : List ℕ) (rs : List Row) → ((r : Row) → In r rs → behind a r ≡ true → ⊥) → missing_behind a rs ≡ None
none_behind a [] h = refl
none_behind a (x ∷ xs) h =
    none_cond (behind a x) (spelled x.named) (missing_behind a xs) (h x (inl refl)) (none_behind a xs (λ r i. h r (inr i)))

-- ---- rows that are there

abbrev pub There : Members → Row → Type 0
There ms r = is_some (value_at (spelled r.named) ms) ≡ true

row_there : (q t : Bool) → (q ≡ true → t ≡ true) → (not q || t) ≡ true
row_there true t h = h refl
row_there false t h = refl

there_row : (q t : Bool) → (not q || t) ≡ true → q ≡ true → t ≡ true
there_row true t h e = h
there_row false t h e = absurd (cc)

pub rows_there : (ms : Members) (rs : List Row) → ((r : Row) → In r rs → r.required ≡ true → There ms r) → has_rows rs ms ≡ true
rows_there ms [] h = refl
rows_there ms (r ∷ rs) h =
    joined (not r.required || is_some (value_at (spelled r.named) ms)) (has_rows rs ms) (row_there r.required (is_some (value_at (spelled r.named) ms)) (h r (inl refl))) (rows_there ms rs (λ s i. h s (inr i)))

pub there_rows : (ms : Members) (rs : List Row) → has_rows rs ms ≡ true → (r : Row) → In r rs → r.required ≡ true → There ms r
there_rows ms [] h r i q = absurd i
there_rows ms (x ∷ xs) h r i q =
    let p = both (not x.required || is_some (value_at (spelled x.named) ms)) (has_rows xs ms) h in
    elim i [
      | inl e ↦ subst (There ms) (sym e) (there_row x.required (is_some (value_at (spelled x.named) ms)) p.0 (ap (λ (s : Row). s.required) (sym e) ∙ q))
      | inr k ↦ there_rows ms xs p.1 r k q
    ]

-- ---- the order of names

pub turned : (a b : List ℕ) → slice_cmp nat_cmp a b ≡ Greater → is_below b a ≡ true
turned a b h =
    let e : slice_cmp nat_cmp b a ≡ Less = nat_list_cmp_total.antisymm b a ∙ ap ordering_reverse h in
    ap is_lt e

less : (o : Ordering) → is_lt o ≡ true → o ≡ Less
less Less h = refl
less Equal h = absurd (cc)
less Greater h = absurd (cc)

pub below : (a b : List ℕ) → is_below a b ≡ true → slice_cmp nat_cmp a b ≡ Less
below a b h = less (slice_cmp nat_cmp a b) h

pub further : (a b c : List ℕ) → slice_cmp nat_cmp a b ≡ Less → is_below b c ≡ true → is_below a c ≡ true
further a b c h k = ap is_lt (nat_list_cmp_total.trans a b c h (below b c k))

-- the empty name comes before every name that has one before it
pub empty_first : (k n : List ℕ) → is_below k n ≡ true → is_below [] n ≡ true
empty_first [] [] h = absurd (cc)
empty_first (x ∷ k) [] h = absurd (cc)
empty_first k (x ∷ n) h = refl

pub empty_below : (w : Word) → is_below [] (spelled w) ≡ true
unfolding spelled
empty_below ApiVersion = refl
empty_below Categories = refl
empty_below Conversion = refl
empty_below Deprecated = refl
empty_below Group = refl
empty_below Kind = refl
empty_below ListKind = refl
empty_below Metadata = refl
empty_below Name = refl
empty_below Names = refl
empty_below OpenApi = refl
empty_below Plural = refl
empty_below PreserveUnknownFields = refl
empty_below PrinterColumns = refl
empty_below Schema = refl
empty_below Scope = refl
empty_below Served = refl
empty_below ShortNames = refl
empty_below Singular = refl
empty_below Spec = refl
empty_below Status = refl
empty_below Storage = refl
empty_below Versions = refl

-- a name before the first one isn't there
pub before_all : (n k : List ℕ) (j : Json) (ms : Members) → slice_cmp nat_cmp n k ≡ Less → AreRising (member k j ms) → value_at n (member k j ms) ≡ None
before_all n k j no_members h s = rw h refl
before_all n k j (member l i ms) h s =
    rw h (before_all n l i ms (nat_list_cmp_total.trans n k l h s.0) s.2)

-- a name behind the first one is there where it's behind it
pub behind_first : (n k : List ℕ) (j : Json) (ms : Members) → is_below k n ≡ true → value_at n (member k j ms) ≡ value_at n ms
behind_first n k j ms h =
    let e : slice_cmp nat_cmp n k ≡ Greater = nat_list_cmp_total.antisymm n k ∙ ap ordering_reverse (below k n h) in
    rw e refl
