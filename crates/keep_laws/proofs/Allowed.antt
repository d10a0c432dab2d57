-- What a cell's side allows at a name is what the schema allows there.
use Rattle.std.proofs.Common.{◌≡◌, ℕ, ℤ, suc, ◌+◌, ◌≤◌, List, [], ◌∷◌, map, true, ◌&&◌, ◌⊎◌, inl, inr, Option, Some, None, FitsSigned, refl, ap, sym, subst, ◌∙◌, arith}
use Rattle.std.specs.Prelude.{not, is_none, leb}
use Rattle.std.specs.Int.{w64}
use Rattle.std.proofs.lemmas.Bool.{leb-true, le-leb}
use Rattle.std.proofs.lemmas.Int.{ints}
use Rattle.kj_value.specs.Json.{Json, null, boolean, whole, text, list, object, depth, members_of}
use Rattle.kj_value.specs.Fields.{Pairs, field}
use Rattle.kj_value.specs.Sound.{IsSoundJson, AreRising}
use Rattle.struct_schema.specs.Shape.{Shape, own, properties, some_shape}
use Rattle.struct_schema.specs.Names.{property}
use Rattle.struct_schema.specs.Valid.{valid}
use Rattle.struct_schema.specs.Stays.{stays}
use Rattle.struct_schema.specs.laws.Own.{stays_filled, filled_stays}
use Rattle.hub_cells.specs.declared.allowed.TheConstants.{STORED_LEVELS}
use Rattle.hub_cells.specs.Side.{Side}
use Rattle.hub_cells.specs.Level.{Name, Place, Cell, places, names, tuple_of, cells_names, is_word, allowed_at, all_allowed}
use Rattle.hub_cells.specs.Fit.{has_name, is_required, IsPlaceOf, ArePlacesOf, CellsStand}
use Rattle.kept_entries.specs.declared.entry.Entry.{Entry}
use Rattle.keep_laws.specs.Body.{read_cells}
use Rattle.keep_laws.specs.Settle.{CellsAllowed, set_at, all_set, CellsSet}
use Rattle.keep_laws.proofs.Tests.{lies, both_true, and_true, not_true, nothing, at_name, has_split}
use Rattle.keep_laws.proofs.Each.{at_field, sound_each}
use Rattle.keep_laws.proofs.Object.{AtName}

word_fits : (z : ℤ) → FitsSigned w64 z → is_word (whole z) ≡ true
word_fits z h = grind (arith, ints)

sound_word : (j : Json) → IsSoundJson j → is_word j ≡ true
sound_word null h = refl
sound_word (boolean b) h = refl
sound_word (whole z) h = word_fits z h
sound_word (text t) h = refl
sound_word (list js) h = refl
sound_word (object ms) h = refl

abbrev pub IfSound : Option Json → Type 0
IfSound None = Unit {0}
IfSound (Some j) = IsSoundJson j

pub sound_at : (x : Pairs) → AreRising (members_of x) → (k : Name) → IfSound (field k x)
sound_at x h k = by_value (field k x) refl
  where
    by_value : (o : Option Json) → field k x ≡ o → IfSound o
    by_value None q = tt
    by_value (Some j) q = at_field (λ l i. IsSoundJson i) x k j (sound_each x h) q

to_allowed : (n : ℕ) (s : Shape) (p : Place) (o : Option Json) → p.required ≡ is_required p.name s → IfSound o → AtName n s p.name p.shape o → allowed_at n p o ≡ true
to_allowed n s p None r h g =
    ap not (r ∙ g.0)
to_allowed n s p (Some j) r h g =
    let levels : n + suc (depth j) ≤ STORED_LEVELS = g.2 in
    let room : n + 1 + depth j ≤ STORED_LEVELS = omega arith in
    and_true (valid p.shape j && stays p.shape j && leb (n + 1 + depth j) STORED_LEVELS) (is_word j) (and_true (valid p.shape j && stays p.shape j) (leb (n + 1 + depth j) STORED_LEVELS) (and_true (valid p.shape j) (stays p.shape j) g.0 (filled_stays p.shape j h g.1)) (le-leb (n + 1 + depth j) STORED_LEVELS room)) (sound_word j h)

to_set : (n : ℕ) (s : Shape) (p : Place) (o : Option Json) → AtName n s p.name p.shape o → set_at p o ≡ true
to_set n s p None g = ap (λ (o : Option Json). is_none o) g.1
to_set n s p (Some j) g = refl

from_allowed : (n : ℕ) (s : Shape) (p : Place) (o : Option Json) → p.required ≡ is_required p.name s → allowed_at n p o ≡ true → set_at p o ≡ true → AtName n s p.name p.shape o
from_allowed n s p None r h e = (sym r ∙ not_true p.required h, nothing (own p.shape).default_value e)
from_allowed n s p (Some j) r h e =
    let q3 = both_true (valid p.shape j && stays p.shape j && leb (n + 1 + depth j) STORED_LEVELS) (is_word j) h in
    let q2 = both_true (valid p.shape j && stays p.shape j) (leb (n + 1 + depth j) STORED_LEVELS) q3.0 in
    let q1 = both_true (valid p.shape j) (stays p.shape j) q2.0 in
    let room : n + 1 + depth j ≤ STORED_LEVELS = leb-true (n + 1 + depth j) STORED_LEVELS q2.1 in
    (q1.0, stays_filled p.shape j q1.1, omega arith)

-- ---- the places of a cell

abbrev pub AtEach : ℕ → Shape → Pairs → Type 0
AtEach n s x = (k : Name) (t : Shape) → property k (properties s) ≡ some_shape t → AtName n s k t (field k x)

-- a name with its schema, and what it has
abbrev pub Seen : ℕ → Shape → Pairs → Name → Type 0
Seen n s x k = (t : Shape) × (property k (properties s) ≡ some_shape t) × AtName n s k t (field k x)

places_allowed : (n : ℕ) (s : Shape) (ps : List Place) (x : Pairs) → ArePlacesOf s ps → ((k : Name) → IfSound (field k x)) → AtEach n s x → all_allowed n ps (tuple_of (map (λ (p : Place). p.name) ps) x) ≡ true
places_allowed n s [] x h sound names = refl
places_allowed n s (p ∷ ps) x h sound names =
    let place : IsPlaceOf s p = h.0 in
    and_true (allowed_at n p (field p.name x)) (all_allowed n ps (tuple_of (map (λ (q : Place). q.name) ps) x)) (to_allowed n s p (field p.name x) place.required (sound p.name) (names p.name p.shape place.shape)) (places_allowed n s ps x h.1 sound names)

places_set : (n : ℕ) (s : Shape) (ps : List Place) (x : Pairs) → ArePlacesOf s ps → AtEach n s x → all_set ps (tuple_of (map (λ (p : Place). p.name) ps) x) ≡ true
places_set n s [] x h names = refl
places_set n s (p ∷ ps) x h names =
    let place : IsPlaceOf s p = h.0 in
    and_true (set_at p (field p.name x)) (all_set ps (tuple_of (map (λ (q : Place). q.name) ps) x)) (to_set n s p (field p.name x) (names p.name p.shape place.shape)) (places_set n s ps x h.1 names)

places_seen : (n : ℕ) (s : Shape) (ps : List Place) (x : Pairs) (k : Name) → ArePlacesOf s ps → all_allowed n ps (tuple_of (map (λ (p : Place). p.name) ps) x) ≡ true → all_set ps (tuple_of (map (λ (p : Place). p.name) ps) x) ≡ true → has_name k (map (λ (p : Place). p.name) ps) ≡ true → Seen n s x k
places_seen n s [] x k h a e m = absurd (lies m)
places_seen n s (p ∷ ps) x k h a e m =
    let place : IsPlaceOf s p = h.0 in
    let q = both_true (allowed_at n p (field p.name x)) (all_allowed n ps (tuple_of (map (λ (q : Place). q.name) ps) x)) a in
    let r = both_true (set_at p (field p.name x)) (all_set ps (tuple_of (map (λ (q : Place). q.name) ps) x)) e in
    at_name (Seen n s x) k p.name (map (λ (q : Place). q.name) ps) (p.shape, place.shape, from_allowed n s p (field p.name x) place.required q.0 r.0) (λ i. places_seen n s ps x k h.1 q.1 r.1 i) m

-- ---- the cells of a level

pub cells_allowed : (d : Side) (n : ℕ) (s : Shape) (cs : List Cell) (x : Pairs) (es : List Entry) → CellsStand d n s cs → ((k : Name) → IfSound (field k x)) → AtEach n s x → CellsAllowed d cs (read_cells d cs x es)
cells_allowed d n s [] x es h sound names = tt
cells_allowed d n s (c ∷ cs) x es h sound names = (
  subst (λ (m : ℕ). all_allowed m (places d c) (tuple_of (map (λ (p : Place). p.name) (places d c)) x) ≡ true) (sym h.0) (places_allowed n s (places d c) x h.1 sound names),
  cells_allowed d n s cs x es h.2 sound names,
)

pub cells_set : (d : Side) (n : ℕ) (s : Shape) (cs : List Cell) (x : Pairs) (es : List Entry) → CellsStand d n s cs → AtEach n s x → CellsSet d cs (read_cells d cs x es)
cells_set d n s [] x es h names = tt
cells_set d n s (c ∷ cs) x es h names = (places_set n s (places d c) x h.1 names, cells_set d n s cs x es h.2 names)

pub cells_seen : (d : Side) (n : ℕ) (s : Shape) (cs : List Cell) (ns : List Name) (x : Pairs) (es : List Entry) (k : Name) → CellsStand d n s cs → CellsAllowed d cs (read_cells d cs x es) → CellsSet d cs (read_cells d cs x es) → (has_name k ns ≡ true → Seen n s x k) → has_name k (cells_names d cs ns) ≡ true → Seen n s x k
cells_seen d n s [] ns x es k h a e later m = later m
cells_seen d n s (c ∷ cs) ns x es k h a e later m =
    by_place (λ i. cells_seen d n s cs ns x es k h.2 a.1 e.1 later i) (has_split k (names d c) (cells_names d cs ns) m)
  where
    by_place : (has_name k (cells_names d cs ns) ≡ true → Seen n s x k) → (has_name k (names d c) ≡ true) ⊎ (has_name k (cells_names d cs ns) ≡ true) → Seen n s x k
    by_place go (inl i) =
        places_seen n s (places d c) x k h.1 (subst (λ (m : ℕ). all_allowed m (places d c) (tuple_of (names d c) x) ≡ true) h.0 a.0) e.0 i
    by_place go (inr i) = go i
