-- A completed object of the hub, cell by cell: its marks are good, each name that is filled is there, and what is complete stays
-- as it is. On a spoke's object that is crossed from it each name with a default is there.
use Rattle.std.proofs.Common.{◌≡◌, ℕ, List, [], ◌∷◌, map, Bool, true, false, Option, Some, None, refl, ap, ap₂, sym, subst, ◌∙◌}
use Rattle.std.specs.Prelude.{is_some, is_none, ◌||◌}
use Rattle.kj_value.specs.Json.{Json}
use Rattle.struct_schema.specs.Shape.{own}
use Rattle.hub_cells.specs.Side.{Side, spoke, hub, other}
use Rattle.hub_cells.specs.Cell.{Tuple}
use Rattle.hub_cells.specs.Cross.{matched, shown}
use Rattle.hub_cells.specs.Level.{Place, Cell, places, names, tuple_of, allowed_at, all_allowed, allows, some_there, have_default, can_default, MatchThere, CellFits, CellsFit, Fits, InnersFit, Level, level, Inners, no_inner, inner}
use Rattle.hub_fills.specs.Fills.{Fills, fills, Within, nothing_within, within}
use Rattle.hub_fills.specs.Right.{IsRight, AreRight, RightFills, RightWithin}
use Rattle.hub_fills.specs.laws.RightLaws.{one_place}
use Rattle.keep_laws.specs.Marked.{Mark, Marks, Marked, MarkedInners, IsAlive, AreGood, IfThere, OrAbsent, IsGood, InnersGood, there, crossed_as, crossed_mark, crossed_marks, crossed, crossed_inners}
use Rattle.keep_laws.specs.Settle.{set_at, all_set, CellsSet, AreSet, InnersSet}
use Rattle.keep_laws.specs.Complete.{where_absent, filled_tuple, filled_marks, filled, filled_inners, IsFilled, CellsFilled, IsComplete, InnersComplete}
use Rattle.keep_laws.proofs.LawA.{crossed_good}
use Rattle.keep_laws.proofs.Tests.{lies, both_true, and_true, none_some}

-- ---- one cell

-- an allowed tuple none of whose values is there is that of no fields
absent_tuple : (n : ℕ) (ps : List Place) (t : Tuple) → all_allowed n ps t ≡ true → some_there t ≡ false → t ≡ tuple_of (map (λ (p : Place). p.name) ps) []
absent_tuple n [] [] a s = refl
absent_tuple n [] (o ∷ os) a s = absurd (lies a)
absent_tuple n (p ∷ ps) [] a s = absurd (lies a)
absent_tuple n (p ∷ ps) (None ∷ os) a s =
    ap (λ (us : Tuple). None ∷ us) (absent_tuple n ps os (both_true (allowed_at n p None) (all_allowed n ps os) a).1 s)
absent_tuple n (p ∷ ps) (Some j ∷ os) a s = absurd (lies (sym s))

-- so one that has no match is there
pub unmatched_there : (c : Cell) → CellFits c → (d : Side) (u : Tuple) → allows d c u ≡ true → matched d c.kind u ≡ None → some_there u ≡ true
unmatched_there c f d u a m = by_test (some_there u) refl
  where
    by_test : (b : Bool) → some_there u ≡ b → b ≡ true
    by_test true q = refl
    by_test false q =
        let absent = absent_tuple c.depth (places d c) u a q in
        absurd (none_some (tuple_of (names (other d) c) []) (sym m ∙ ap (matched d c.kind) absent ∙ f.absent d))

-- what is alive stands beside a tuple that is there
pub alive_there : (c : Cell) → CellFits c → can_default c ≡ true → (t u : Tuple) → IsAlive hub c t (Some u) → some_there t ≡ true
alive_there c f can t u g =
    let at = f.there spoke u can g.0 (unmatched_there c f spoke u g.0 g.1) in
    ap some_there g.2 ∙ subst (λ (o : Option Tuple). MatchThere c spoke o u) g.1 at

-- a tuple at the one place of the hub
at_one : (c : Cell) → CellFits c → can_default c ≡ true → (t : Tuple) → allows hub c t ≡ true → (q : Place) × (c.hub ≡ q ∷ []) × (all_allowed c.depth (q ∷ []) t ≡ true)
at_one c f can t a =
    let q = one_place c f can hub in
    (q.0, q.1, subst (λ (qs : List Place). all_allowed c.depth qs t ≡ true) q.1 a)

mark_filled_good : (c : Cell) → CellFits c → (v : Option Json) → IsRight c v → (t : Tuple) (k : Option Tuple) → allows hub c t ≡ true → IsAlive hub c t k → (allows hub c (filled_tuple v t) ≡ true) × IsAlive hub c (filled_tuple v t) k
mark_filled_good c f None r t k a g = (a, g)
mark_filled_good c f (Some j) r [] k a g = (a, g)
mark_filled_good c f (Some j) r (None ∷ []) None a g = (r.allowed, tt)
mark_filled_good c f (Some j) r (None ∷ []) (Some u) a g = absurd (lies (alive_there c f (r.can refl) (None ∷ []) u g))
mark_filled_good c f (Some j) r (None ∷ o ∷ os) k a g = (a, g)
mark_filled_good c f (Some j) r (Some i ∷ os) k a g = (a, g)

mark_filled : (c : Cell) → CellFits c → (v : Option Json) → IsRight c v → (t : Tuple) → allows hub c t ≡ true → IsFilled v (filled_tuple v t)
mark_filled c f None r t a = tt
mark_filled c f (Some j) r [] a = absurd (lies (at_one c f (r.can refl) [] a).2)
mark_filled c f (Some j) r (None ∷ []) a = refl
mark_filled c f (Some j) r (None ∷ o ∷ os) a =
    let q = at_one c f (r.can refl) (None ∷ o ∷ os) a in
    absurd (lies (both_true (allowed_at c.depth q.0 None) (all_allowed c.depth [] (o ∷ os)) q.2).1)
mark_filled c f (Some j) r (Some i ∷ os) a = refl

filled_same : (v : Option Json) (t : Tuple) → IsFilled v t → filled_tuple v t ≡ t
filled_same None t h = refl
filled_same (Some j) [] h = refl
filled_same (Some j) (None ∷ []) h = absurd (lies h)
filled_same (Some j) (None ∷ o ∷ os) h = refl
filled_same (Some j) (Some i ∷ os) h = refl

-- ---- names with a default

neither : (a b : Bool) → (a || b) ≡ false → (a ≡ false) × (b ≡ false)
neither true b h = absurd (lies (sym h))
neither false b h = (refl, h)

is_nothing : (o : Option Json) → is_some o ≡ false → is_none o ≡ true
is_nothing None h = refl
is_nothing (Some j) h = absurd (lies (sym h))

none_set : (ps : List Place) (t : Tuple) → have_default ps ≡ false → all_set ps t ≡ true
none_set [] t h = refl
none_set (p ∷ ps) [] h = refl
none_set (p ∷ ps) (None ∷ os) h =
    let q = neither (is_some (own p.shape).default_value) (have_default ps) h in
    and_true (is_none (own p.shape).default_value) (all_set ps os) (is_nothing (own p.shape).default_value q.0) (none_set ps os q.1)
none_set (p ∷ ps) (Some j ∷ os) h =
    none_set ps os (neither (is_some (own p.shape).default_value) (have_default ps) h).1

one_set : (n : ℕ) (p : Place) (t : Tuple) → all_allowed n (p ∷ []) t ≡ true → some_there t ≡ true → all_set (p ∷ []) t ≡ true
one_set n p [] a h = refl
one_set n p (None ∷ []) a h = absurd (lies h)
one_set n p (None ∷ o ∷ os) a h = absurd (lies (both_true (allowed_at n p None) (all_allowed n [] (o ∷ os)) a).1)
one_set n p (Some j ∷ os) a h = refl

-- on a side whose tuple is there where it has a default
side_set : (c : Cell) → CellFits c → (d : Side) (t : Tuple) → allows d c t ≡ true → (have_default (places d c) ≡ true → some_there t ≡ true) → all_set (places d c) t ≡ true
side_set c f d t a h = by_test (have_default (places d c)) refl
  where
    by_test : (b : Bool) → have_default (places d c) ≡ b → all_set (places d c) t ≡ true
    by_test true q =
        let p = one_place c f (f.defaults d q) d in
        subst (λ (ps : List Place). all_set ps t ≡ true) (sym p.1) (one_set c.depth p.0 t (subst (λ (ps : List Place). all_allowed c.depth ps t ≡ true) p.1 a) (h q))
    by_test false q = none_set (places d c) t q

filled_there : (v : Option Json) (t : Tuple) → is_some v ≡ true → IsFilled v t → some_there t ≡ true
filled_there None t s h = absurd (lies s)
filled_there (Some j) t s h = h

hub_mark_set : (c : Cell) → CellFits c → (v : Option Json) → IsRight c v → (t : Tuple) → allows hub c t ≡ true → IsFilled v t → all_set c.hub t ≡ true
hub_mark_set c f v r t a h = side_set c f hub t a (λ d. filled_there v t (r.set hub d) h)

-- what a tuple that is there crosses to is there
crossed_there : (c : Cell) → CellFits c → can_default c ≡ true → (t : Tuple) (k : Option Tuple) → allows hub c t ≡ true → IsAlive hub c t k → some_there t ≡ true → some_there (crossed_mark hub c.kind t k).0 ≡ true
crossed_there c f can t (Some u) a g s = unmatched_there c f spoke u g.0 g.1
crossed_there c f can t None a g s = by_match (matched hub c.kind t) (f.there hub t can a s)
  where
    by_match : (o : Option Tuple) → MatchThere c hub o t → some_there (crossed_as hub c.kind o t).0 ≡ true
    by_match None h = h
    by_match (Some u) h = h

spoke_mark_set : (c : Cell) → CellFits c → (v : Option Json) → IsRight c v → (t : Tuple) (k : Option Tuple) → allows hub c t ≡ true → IsAlive hub c t k → IsFilled v t → allows spoke c (crossed_mark hub c.kind t k).0 ≡ true → all_set c.spoke (crossed_mark hub c.kind t k).0 ≡ true
spoke_mark_set c f v r t k a g h b =
    side_set c f spoke (crossed_mark hub c.kind t k).0 b (λ d. crossed_there c f (f.defaults spoke d) t k a g (filled_there v t (r.set spoke d) h))

-- ---- the cells of a level

cells_good : (cs : List Cell) (vs : List (Option Json)) (ms : Marks cs) → CellsFit cs → AreRight cs vs → AreGood hub cs ms → AreGood hub cs (filled_marks cs vs ms)
cells_good [] vs ms f r g = tt
cells_good (c ∷ cs) [] ms f r g = absurd r
cells_good (c ∷ cs) (v ∷ vs) ms f r g = (mark_filled_good c f.0 v r.0 ms.0.0 ms.0.1 g.0.0 g.0.1, cells_good cs vs ms.1 f.1 r.1 g.1)

cells_filled : (cs : List Cell) (vs : List (Option Json)) (ms : Marks cs) → CellsFit cs → AreRight cs vs → AreGood hub cs ms → CellsFilled cs vs (filled_marks cs vs ms)
cells_filled [] vs ms f r g = tt
cells_filled (c ∷ cs) [] ms f r g = tt
cells_filled (c ∷ cs) (v ∷ vs) ms f r g = (mark_filled c f.0 v r.0 ms.0.0 g.0.0, cells_filled cs vs ms.1 f.1 r.1 g.1)

cells_same : (cs : List Cell) (vs : List (Option Json)) (ms : Marks cs) → CellsFilled cs vs ms → filled_marks cs vs ms ≡ ms
cells_same [] vs ms h = refl
cells_same (c ∷ cs) [] ms h = refl
cells_same (c ∷ cs) (v ∷ vs) ms h =
    ap₂ (λ (t : Tuple) (r : Marks cs). ((t, ms.0.1), r)) (filled_same v ms.0.0 h.0) (cells_same cs vs ms.1 h.1)

hub_cells_set : (cs : List Cell) (vs : List (Option Json)) (ms : Marks cs) → CellsFit cs → AreRight cs vs → AreGood hub cs ms → CellsFilled cs vs ms → CellsSet hub cs ms
hub_cells_set [] vs ms f r g h = tt
hub_cells_set (c ∷ cs) [] ms f r g h = absurd r
hub_cells_set (c ∷ cs) (v ∷ vs) ms f r g h = (hub_mark_set c f.0 v r.0 ms.0.0 g.0.0 h.0, hub_cells_set cs vs ms.1 f.1 r.1 g.1 h.1)

spoke_cells_set : (cs : List Cell) (vs : List (Option Json)) (ms : Marks cs) → CellsFit cs → AreRight cs vs → AreGood hub cs ms → CellsFilled cs vs ms → AreGood spoke cs (crossed_marks hub cs ms) → CellsSet spoke cs (crossed_marks hub cs ms)
spoke_cells_set [] vs ms f r g h b = tt
spoke_cells_set (c ∷ cs) [] ms f r g h b = absurd r
spoke_cells_set (c ∷ cs) (v ∷ vs) ms f r g h b =
    (spoke_mark_set c f.0 v r.0 ms.0.0 ms.0.1 g.0.0 g.0.1 h.0 b.0.0, spoke_cells_set cs vs ms.1 f.1 r.1 g.1 h.1 b.1)

-- ---- levels

or_absent : {A : Type 0} (r : Bool) (P Q : A → Type 0) (f : A → A) → ((x : A) → P x → Q (f x)) → (o : Option A) → OrAbsent r P o → OrAbsent r Q (there f o)
or_absent r P Q f h None g = g
or_absent r P Q f h (Some x) g = h x g

if_absent : {A : Type 0} (r : Bool) (P Q : A → Type 0) (f : A → A) → ((x : A) → P x → Q (f x)) → (o : Option A) → OrAbsent r P o → IfThere Q (there f o)
if_absent r P Q f h None g = tt
if_absent r P Q f h (Some x) g = h x g

if_same : {A : Type 0} (P : A → Type 0) (f : A → A) → ((x : A) → P x → f x ≡ x) → (o : Option A) → IfThere P o → there f o ≡ o
if_same P f h None g = refl
if_same P f h (Some x) g = ap Some (h x g)

if_both : {A : Type 0} (r : Bool) (P Q R : A → Type 0) → ((x : A) → P x → Q x → R x) → (o : Option A) → OrAbsent r P o → IfThere Q o → IfThere R o
if_both r P Q R h None g k = tt
if_both r P Q R h (Some x) g k = h x g k

if_crossed : {A : Type 0} (r : Bool) (P Q B R : A → Type 0) (f : A → A) → ((x : A) → P x → Q x → B (f x) → R (f x)) → (o : Option A) → OrAbsent r P o → IfThere Q o → OrAbsent r B (there f o) → IfThere R (there f o)
if_crossed r P Q B R f h None g k b = tt
if_crossed r P Q B R f h (Some x) g k b = h x g k b

mutual
  pub filled_good : (l : Level) (f : Fills) (m : Marked l) → Fits l → RightFills l f → IsGood hub l m → IsGood hub l (filled l f m)
  filled_good (level cs is) (fills vs fs) m t r g = (cells_good cs vs m.0 t.0 r.0 g.0, inners_filled_good is fs m.1 t.1 r.1 g.1)

  inners_filled_good : (is : Inners) (fs : Within) (ms : MarkedInners is) → InnersFit is → RightWithin is fs → InnersGood hub is ms → InnersGood hub is (filled_inners is fs ms)
  inners_filled_good no_inner fs ms t r g = tt
  inners_filled_good (inner a b rq l is) nothing_within ms t r g = absurd r
  inners_filled_good (inner a b rq l is) (within f fs) ms t r g = (
    or_absent rq (IsGood hub l) (IsGood hub l) (filled l f) (λ m h. filled_good l f m t.0 r.0 h) ms.0 g.0,
    inners_filled_good is fs ms.1 t.1 r.1 g.1,
  )

mutual
  pub filled_complete : (l : Level) (f : Fills) (m : Marked l) → Fits l → RightFills l f → IsGood hub l m → IsComplete l f (filled l f m)
  filled_complete (level cs is) (fills vs fs) m t r g = (cells_filled cs vs m.0 t.0 r.0 g.0, inners_filled_complete is fs m.1 t.1 r.1 g.1)

  inners_filled_complete : (is : Inners) (fs : Within) (ms : MarkedInners is) → InnersFit is → RightWithin is fs → InnersGood hub is ms → InnersComplete is fs (filled_inners is fs ms)
  inners_filled_complete no_inner fs ms t r g = tt
  inners_filled_complete (inner a b rq l is) nothing_within ms t r g = tt
  inners_filled_complete (inner a b rq l is) (within f fs) ms t r g = (
    if_absent rq (IsGood hub l) (IsComplete l f) (filled l f) (λ m h. filled_complete l f m t.0 r.0 h) ms.0 g.0,
    inners_filled_complete is fs ms.1 t.1 r.1 g.1,
  )

mutual
  pub complete_same : (l : Level) (f : Fills) (m : Marked l) → IsComplete l f m → filled l f m ≡ m
  complete_same (level cs is) (fills vs fs) m h =
      ap₂ (λ (a : Marks cs) (b : MarkedInners is). (a, b)) (cells_same cs vs m.0 h.0) (inners_complete_same is fs m.1 h.1)

  inners_complete_same : (is : Inners) (fs : Within) (ms : MarkedInners is) → InnersComplete is fs ms → filled_inners is fs ms ≡ ms
  inners_complete_same no_inner fs ms h = refl
  inners_complete_same (inner a b rq l is) nothing_within ms h = refl
  inners_complete_same (inner a b rq l is) (within f fs) ms h =
      ap₂ (λ (o : Option (Marked l)) (r : MarkedInners is). (o, r)) (if_same (IsComplete l f) (filled l f) (λ m k. complete_same l f m k) ms.0 h.0) (inners_complete_same is fs ms.1 h.1)

mutual
  pub hub_set : (l : Level) (f : Fills) (m : Marked l) → Fits l → RightFills l f → IsGood hub l m → IsComplete l f m → AreSet hub l m
  hub_set (level cs is) (fills vs fs) m t r g h = (hub_cells_set cs vs m.0 t.0 r.0 g.0 h.0, hub_inners_set is fs m.1 t.1 r.1 g.1 h.1)

  hub_inners_set : (is : Inners) (fs : Within) (ms : MarkedInners is) → InnersFit is → RightWithin is fs → InnersGood hub is ms → InnersComplete is fs ms → InnersSet hub is ms
  hub_inners_set no_inner fs ms t r g h = tt
  hub_inners_set (inner a b rq l is) nothing_within ms t r g h = absurd r
  hub_inners_set (inner a b rq l is) (within f fs) ms t r g h = (
    if_both rq (IsGood hub l) (IsComplete l f) (AreSet hub l) (λ m p q. hub_set l f m t.0 r.0 p q) ms.0 g.0 h.0,
    hub_inners_set is fs ms.1 t.1 r.1 g.1 h.1,
  )

mutual
  crossed_set : (l : Level) (f : Fills) (m : Marked l) → Fits l → RightFills l f → IsGood hub l m → IsComplete l f m → IsGood spoke l (crossed hub l m) → AreSet spoke l (crossed hub l m)
  crossed_set (level cs is) (fills vs fs) m t r g h b = (spoke_cells_set cs vs m.0 t.0 r.0 g.0 h.0 b.0, crossed_inners_set is fs m.1 t.1 r.1 g.1 h.1 b.1)

  crossed_inners_set : (is : Inners) (fs : Within) (ms : MarkedInners is) → InnersFit is → RightWithin is fs → InnersGood hub is ms → InnersComplete is fs ms → InnersGood spoke is (crossed_inners hub is ms) → InnersSet spoke is (crossed_inners hub is ms)
  crossed_inners_set no_inner fs ms t r g h b = tt
  crossed_inners_set (inner x y rq l is) nothing_within ms t r g h b = absurd r
  crossed_inners_set (inner x y rq l is) (within f fs) ms t r g h b = (
    if_crossed rq (IsGood hub l) (IsComplete l f) (IsGood spoke l) (AreSet spoke l) (crossed hub l) (λ m p q k. crossed_set l f m t.0 r.0 p q k) ms.0 g.0 h.0 b.0,
    crossed_inners_set is fs ms.1 t.1 r.1 g.1 h.1 b.1,
  )

pub spoke_set : (l : Level) (f : Fills) (m : Marked l) → Fits l → RightFills l f → IsGood hub l m → IsComplete l f m → AreSet spoke l (crossed hub l m)
spoke_set l f m t r g h = crossed_set l f m t r g h (crossed_good hub l m t g)
