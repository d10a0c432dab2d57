-- A body of the hub in which each name that one spoke's level fills is there has those of each other spoke too: a name that has a
-- default at the hub is there since the body is filled, and any other one is paired by each spoke.
use Rattle.std.proofs.Common.{◌≡◌, ℕ, suc, ◌+◌, ◌≤◌, List, [], ◌∷◌, map, Bool, true, false, cond, ◌⊎◌, inl, inr, Option, Some, None, bytes_eq, refl, ap, sym, subst, ◌∙◌}
use Rattle.std.specs.Prelude.{is_none, IfSome}
use Rattle.kj_value.specs.Json.{Json, null, boolean, whole, text, list, object, depth, members_of}
use Rattle.kj_value.specs.Fields.{Pairs, field}
use Rattle.kj_value.specs.Sound.{AreRising}
use Rattle.struct_schema.specs.Shape.{Shape, own, properties, some_shape}
use Rattle.struct_schema.specs.Names.{property}
use Rattle.struct_schema.specs.Fault.{or_else}
use Rattle.hub_cells.specs.Side.{Side, spoke, hub}
use Rattle.hub_cells.specs.Cell.{Kind, Tuple}
use Rattle.hub_cells.specs.Level.{Name, Place, Cell, names, tuple_of, some_there, Level, level, cells_in, Inners, no_inner, inner, inners_in, cells_names, inner_names}
use Rattle.hub_cells.specs.Fit.{has_name, is_required, IsClosedObject, IsPlaceOf, ArePlacesOf, CellsStand, Stands, InnersStand}
use Rattle.hub_fills.specs.Lookups.{cell_at, level_at, cell_in, level_in}
use Rattle.hub_fills.specs.Fills.{Fills, fills, Within, within, default_of, first_default, fill_of, fills_of, fills_within}
use Rattle.hub_fills.specs.Late.{is_plain, pairs_plainly, all_pair}
use Rattle.hub_fills.specs.Sound.{IsAmong, EachLevel, AreAmong, HasLevel}
use Rattle.hub_fills.specs.laws.NameLaws.{one_name, has_cases}
use Rattle.hub_fills.specs.laws.RightLaws.{CellFacts, level_facts, Given, from_first, pair_at, plain_one, all_inner, level_there, among_at}
use Rattle.keep_laws.specs.Marked.{IfThere, there}
use Rattle.keep_laws.specs.Body.{as_object, object_in, read, read_cells, read_inners}
use Rattle.keep_laws.specs.Complete.{IsFilled, CellsFilled, IsComplete, InnersComplete}
use Rattle.keep_laws.specs.Known.{IsObject}
use Rattle.keep_laws.specs.FittedBody.{IsBody}
use Rattle.keep_laws.proofs.Tests.{lies, none_some, some_is}
use Rattle.keep_laws.proofs.Object.{AtName, body_names}
use Rattle.keep_laws.proofs.Allowed.{IfSound, sound_at}
use Rattle.keep_laws.proofs.FittedLevels.{stands_closed, inner_speaks}

-- what is known of another spoke's level at the same object, where it has one
abbrev CompleteAt : List (Option Level) → Pairs → Option Level → Type 0
CompleteAt ms x None = Unit {0}
CompleteAt ms x (Some m) = IsComplete m (fills_of ms m) (read hub m x [])

one_shape : (s t : Shape) → some_shape s ≡ some_shape t → s ≡ t
one_shape s t e = cc

-- two places of one name in one schema are one
one_place_of : (h : Shape) (p q : Place) → IsPlaceOf h p → IsPlaceOf h q → p.name ≡ q.name → p ≡ q
one_place_of h p q a b e =
    let shape : p.shape ≡ q.shape = one_shape p.shape q.shape (sym a.shape ∙ ap (λ (k : Name). property k (properties h)) e ∙ b.shape) in
    let required : p.required ≡ q.required = a.required ∙ ap (λ (k : Name). is_required k h) e ∙ sym b.required in
    λ i. record { name = e i; shape = shape i; required = required i }

-- ---- one name

abbrev At : List (Option Level) → Pairs → List Place → Type 0
At ms x qs = IsFilled (or_else (default_of qs) (first_default ms qs)) (tuple_of (map (λ (p : Place). p.name) qs) x)

cell_filled : (ms : List (Option Level)) (x : Pairs) (k : Name) (cs : List Cell) → CellsFilled cs (map (fill_of ms) cs) (read_cells hub cs x []) → (e : Cell) → cell_at k cs ≡ Some e → At ms x e.hub
cell_filled ms x k [] h e q = absurd (cc)
cell_filled ms x k (c ∷ cs) h e q = by_test (cell_filled ms x k cs h.1 e) (has_name k (names hub c)) refl q
  where
    by_test : (cell_at k cs ≡ Some e → At ms x e.hub) → (b : Bool) → has_name k (names hub c) ≡ b → cond b (Some c) (cell_at k cs) ≡ Some e → At ms x e.hub
    by_test later true p r =
        let same : c ≡ e = cc in
        subst (λ (d : Cell). At ms x d.hub) same h.0
    by_test later false p r = later r

level_filled : (ms : List (Option Level)) (x : Pairs) (k : Name) (m : Level) → CompleteAt ms x (Some m) → (e : Cell) → cell_at k (cells_in m) ≡ Some e → At ms x e.hub
level_filled ms x k (level cs is) h e q = cell_filled ms x k cs h.0 e q

only_name : (k n : Name) → has_name k (n ∷ []) ≡ true → n ≡ k
only_name k n h = by_case (has_cases k n [] h)
  where
    by_case : (k ≡ n) ⊎ (has_name k [] ≡ true) → n ≡ k
    by_case (inl q) = sym q
    by_case (inr g) = absurd (lies g)

module _ (n : ℕ) (h : Shape) (ms : List (Option Level)) (all : AreAmong n h ms) (o : Option Level) (has : HasLevel o ms) (x : Pairs) (closed : IsClosedObject h) (b : IsBody n h x) (other : CompleteAt ms x o) where
  -- a name that the other spoke pairs
  paired_there : (q : Place) → IsPlaceOf h q → (m : Option Level) → HasLevel m ms → CompleteAt ms x m → pairs_plainly (cell_in q.name m) ≡ true → At ms x (q ∷ [])
  paired_there q at None i c g = absurd (lies g)
  paired_there q at (Some m) i c g = by_cell (cell_at q.name (cells_in m)) refl g
    where
      by_cell : (d : Option Cell) → cell_at q.name (cells_in m) ≡ d → pairs_plainly d ≡ true → At ms x (q ∷ [])
      by_cell None e p = absurd (lies p)
      by_cell (Some e) f p =
          let facts = level_facts n h ms q.name m (among_at (IsAmong n h ms) m ms all i) e f in
          let r = plain_one e facts.0.fits p in
          let placed : IsPlaceOf h r.0 = (subst (ArePlacesOf h) r.1 facts.0.stand).0 in
          let name : r.0.name ≡ q.name = only_name q.name r.0.name (subst (λ (rs : List Place). has_name q.name (map (λ (y : Place). y.name) rs) ≡ true) r.1 facts.1) in
          let same : r.0 ≡ q = one_place_of h r.0 q placed at name in
          subst (λ (y : Place). At ms x (y ∷ [])) same (subst (At ms x) r.1 (level_filled ms x q.name m c e f))

  place_there : (q : Place) → IsPlaceOf h q → At ms x (q ∷ [])
  place_there q at = by_default (own q.shape).default_value refl
    where
      by_field : (j : Json) → (own q.shape).default_value ≡ Some j → (v : Option Json) → AtName n h q.name q.shape v → some_there (v ∷ []) ≡ true
      by_field j d None g = absurd (none_some j (sym g.1 ∙ d))
      by_field j d (Some i) g = refl

      by_first : (own q.shape).default_value ≡ None → (v : Option Json) → first_default ms (q ∷ []) ≡ v → IfSome v (Given n ms q) → IsFilled v (tuple_of (q.name ∷ []) x)
      by_first d None e g = tt
      by_first d (Some j) e g =
          let pairs = pair_at q.name o ms has (g.1 (ap is_none d)) in
          subst (λ (u : Option Json). IsFilled u (tuple_of (q.name ∷ []) x)) (ap (λ (w : Option Json). or_else w (first_default ms (q ∷ []))) d ∙ e) (paired_there q at o has other pairs)

      by_default : (d : Option Json) → (own q.shape).default_value ≡ d → IsFilled (or_else d (first_default ms (q ∷ []))) (tuple_of (q.name ∷ []) x)
      by_default None d = by_first d (first_default ms (q ∷ [])) refl (from_first n h ms q at ms all)
      by_default (Some j) d = by_field j d (field q.name x) (body_names n h x closed b q.name q.shape at.shape)

  places_there : (qs : List Place) → ArePlacesOf h qs → At ms x qs
  places_there [] at = none_first ms
    where
      none_first : (os : List (Option Level)) → IsFilled (first_default os []) []
      none_first [] = tt
      none_first (y ∷ os) = none_first os
  places_there (q ∷ []) at = place_there q at.0
  places_there (q ∷ r ∷ qs) at = none_first ms
    where
      none_first : (os : List (Option Level)) → IsFilled (first_default os (q ∷ r ∷ qs)) (tuple_of (map (λ (p : Place). p.name) (q ∷ r ∷ qs)) x)
      none_first [] = tt
      none_first (y ∷ os) = none_first os

  cells_there : (cs : List Cell) → CellsStand hub n h cs → CellsFilled cs (map (fill_of ms) cs) (read_cells hub cs x [])
  cells_there [] s = tt
  cells_there (c ∷ cs) s = (places_there c.hub s.1, cells_there cs s.2)

-- ---- the objects inside

-- what the other spoke's level says of an object
inner_filled : (ms : List (Option Level)) (x : Pairs) (k : Name) (is : Inners) → InnersComplete is (fills_within ms is) (read_inners hub is x []) → (m : Level) → level_at k is ≡ Some m → (y : Pairs) → object_in (field k x) ≡ Some y → IsComplete m (fills_of (map (level_in k) ms) m) (read hub m y [])
inner_filled ms x k no_inner h m e y q = absurd (cc)
inner_filled ms x k (inner a b r l is) h m e y q = by_test (λ f. inner_filled ms x k is h.1 m f y q) (bytes_eq k b) refl e
  where
    by_test : (level_at k is ≡ Some m → IsComplete m (fills_of (map (level_in k) ms) m) (read hub m y [])) → (t : Bool) → bytes_eq k b ≡ t → cond t (Some l) (level_at k is) ≡ Some m → IsComplete m (fills_of (map (level_in k) ms) m) (read hub m y [])
    by_test later true p f =
        let same : l ≡ m = cc in
        let name : b ≡ k = sym (one_name k b p) in
        let there_is : object_in (field b x) ≡ Some y = ap (λ (z : Name). object_in (field z x)) name ∙ q in
        let here : IsComplete l (fills_of (map (level_in b) ms) l) (read hub l y []) = subst (λ (v : Option Pairs). IfThere (IsComplete l (fills_of (map (level_in b) ms) l)) (there (λ (z : Pairs). read hub l z []) v)) there_is h.0 in
        subst (λ (d : Level). IsComplete d (fills_of (map (level_in k) ms) d) (read hub d y [])) same (subst (λ (z : Name). IsComplete l (fills_of (map (level_in z) ms) l) (read hub l y [])) name here)
    by_test later false p f = later f

other_inside : (ms : List (Option Level)) (x : Pairs) (k : Name) (o : Option Level) → CompleteAt ms x o → (y : Pairs) → object_in (field k x) ≡ Some y → CompleteAt (map (level_in k) ms) y (level_in k o)
other_inside ms x k None c y q = tt
other_inside ms x k (Some (level cs is)) c y q = by_level (level_at k is) refl
  where
    by_level : (m : Option Level) → level_at k is ≡ m → CompleteAt (map (level_in k) ms) y m
    by_level None e = tt
    by_level (Some m) e = inner_filled ms x k is c.1 m e y q

-- an object there, of which something is so
object_so : (Q : Pairs → Type 0) (j : Json) → IsObject (λ y. as_object j ≡ Some y → Q y) j → (v : Option Pairs) → as_object j ≡ v → (y : Pairs) → v ≡ Some y → Q y
object_so Q null h v e y q = absurd h
object_so Q (boolean t) h v e y q = absurd h
object_so Q (whole z) h v e y q = absurd h
object_so Q (text s) h v e y q = absurd h
object_so Q (list js) h v e y q = absurd h
object_so Q (object ms) h v e y q =
    let same = some_is _ _ (e ∙ q) in
    subst Q same (h refl)

if_there : {M : Type 0} (P : M → Type 0) (f : Pairs → M) (v : Option Pairs) → ((y : Pairs) → v ≡ Some y → P (f y)) → IfThere P (there f v)
if_there P f None h = tt
if_there P f (Some y) h = h y refl

one_inside : {R : Type 0} (n : ℕ) (h : Shape) (k : Name) (t : Shape) (x : Pairs) (P : Pairs → Type 0) → IsClosedObject t → ((y : Pairs) → AreRising (members_of y) → IsBody (suc n) t y → object_in (field k x) ≡ Some y → P y) → (((y : Pairs) → object_in (field k x) ≡ Some y → P y) → R) → (v : Option Json) → field k x ≡ v → IfSound v → AtName n h k t v → R
one_inside n h k t x P cl go make None e s g = make (λ y q. absurd (none_some y (sym (ap object_in e) ∙ q)))
one_inside n h k t x P cl go make (Some j) e s g =
    make (λ y q. object_so P j (inner_speaks n t (λ z. as_object j ≡ Some z → P z) cl (λ z p r f. go z p r (ap object_in e ∙ f)) j s g.0 g.1 g.2) (as_object j) refl y (sym (ap object_in e) ∙ q))

mutual
  pub other_complete : (n : ℕ) (h : Shape) (ms : List (Option Level)) (o : Option Level) (l : Level) (x : Pairs) → AreAmong n h ms → HasLevel o ms → Stands hub n h l → AreRising (members_of x) → IsBody n h x → CompleteAt ms x o → IsComplete l (fills_of ms l) (read hub l x [])
  other_complete n h ms o (level cs is) x all has st rise b c =
      (cells_there n h ms all o has x st.0 b c cs st.2, others_inside n h ms o is x all has st.0 st.3 rise b c)

  others_inside : (n : ℕ) (h : Shape) (ms : List (Option Level)) (o : Option Level) (is : Inners) (x : Pairs) → AreAmong n h ms → HasLevel o ms → IsClosedObject h → InnersStand hub n h is → AreRising (members_of x) → IsBody n h x → CompleteAt ms x o → InnersComplete is (fills_within ms is) (read_inners hub is x [])
  others_inside n h ms o no_inner x all has cl st rise b c = tt
  others_inside n h ms o (inner a k r l is) x all has cl st rise b c =
      let t = st.0 in
      let P : Pairs → Type 0 = λ y. IsComplete l (fills_of (map (level_in k) ms) l) (read hub l y []) in
      let inside : (y : Pairs) → AreRising (members_of y) → IsBody (suc n) t.0 y → object_in (field k x) ≡ Some y → P y = λ y p q e. other_complete (suc n) t.0 (map (level_in k) ms) (level_in k o) l y (all_inner n h ms k t.0 t.1 all) (level_there k o ms has) t.4 p q (other_inside ms x k o c y e) in
      (one_inside n h k t.0 x P (stands_closed hub (suc n) t.0 l t.4) inside (λ f. if_there (IsComplete l (fills_of (map (level_in k) ms) l)) (λ (y : Pairs). read hub l y []) (object_in (field k x)) f) (field k x) refl (sound_at x rise k) (body_names n h x cl b k t.0 t.1), others_inside n h ms o is x all has cl st.1 rise b c)
