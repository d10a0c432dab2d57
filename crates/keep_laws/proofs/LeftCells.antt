-- What comes back of what went over and was completed: each cell as it was, or the form of its default value.
use Rattle.std.proofs.Common.{◌≡◌, List, [], ◌∷◌, Bool, true, false, ◌⊎◌, inl, inr, Option, Some, None, refl, ap, sym, subst, ◌∙◌}
use Rattle.kj_value.specs.Json.{Json}
use Rattle.hub_cells.specs.Side.{Side, spoke, hub}
use Rattle.hub_cells.specs.Cell.{Tuple, one}
use Rattle.hub_cells.specs.Cross.{matched}
use Rattle.hub_cells.specs.Level.{Cell, allows, some_there, can_default, MatchThere, CellFits, CellsFit, Fits, InnersFit, Level, level, Inners, no_inner, inner}
use Rattle.hub_fills.specs.Fills.{Fills, fills, Within, nothing_within, within}
use Rattle.hub_fills.specs.Right.{IsRight, AreRight, RightFills, RightWithin}
use Rattle.keep_laws.specs.Marked.{Mark, Marks, Marked, MarkedInners, IsAlive, AreGood, OrAbsent, IsGood, InnersGood, there, crossed_as, crossed_mark, crossed_marks, crossed, crossed_inners}
use Rattle.keep_laws.specs.Pairing.{BothOrNeither}
use Rattle.keep_laws.specs.Complete.{where_absent, filled_tuple, filled_marks, filled, filled_inners}
use Rattle.keep_laws.specs.LeftNotes.{CellLeft, CellsLeft, IsLeft, InnersLeft}
use Rattle.keep_laws.proofs.LawA.{mark_good, mark_back}
use Rattle.keep_laws.proofs.Completing.{unmatched_there, alive_there}
use Rattle.keep_laws.proofs.Tests.{lies}

abbrev Good : Side → Cell → Mark → Type 0
Good d c m = (allows d c m.0 ≡ true) × IsAlive d c m.0 m.1

module _ (c : Cell) (f : CellFits c) (j : Json) (r : IsRight c (Some j)) (t : Tuple) (k : Option Tuple) (g : Good spoke c (t, k)) where
  -- where the hub's name isn't there
  nothing_there : (m : Mark) → crossed_mark spoke c.kind t k ≡ m → some_there m.0 ≡ false → (some_there t ≡ false) × (k ≡ None)
  nothing_there m e n = by_kept k g e
    where
      by_match : (o : Option Tuple) → crossed_as spoke c.kind o t ≡ m → MatchThere c spoke o t → some_there m.0 ≡ true
      by_match None q h = ap (λ (x : Mark). some_there x.0) (sym q) ∙ h
      by_match (Some u) q h = ap (λ (x : Mark). some_there x.0) (sym q) ∙ h

      by_there : (b : Bool) → some_there t ≡ b → crossed_as spoke c.kind (matched spoke c.kind t) t ≡ m → b ≡ false
      by_there false p q = refl
      by_there true p q = absurd (lies (sym n ∙ by_match (matched spoke c.kind t) q (f.there spoke t (r.can refl) g.0 p)))

      by_kept : (o : Option Tuple) → Good spoke c (t, o) → crossed_mark spoke c.kind t o ≡ m → (some_there t ≡ false) × (o ≡ None)
      by_kept None h q = (by_there (some_there t) refl q, refl)
      by_kept (Some u) h q =
          absurd (lies (sym n ∙ ap (λ (x : Mark). some_there x.0) (sym q) ∙ unmatched_there c f hub u h.1.0 h.1.1))

  back_is : crossed_mark hub c.kind (crossed_mark spoke c.kind t k).0 (crossed_mark spoke c.kind t k).1 ≡ (t, k)
  back_is = mark_back spoke c t k f g

  by_over : (u : Tuple) (w : Option Tuple) → crossed_mark spoke c.kind t k ≡ (u, w) → Good hub c (u, w) → CellLeft c.kind (Some j) (t, k) (crossed_mark hub c.kind (where_absent j u) w)
  by_over [] w e h = inl (ap (λ (m : Mark). crossed_mark hub c.kind m.0 m.1) (sym e) ∙ back_is)
  by_over (None ∷ []) None e h = let q = nothing_there (None ∷ [], None) e refl in inr (q.0, q.1, refl)
  by_over (None ∷ []) (Some u) e h = absurd (lies (alive_there c f (r.can refl) (None ∷ []) u h.1))
  by_over (None ∷ o ∷ os) w e h = inl (ap (λ (m : Mark). crossed_mark hub c.kind m.0 m.1) (sym e) ∙ back_is)
  by_over (Some i ∷ os) w e h = inl (ap (λ (m : Mark). crossed_mark hub c.kind m.0 m.1) (sym e) ∙ back_is)

  filled_left : CellLeft c.kind (Some j) (t, k) (crossed_mark hub c.kind (where_absent j (crossed_mark spoke c.kind t k).0) (crossed_mark spoke c.kind t k).1)
  filled_left = by_over (crossed_mark spoke c.kind t k).0 (crossed_mark spoke c.kind t k).1 refl (mark_good spoke c t k f g)

mark_left : (c : Cell) → CellFits c → (v : Option Json) → IsRight c v → (t : Tuple) (k : Option Tuple) → Good spoke c (t, k) → CellLeft c.kind v (t, k) (crossed_mark hub c.kind (filled_tuple v (crossed_mark spoke c.kind t k).0) (crossed_mark spoke c.kind t k).1)
mark_left c f None r t k g = mark_back spoke c t k f g
mark_left c f (Some j) r t k g = filled_left c f j r t k g

cells_left : (cs : List Cell) (vs : List (Option Json)) (ms : Marks cs) → CellsFit cs → AreRight cs vs → AreGood spoke cs ms → CellsLeft cs vs ms (crossed_marks hub cs (filled_marks cs vs (crossed_marks spoke cs ms)))
cells_left [] vs ms f r g = tt
cells_left (c ∷ cs) [] ms f r g = absurd r
cells_left (c ∷ cs) (v ∷ vs) ms f r g = (mark_left c f.0 v r.0 ms.0.0 ms.0.1 g.0, cells_left cs vs ms.1 f.1 r.1 g.1)

both_there : {A : Type 0} (rq : Bool) (P : A → Type 0) (R : A → A → Type 0) (f g h : A → A) → ((x : A) → P x → R x (f (g (h x)))) → (o : Option A) → OrAbsent rq P o → BothOrNeither R o (there f (there g (there h o)))
both_there rq P R f g h e None p = tt
both_there rq P R f g h e (Some x) p = e x p

mutual
  pub level_left : (l : Level) (f : Fills) (m : Marked l) → Fits l → RightFills l f → IsGood spoke l m → IsLeft l f m (crossed hub l (filled l f (crossed spoke l m)))
  level_left (level cs is) (fills vs fs) m t r g = (cells_left cs vs m.0 t.0 r.0 g.0, inners_left is fs m.1 t.1 r.1 g.1)

  inners_left : (is : Inners) (fs : Within) (ms : MarkedInners is) → InnersFit is → RightWithin is fs → InnersGood spoke is ms → InnersLeft is fs ms (crossed_inners hub is (filled_inners is fs (crossed_inners spoke is ms)))
  inners_left no_inner fs ms t r g = tt
  inners_left (inner a b rq l is) nothing_within ms t r g = absurd r
  inners_left (inner a b rq l is) (within f fs) ms t r g = (
    both_there rq (IsGood spoke l) (IsLeft l f) (crossed hub l) (filled l f) (crossed spoke l) (λ m h. level_left l f m t.0 r.0 h) ms.0 g.0,
    inners_left is fs ms.1 t.1 r.1 g.1,
  )
