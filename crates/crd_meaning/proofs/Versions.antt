-- A version is known by its name.
use Rattle.std.proofs.Common.{◌≡◌, ◌∙◌, ◌<◌, ℕ, zero, suc, List, [], ◌∷◌, Bool, true, false, Option, Some, None, refl, ap, sym, arith}
use Rattle.std.specs.Prelude.{slice_get, nat_lt, ◌-◌, ◌==◌, if◌then◌else◌}
use Rattle.std.proofs.lemmas.Bool.Decides.{Decides-eqb, nat_tests}
use Rattle.hub_cells.specs.Level.{Name, IsFresh, AreDistinct}
use Rattle.keep_laws.specs.Spokes.{Spoke, spoke_names}
use Rattle.crd_meaning.specs.Definition.{Definition, at_hub, spoke_seat, spoke_place, seat, version_at, count_of, IsSeated, IsLoaded}

-- ---- spokes have distinct names

fresh_at : (k : Name) (ss : List Spoke) (p : ℕ) (s : Spoke) → IsFresh k (spoke_names ss) → slice_get ss p ≡ Some s → k ≡ s.name → ⊥
fresh_at k [] p s f e n = absurd (cc)
fresh_at k (t ∷ ss) zero s f e n =
    let same : t ≡ s = cc in
    f.0 (n ∙ ap (λ (u : Spoke). u.name) (sym same))
fresh_at k (t ∷ ss) (suc p) s f e n = fresh_at k ss p s f.1 e n

one_place : (ss : List Spoke) (p q : ℕ) (s t : Spoke) → AreDistinct (spoke_names ss) → slice_get ss p ≡ Some s → slice_get ss q ≡ Some t → s.name ≡ t.name → p ≡ q
one_place [] p q s t d e f n = absurd (cc)
one_place (u ∷ ss) zero zero s t d e f n = refl
one_place (u ∷ ss) zero (suc q) s t d e f n =
    let same : u ≡ s = cc in
    absurd (fresh_at u.name ss q t d.0 f (ap (λ (w : Spoke). w.name) same ∙ n))
one_place (u ∷ ss) (suc p) zero s t d e f n =
    let same : u ≡ t = cc in
    absurd (fresh_at u.name ss p s d.0 e (ap (λ (w : Spoke). w.name) same ∙ sym n))
one_place (u ∷ ss) (suc p) (suc q) s t d e f n = ap suc (one_place ss p q s t d.1 e f n)

-- ---- where a version stands

-- the version is the hub, or has a spoke of its name at its place
pub data Stands (d : Definition) (v : ℕ) : Type 0 where
  is_hub : v ≡ d.hub → Stands d v
  is_spoke : (s : Spoke) → (v ≡ d.hub → ⊥) → slice_get d.spokes.items (spoke_place d.hub v) ≡ Some s → s.name ≡ (version_at d v).name → Stands d v

pub stands : (d : Definition) (v : ℕ) → IsSeated (version_at d v) (seat d v) → Stands d v
stands d v h = by_hub (v == d.hub) refl h
  where
    by_spoke : (o : Option Spoke) → slice_get d.spokes.items (spoke_place d.hub v) ≡ o → (v ≡ d.hub → ⊥) → IsSeated (version_at d v) (spoke_seat o) → Stands d v
    by_spoke None e n i = absurd i
    by_spoke (Some s) e n i = is_spoke s n e i.name

    by_hub : (b : Bool) → (v == d.hub) ≡ b → IsSeated (version_at d v) (if b then at_hub else spoke_seat (slice_get d.spokes.items (spoke_place d.hub v))) → Stands d v
    by_hub true e i = is_hub ((Decides-eqb v d.hub).0 e)
    by_hub false e i = by_spoke (slice_get d.spokes.items (spoke_place d.hub v)) refl (λ q. lies ((Decides-eqb v d.hub).1 q)) i
      where
        lies : (v == d.hub) ≡ true → ⊥
        lies q = let l : false ≡ true = sym e ∙ q in cc

same_version : (hub v w : ℕ) → (v ≡ hub → ⊥) → (w ≡ hub → ⊥) → spoke_place hub v ≡ spoke_place hub w → v ≡ w
same_version hub v w n m e = by_tests (nat_lt v hub) (nat_lt w hub) refl refl e
  where
    by_tests : (a b : Bool) → nat_lt v hub ≡ a → nat_lt w hub ≡ b → (if a then v else v - 1) ≡ (if b then w else w - 1) → v ≡ w
    by_tests true true p q r = r
    by_tests true false p q r = grind (arith, nat_tests)
    by_tests false true p q r = grind (arith, nat_tests)
    by_tests false false p q r = grind (arith, nat_tests)

module _ (d : Definition) (loaded : IsLoaded d) where
  by_stand : (v w : ℕ) → (version_at d v).name ≡ (version_at d w).name → Stands d v → Stands d w → v ≡ w
  by_stand v w n (is_hub p) (is_hub q) = p ∙ sym q
  by_stand v w n (is_hub p) (is_spoke t m f k) =
      absurd (fresh_at d.spokes.hub d.spokes.items (spoke_place d.hub w) t loaded.definition.names.0 f (loaded.hub_name ∙ ap (λ (i : ℕ). (version_at d i).name) (sym p) ∙ n ∙ sym k))
  by_stand v w n (is_spoke s m e i) (is_hub q) =
      absurd (fresh_at d.spokes.hub d.spokes.items (spoke_place d.hub v) s loaded.definition.names.0 e (loaded.hub_name ∙ ap (λ (i : ℕ). (version_at d i).name) (sym q) ∙ sym n ∙ sym i))
  by_stand v w n (is_spoke s m e i) (is_spoke t l f k) =
      same_version d.hub v w m l (one_place d.spokes.items (spoke_place d.hub v) (spoke_place d.hub w) s t loaded.definition.names.1 e f (i ∙ n ∙ sym k))

  pub one_version : (v w : ℕ) → v < count_of d → w < count_of d → (version_at d v).name ≡ (version_at d w).name → v ≡ w
  one_version v w a b n = by_stand v w n (stands d v (loaded.seats v a)) (stands d w (loaded.seats w b))
