-- The places of spokes.
use Rattle.std.proofs.Common.{◌≡◌, ◌∙◌, ◌<◌, ◌≤◌, ℕ, Bool, true, false, Option, Some, None, refl, ap, arith}
use Rattle.std.specs.Prelude.{slice_get, nat_lt, ◌-◌, ◌==◌, if◌then◌else◌}
use Rattle.std.proofs.lemmas.Bool.Decides.{Decides-eqb, Decides-ltb}
use Rattle.crd_reading.specs.View.{VersionView}
use Rattle.keep_laws.specs.Spokes.{Spoke}
use Rattle.crd_meaning.specs.Definition.{Definition, version_at, at_hub, at_spoke, spoke_seat, spoke_place, seat, IsSeated}

pub place_before : (hub v : ℕ) → v < hub → v ≡ spoke_place hub v
place_before hub v h = by_test (nat_lt v hub) ((Decides-ltb v hub).1 h)
  where
    by_test : (b : Bool) → b ≡ true → v ≡ (if b then v else v - 1)
    by_test true q = refl
    by_test false q = absurd (cc)

pub place_behind : (hub v : ℕ) → hub ≤ v → v - 1 ≡ spoke_place hub v
place_behind hub v h = by_test (nat_lt v hub) refl
  where
    by_test : (b : Bool) → nat_lt v hub ≡ b → v - 1 ≡ (if b then v else v - 1)
    by_test true q =
        let below : v < hub = (Decides-ltb v hub).0 q in
        absurd (omega arith)
    by_test false q = refl

-- where the objects of a version stand that isn't the hub
abbrev pub StandsAt : Definition → ℕ → ℕ → Type 0
StandsAt d v p = (s : Spoke) × (slice_get d.spokes.items p ≡ Some s) × (seat d v ≡ at_spoke s)

seated : (b : Bool) (o : Option Spoke) (w : VersionView) → b ≡ false → IsSeated w (if b then at_hub else spoke_seat o) → (s : Spoke) × (o ≡ Some s) × ((if b then at_hub else spoke_seat o) ≡ at_spoke s)
seated true o w q h = absurd (cc)
seated false None w q h = absurd h
seated false (Some s) w q h = (s, refl, refl)

differs : (v hub : ℕ) → (v ≡ hub → ⊥) → (v == hub) ≡ false
differs v hub n = by_test (v == hub) refl
  where
    by_test : (b : Bool) → (v == hub) ≡ b → b ≡ false
    by_test true q = absurd (n ((Decides-eqb v hub).0 q))
    by_test false q = refl

pub stands_at : (d : Definition) (v p : ℕ) → (v ≡ d.hub → ⊥) → p ≡ spoke_place d.hub v → IsSeated (version_at d v) (seat d v) → StandsAt d v p
stands_at d v p n e h =
    let s = seated (v == d.hub) (slice_get d.spokes.items (spoke_place d.hub v)) (version_at d v) (differs v d.hub n) h in
    (s.0, ap (λ (i : ℕ). slice_get d.spokes.items i) e ∙ s.1, s.2)
