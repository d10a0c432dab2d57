-- Where the objects of a version stand.
use Rattle.std.proofs.Common.{◌≡◌, ◌∙◌, ◌≤◌, ℕ, suc, List, [], ◌∷◌, length, Bool, true, false, Option, Some, None, refl, ap, arith}
use Rattle.std.specs.Prelude.{slice_get, ◌==◌, if◌then◌else◌}
use Rattle.std.proofs.lemmas.Bool.Decides.{Decides-eqb}
use Rattle.kj_value.specs.Fields.{Pairs}
use Rattle.hub_cells.specs.Side.{hub}
use Rattle.keep_laws.specs.FittedBody.{IsBodyOf}
use Rattle.keep_laws.specs.Spokes.{Spoke}
use Rattle.keep_laws.specs.WholeHub.{IsHubBody}
use Rattle.crd_meaning.specs.Definition.{Definition, at_hub, at_spoke, spoke_seat, spoke_place, seat}

pub record Place (d : Definition) (s : Spoke) : Type 0 where
  pub at : ℕ
  pub found : slice_get d.spokes.items at ≡ Some s

spoke_one : (s t : Spoke) → at_spoke s ≡ at_spoke t → s ≡ t
spoke_one s t e = cc

pub seat_place : (d : Definition) (v : ℕ) (s : Spoke) → seat d v ≡ at_spoke s → Place d s
seat_place d v s e = by_hub (v == d.hub) e
  where
    by_spoke : (o : Option Spoke) → slice_get d.spokes.items (spoke_place d.hub v) ≡ o → spoke_seat o ≡ at_spoke s → Place d s
    by_spoke None p e = absurd (cc)
    by_spoke (Some t) p e = record { at = spoke_place d.hub v; found = p ∙ ap Some (spoke_one t s e) }

    by_hub : (b : Bool) → (if b then at_hub else spoke_seat (slice_get d.spokes.items (spoke_place d.hub v))) ≡ at_spoke s → Place d s
    by_hub true e = absurd (cc)
    by_hub false e = by_spoke (slice_get d.spokes.items (spoke_place d.hub v)) refl e

pub hub_is : (d : Definition) (v : ℕ) → seat d v ≡ at_hub → v ≡ d.hub
hub_is d v e = by_hub (v == d.hub) refl e
  where
    by_spoke : (o : Option Spoke) → spoke_seat o ≡ at_hub → v ≡ d.hub
    by_spoke None e = absurd (cc)
    by_spoke (Some t) e = absurd (cc)

    by_hub : (b : Bool) → (v == d.hub) ≡ b → (if b then at_hub else spoke_seat (slice_get d.spokes.items (spoke_place d.hub v))) ≡ at_hub → v ≡ d.hub
    by_hub true q e = (Decides-eqb v d.hub).0 q
    by_hub false q e = by_spoke (slice_get d.spokes.items (spoke_place d.hub v)) e

-- there is a spoke, by whose schema of the hub bodies of the hub are judged
pub first_spoke : (ss : List Spoke) → 2 ≤ suc (length ss) → (s : Spoke) × (slice_get ss 0 ≡ Some s) × ((x : Pairs) → IsHubBody ss x → IsBodyOf hub s.fit x)
first_spoke [] h = let g : 2 ≤ 1 = h in absurd (omega arith)
first_spoke (s ∷ ss) h = (s, refl, λ x b. b.0)
