-- A whole object has one form at a version, and is the only one that has it.
use Rattle.std.proofs.Common.{◌≡◌, ◌∙◌, ℕ, refl, sym}
use Rattle.kube_meta.specs.View.{ObjectView}
use Rattle.keep_laws.specs.Spokes.{Spoke}
use Rattle.keep_laws.specs.WholeHub.{IsWholeHub}
use Rattle.crd_meaning.specs.Definition.{Definition, Seat, at_hub, at_spoke, nowhere, seat, IsLoaded}
use Rattle.crd_meaning.specs.Objects.{IsWholeValue, PairsAt, IsFormAt}
use Rattle.crd_meaning.specs.Admission.{LeftAt}
use Rattle.crd_meaning.specs.Given.{Given}
use Rattle.crd_meaning.proofs.Seats.{Place, seat_place}

module _ (given : Given) (d : Definition) (loaded : IsLoaded d) where
  one_at : (z : Seat) → ((s : Spoke) → z ≡ at_spoke s → Place d s) → (h x y : ObjectView) → IsWholeHub d.spokes h → PairsAt d.spokes z h x → PairsAt d.spokes z h y → x ≡ y
  one_at at_hub place h x y w p q = p ∙ sym q
  one_at (at_spoke s) place h x y w p q =
      let here = place s refl in
      given.spoke d.spokes here.at s loaded.definition here.found x y h p.0 q.0 w p.1 q.1
  one_at nowhere place h x y w p q = absurd p

  pub one_form : (v : ℕ) (h x y : ObjectView) → IsWholeValue d h → IsFormAt d v h x → IsFormAt d v h y → x ≡ y
  one_form v h x y w p q = one_at (seat d v) (seat_place d v) h x y w.hub p q

  only_at : (z : Seat) → ((s : Spoke) → z ≡ at_spoke s → Place d s) → (g h x : ObjectView) → IsWholeHub d.spokes g → IsWholeHub d.spokes h → PairsAt d.spokes z g x → PairsAt d.spokes z h x → g ≡ h
  only_at at_hub place g h x v w p q = sym p ∙ q
  only_at (at_spoke s) place g h x v w p q =
      let here = place s refl in
      given.hub d.spokes here.at s loaded.definition here.found x g h v.object w.object (given.settled d.spokes here.at s loaded.definition here.found x g p.0 v p.1) p.1 q.1
  only_at nowhere place g h x v w p q = absurd p

  pub only_hub : (v : ℕ) (g h x : ObjectView) → IsWholeValue d g → IsWholeValue d h → IsFormAt d v g x → IsFormAt d v h x → g ≡ h
  only_hub v g h x wg wh p q = only_at (seat d v) (seat_place d v) g h x wg.hub wh.hub p q

  left_at : (z : Seat) → ((s : Spoke) → z ≡ at_spoke s → Place d s) → (x y w : ObjectView) → LeftAt d.spokes z x y → LeftAt d.spokes z x w → y ≡ w
  left_at at_hub place x y w p q = given.left_at_hub d.spokes x y w p q
  left_at (at_spoke s) place x y w p q =
      let here = place s refl in
      given.left d.spokes here.at s loaded.definition here.found x y w p q
  left_at nowhere place x y w p q = absurd p

  pub one_left : (v : ℕ) (x y w : ObjectView) → LeftAt d.spokes (seat d v) x y → LeftAt d.spokes (seat d v) x w → y ≡ w
  one_left v x y w p q = left_at (seat d v) (seat_place d v) x y w p q
