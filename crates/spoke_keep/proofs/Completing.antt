-- A body of the hub, completed along the first spoke's level; and where there is no spoke it stays.
use Rattle.std.proofs.Common.{◌≡◌, ℕ, zero, suc, List, [], ◌∷◌, map, length, get_or, Some, None, refl, ap, ◌∙◌, arith}
use Rattle.hub_fills.specs.Fills.{Fills}
use Rattle.std.specs.Prelude.{slice_get}
use Rattle.kj_value.specs.Json.{members_of}
use Rattle.kj_value.specs.Fields.{Pairs}
use Rattle.kj_value.specs.Sound.{AreRising}
use Rattle.hub_cells.specs.Side as sides
use Rattle.keep_laws.specs.Complete.{completed}
use Rattle.keep_laws.specs.Known.{IsKnown}
use Rattle.kube_meta.specs.View.{ObjectView}
use Rattle.keep_laws.specs.Spokes.{Spoke, Spokes, IsDefinition, fills_at, api_version}
use Rattle.keep_laws.specs.Keys.{KeyKind, plain, of_hub, of_spoke, of_none, key_kind}
use Rattle.keep_laws.specs.WholeHub.{IsHubBody}
use Rattle.keep_laws.specs.Judging.{OtherNote}
use Rattle.keep_laws.specs.Settling.{completed_first, completed_hub}
use Rattle.keep_laws.specs.Given.{Laws}
use Rattle.keep_laws.proofs.SpokesFitted.{fits, hub_body_at}
use Rattle.keep_laws.proofs.Made.{first_is, settles_hub}
use Rattle.keep_laws.proofs.Trips.{settles_hub_whole}

pub first_known : Laws → (all : Spokes) (s : Spoke) → IsDefinition all → slice_get all.items 0 ≡ Some s → (body : Pairs) → AreRising (members_of body) → IsHubBody all.items body → IsKnown sides.hub s.fit.level body
first_known laws all s def place body rises bodies =
    laws.known sides.hub s.fit body (fits all 0 s def place) rises (hub_body_at all.items 0 s body bodies place)

-- no annotation stays none
stays_none : (body : Pairs) (c : KeyKind) → OtherNote None body c None None
stays_none body plain = refl
stays_none body of_hub = refl
stays_none body (of_spoke s) = refl
stays_none body of_none = refl

-- the completed body is one that the hub's schema allows: it is that of what settles of an object without annotations
pub full_body : Laws → (all : Spokes) → IsDefinition all → (x : ObjectView) (full : Pairs) → AreRising (members_of x.body) → IsHubBody all.items x.body → AreRising (members_of full) → full ≡ completed_hub all x.body → IsHubBody all.items full
full_body laws all def x full rises bodies after e =
    let bare : ObjectView = record { api_version = api_version all.group all.hub; kind = x.kind; meta = record x.meta { annotations = [] }; body = x.body } in
    let left : ObjectView = record bare { meta = record bare.meta { annotations = [] }; body = full } in
    (settles_hub_whole laws all def bare left refl rises bodies (settles_hub all bare full [] tt after e (λ k. stays_none full (key_kind all k)))).body

-- ---- beside each spoke stands what the hub's names become

pub mapped_at : (g : Spoke → Fills) (ss : List Spoke) (v : ℕ) (s : Spoke) (f : Fills) → slice_get ss v ≡ Some s → f ≡ get_or (map g ss) v f → f ≡ g s
mapped_at g [] v s f e h = absurd (cc)
mapped_at g (t ∷ ss) zero s f e h =
    let same : t ≡ s = cc in
    h ∙ ap g same
mapped_at g (t ∷ ss) (suc v) s f e h = mapped_at g ss v s f e h
