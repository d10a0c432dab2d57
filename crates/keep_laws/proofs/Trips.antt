-- Over and back: what settles, what stays, and which objects come back.
use Rattle.std.proofs.Common.{◌≡◌, ℕ, zero, List, [], ◌∷◌, bytes_eq, Option, Some, None, refl, ap, sym, subst, ◌∙◌}
use Rattle.std.specs.Prelude.{slice_get}
use Rattle.kj_value.specs.Json.{members_of}
use Rattle.kj_value.specs.Sound.{AreRising}
use Rattle.kj_value.specs.Fields.{Pairs}
use Rattle.kube_meta.specs.View.{ObjectView}
use Rattle.hub_cells.specs.Side.{spoke, hub}
use Rattle.keep_laws.specs.Marked.{Marked, IsGood}
use Rattle.keep_laws.specs.Body.{read}
use Rattle.keep_laws.specs.Settle.{settled_marks}
use Rattle.keep_laws.specs.Complete.{filled, completed, IsComplete}
use Rattle.keep_laws.specs.Whole.{Held, marks_of, object_of}
use Rattle.keep_laws.specs.FittedBody.{IsBodyOf}
use Rattle.keep_laws.specs.Spokes.{Spoke, Spokes, IsDefinition, fills_at, api_version}
use Rattle.keep_laws.specs.Keys.{KeyKind, plain, of_hub, of_spoke, of_none, key_kind}
use Rattle.keep_laws.specs.Notes.{noted, IsObject, with_entries}
use Rattle.keep_laws.specs.Pair.{IsPairOf}
use Rattle.keep_laws.specs.WholeHub.{WholeNote, IsCompleteFor, IsWholeHub, IsSettledAt, IsHubBody}
use Rattle.keep_laws.specs.Judging.{OtherNote, Carries}
use Rattle.keep_laws.specs.Settling.{IsRestOf, completed_first, completed_hub, SettlesAtSpoke, SettlesAtHub}
use Rattle.keep_laws.specs.Over.{GoesOver}
use Rattle.keep_laws.specs.Given.{Laws}
use Rattle.keep_laws.proofs.Texts.{same_fields}
use Rattle.keep_laws.proofs.Keys.{KindSays, kind_says}
use Rattle.keep_laws.proofs.Back.{marks_back, no_name_twice}
use Rattle.keep_laws.proofs.Dead.{settled_good}
use Rattle.keep_laws.proofs.Completing.{filled_good, filled_complete}
use Rattle.keep_laws.proofs.Marks.{object_whole, nothing_dead, completed_same}
use Rattle.keep_laws.proofs.Notes.{judged_one, same_meta, same_object}
use Rattle.keep_laws.proofs.SpokesFitted.{fits, right, hub_body_at}
use Rattle.keep_laws.proofs.CompleteHub.{complete_at}
use Rattle.keep_laws.proofs.Pairs.{ready, one_object, settled_of}
use Rattle.keep_laws.proofs.Judged.{allowed, judged_whole, whole_judged}
use Rattle.keep_laws.proofs.Hubs.{made_hub, over_whole, over_one, over_self, settle_pair}

-- ---- at the hub

hub_self : (body : Pairs) (c : KeyKind) (o : Option (List ℕ)) → WholeNote body c o → OtherNote None body c o o
hub_self body plain o w = refl
hub_self body of_hub o w = w
hub_self body (of_spoke s) o w = whole_judged s body o o refl w
hub_self body of_none o w = w

rest_one : (x y z : ObjectView) → IsRestOf x y → IsRestOf x z → y.body ≡ z.body → ((k : List ℕ) → noted k y ≡ noted k z) → y ≡ z
rest_one x y z a b body notes =
    let same : y.meta.annotations ≡ z.meta.annotations = same_fields y.meta.annotations z.meta.annotations a.object.annotations b.object.annotations notes in
    same_object y z (a.version ∙ sym b.version) (a.kind ∙ sym b.kind) (same_meta y.meta z.meta (a.meta ∙ sym b.meta) same) body

module _ (laws : Laws) (all : Spokes) where
  hub_one : (ya za : Pairs) (c : KeyKind) (o p q : Option (List ℕ)) → ya ≡ za → OtherNote None ya c o p → OtherNote None za c o q → p ≡ q
  hub_one ya za plain o p q e a b = a ∙ sym b
  hub_one ya za of_hub o p q e a b = a ∙ sym b
  hub_one ya za (of_spoke s) o p q e a b = judged_one laws.one s za o p q (subst (λ (body : Pairs). OtherNote None body (of_spoke s) o p) e a) b
  hub_one ya za of_none o p q e a b = a ∙ sym b

  pub settles_hub_one : (x y z : ObjectView) → SettlesAtHub all x y → SettlesAtHub all x z → y ≡ z
  settles_hub_one x y z a b =
      let body : y.body ≡ z.body = a.body ∙ sym b.body in
      rest_one x y z a.rest b.rest body (λ k. hub_one y.body z.body (key_kind all k) (noted k x) (noted k y) (noted k z) body (a.notes k) (b.notes k))

  hub_notes : IsDefinition all → (body : Pairs) → AreRising (members_of body) → IsHubBody all.items body → (k : List ℕ) (c : KeyKind) (o p : Option (List ℕ)) → KindSays all k c → OtherNote None body c o p → WholeNote body c p
  hub_notes def body rises bodies k plain o p h e = tt
  hub_notes def body rises bodies k of_hub o p h e = e
  hub_notes def body rises bodies k (of_spoke s) o p h e = judged_whole laws all h.1.0 s def h.1.1 body o p rises (hub_body_at all.items h.1.0 s body bodies h.1.1) e
  hub_notes def body rises bodies k of_none o p h e = e

  -- ---- a body of the hub, completed

  module _ (def : IsDefinition all) where
    spoke_completed : (v : ℕ) (s : Spoke) → slice_get all.items v ≡ Some s → (body : Pairs) → AreRising (members_of body) → IsHubBody all.items body → AreRising (members_of (completed (fills_at all s) s.fit.level body)) → IsHubBody all.items (completed (fills_at all s) s.fit.level body) × IsCompleteFor all all.items (completed (fills_at all s) s.fit.level body)
    spoke_completed v s place body rises bodies after =
        let l = s.fit.level in
        let f = fills_at all s in
        let m = read hub l body [] in
        let r = ready laws all v s def place in
        let good : IsGood hub l m = subst (IsGood hub l) (nothing_dead hub l body) (settled_good hub l m (allowed laws all v s def place hub body [] rises (hub_body_at all.items v s body bodies place))) in
        let full = filled_good l f m r.fits (right all v s def place) good in
        let back = marks_back hub l (filled l f m) r full in
        made_hub laws all v s def place (object_of hub l (filled l f m)) after (object_whole hub l (filled l f m) r full) (subst (IsComplete l f) (sym back) (filled_complete l f m r.fits (right all v s def place) good))

    first_completed : (ss : List Spoke) → all.items ≡ ss → (body : Pairs) → AreRising (members_of body) → IsHubBody all.items body → AreRising (members_of (completed_first all ss body)) → IsHubBody all.items (completed_first all ss body) × IsCompleteFor all all.items (completed_first all ss body)
    first_completed [] e body rises bodies after = (bodies, subst (λ (ss : List Spoke). IsCompleteFor all ss body) (sym e) tt)
    first_completed (s ∷ ss) e body rises bodies after =
        spoke_completed zero s (ap (λ (ts : List Spoke). slice_get ts zero) e) body rises bodies after

    pub settles_hub_whole : (x y : ObjectView) → x.api_version ≡ api_version all.group all.hub → AreRising (members_of x.body) → IsHubBody all.items x.body → SettlesAtHub all x y → IsWholeHub all y
    settles_hub_whole x y version rises bodies t =
        let after : AreRising (members_of (completed_hub all x.body)) = subst (λ (body : Pairs). AreRising (members_of body)) t.body t.rest.object.body in
        let both = first_completed all.items refl x.body rises bodies after in
        let full : IsHubBody all.items y.body = subst (IsHubBody all.items) (sym t.body) both.0 in record {
          version = t.rest.version ∙ version;
          object = t.rest.object;
          body = full;
          complete = subst (IsCompleteFor all all.items) (sym t.body) both.1;
          notes = λ k. hub_notes def y.body t.rest.object.body full k (key_kind all k) (noted k x) (noted k y) (kind_says all k) (t.notes k);
        }

    first_same : (ss : List Spoke) → all.items ≡ ss → (h : ObjectView) → IsWholeHub all h → completed_first all ss h.body ≡ h.body
    first_same [] e h w = refl
    first_same (s ∷ ss) e h w =
        let place : slice_get all.items zero ≡ Some s = ap (λ (ts : List Spoke). slice_get ts zero) e in
        let r = ready laws all zero s def place in
        completed_same (fills_at all s) s.fit.level h.body (no_name_twice hub s.fit.level r) (laws.known hub s.fit h.body (fits all zero s def place) w.object.body (hub_body_at all.items zero s h.body w.body place)) (complete_at all all.items zero s h.body w.complete place)

    pub settles_hub_self : (h : ObjectView) → IsWholeHub all h → SettlesAtHub all h h
    settles_hub_self h w = record {
      rest = record { version = refl; kind = refl; meta = refl; object = w.object };
      body = sym (first_same all.items refl h w);
      notes = λ k. hub_self h.body (key_kind all k) (noted k h) (w.notes k);
    }

-- ---- at a spoke

module _ (laws : Laws) (all : Spokes) (v : ℕ) (s : Spoke) (def : IsDefinition all) (place : slice_get all.items v ≡ Some s) where
  pub settles_self : (x : ObjectView) → IsSettledAt all s x → SettlesAtSpoke all s x x
  settles_self x t = record {
    hub = t.hub;
    over = over_self laws all v s def place x t.hub t.whole t.pair;
    whole = t.whole;
    object = t.object;
    pair = t.pair;
  }

  pub settles_one : (x y z : ObjectView) → SettlesAtSpoke all s x y → SettlesAtSpoke all s x z → y ≡ z
  settles_one x y z a b =
      one_object laws all v s def place y z b.hub a.object b.object b.whole (settle_pair laws all v s def place x y b.hub b.over a) b.pair

  -- what is left of an object that can go over is settled
  pub settle_settled : (x y : ObjectView) → SettlesAtSpoke all s x y → IsSettledAt all s y
  settle_settled x y t = settled_of laws all v s def place y t.hub t.object t.whole t.pair

  -- an object that can go over settles to what comes back
  pub back_settles : (x h z : ObjectView) → AreRising (members_of x.body) → IsBodyOf spoke s.fit x.body → GoesOver all s x h → IsObject z → IsPairOf all s z h → SettlesAtSpoke all s x z
  back_settles x h z rises b g o p =
      record { hub = h; over = g; whole = over_whole laws all v s def place x h rises b g; object = o; pair = p }

  -- over and back
  pub back_settled : (x y h z : ObjectView) → GoesOver all s x h → SettlesAtSpoke all s x y → IsObject z → IsPairOf all s z h → z ≡ y
  back_settled x y h z g t o p =
      one_object laws all v s def place z y t.hub o t.object t.whole (subst (IsPairOf all s z) (over_one laws all v s def place x h t.hub g t.over) p) t.pair

  pub back_same : (x h z : ObjectView) → IsSettledAt all s x → GoesOver all s x h → IsObject z → IsPairOf all s z h → z ≡ x
  back_same x h z t g o p = back_settled x x h z g (settles_self x t) o p

  pub back_hub : (h x g : ObjectView) → IsWholeHub all h → IsPairOf all s x h → GoesOver all s x g → g ≡ h
  back_hub h x g w p over = over_one laws all v s def place x g h over (over_self laws all v s def place x h w p)
