-- From an object of a version to its hub value, and from there to the object of another version.
use Rattle.std.proofs.Common.{◌≡◌, ◌∙◌, ℕ, ◌+◌, ◌≤◌, ◌++◌, Some, refl, ap, sym, subst, arith}
use Rattle.std.specs.Prelude.{slice_get}
use Rattle.kj_value.specs.Json.{object, members_of, depth}
use Rattle.kj_value.specs.Sound.{AreRising}
use Rattle.kj_value.specs.declared.rule.Rule.TheVariants as rule
use Rattle.kube_meta.specs.View.{ObjectView}
use Rattle.api_calls.specs.Meaning.{Fault}
use Rattle.hub_cells.specs.Level.{Name}
use Rattle.hub_cells.specs.Side.{hub}
use Rattle.keep_laws.specs.FittedBody.{IsBodyOf}
use Rattle.keep_laws.specs.Spokes.{Spoke, Spokes}
use Rattle.keep_laws.specs.Pair.{IsPairOf}
use Rattle.keep_laws.specs.WholeHub.{IsWholeHub, IsSettledAt}
use Rattle.keep_laws.specs.Settling.{SettlesAtHub}
use Rattle.keep_laws.specs.Over.{GoesOver}
use Rattle.keep_laws.specs.Given.{Laws}
use Rattle.spoke_keep.specs.Fault.{IsFaultOf}
use Rattle.spoke_keep.specs.declared.fault.KeepFault.{KeepFault}
use Rattle.spoke_keep.specs.declared.fault.KeepFault.TheVariants.{BadKept, NoMemory}
use Rattle.crd_meaning.specs.Definition.{Definition, Seat, at_hub, at_spoke, seat, IsLoaded}
use Rattle.crd_meaning.specs.Objects.{PairsAt, IsFormAt}
use Rattle.crd_meaning.specs.Admission.{own_name, LeftAt}
use Rattle.crd_meaning.specs.Refusal.{annotation_prefix}
use Rattle.crd_meaning.specs.Request.{breaks}
use Rattle.crd_meaning.proofs.Made.{spoke_form}
use Rattle.crd_meaning.proofs.Seats.{first_spoke}
use Rattle.crd_meaning.specs.Converted.{IsOneWith}
use Rattle.crd_admission.specs.NoHub.{IsUnreadAt, IsTold}
use Rattle.crd_admission.specs.inner.Documents.{IsOfVersion, HasHub}
use Rattle.keep_laws.proofs.Trips.{back_settles}
use Rattle.crd_admission.proofs.StandingDocuments.{spoke_body}

module _ (d : Definition) (loaded : IsLoaded d) where
  -- ---- to the hub

  module _ (v : ℕ) (x : ObjectView) (of : IsOfVersion d v x) where
    pub settled_hub : (h : ObjectView) → seat d v ≡ at_hub → IsWholeHub d.spokes h → SettlesAtHub d.spokes x h → HasHub d v x h
    settled_hub h e w l = record {
      left = h;
      settles = subst (λ (z : Seat). LeftAt d.spokes z x h) (sym e) l;
      whole = w;
      from = subst (λ (z : Seat). PairsAt d.spokes z h h) (sym e) refl;
    }

    pub gone_over : Laws → (s : Spoke) (p : ℕ) → seat d v ≡ at_spoke s → slice_get d.spokes.items p ≡ Some s → (h : ObjectView) → AreRising (members_of x.body)
        → GoesOver d.spokes s x h → IsWholeHub d.spokes h → HasHub d v x h
    gone_over laws s p e place h rises g w =
        let form = spoke_form laws d.spokes p s loaded.definition place (loaded.tables p s place) h w in
        let left =
        back_settles laws d.spokes p s loaded.definition place x h form.0 rises (spoke_body d loaded v x of s p e place) g form.1.0 form.1.1 in record {
          left = form.0;
          settles = subst (λ (z : Seat). LeftAt d.spokes z x form.0) (sym e) left;
          whole = w;
          from = subst (λ (z : Seat). PairsAt d.spokes z h form.0) (sym e) form.1;
        }

  -- ---- from the hub

  pub made_form : (all : Spokes) (v : ℕ) (h y : ObjectView) (s : Spoke) → all ≡ d.spokes → seat d v ≡ at_spoke s → IsPairOf all s y h → IsSettledAt all s y → IsFormAt d v h y
  made_form all v h y s e at p t =
      subst (λ (z : Seat). PairsAt d.spokes z h y) (sym at) (subst (λ (a : Spokes). PairsAt a (at_spoke s) h y) e (t.object, p))

  within : (n a : ℕ) → n + a ≤ 64 → a ≤ 64
  within n a p = omega arith

  pub hub_levels : (h : ObjectView) → IsWholeHub d.spokes h → depth (object (members_of h.body)) ≤ 64
  hub_levels h w =
      let f = first_spoke d.spokes.items (subst (λ (n : ℕ). 2 ≤ n) (sym loaded.spokes) loaded.few.0) in
      let body : IsBodyOf hub f.0.fit h.body = f.2 h.body w.body in
      within f.0.fit.depth (depth (object (members_of h.body))) body.levels

  pub spoke_levels : (all : Spokes) (s : Spoke) (y : ObjectView) → IsSettledAt all s y → depth (object (members_of y.body)) ≤ 64
  spoke_levels all s y t = within s.fit.depth (depth (object (members_of y.body))) t.body.levels

pub one_with : (d : Definition) (v w : ℕ) (x h y : ObjectView) → HasHub d v x h → IsFormAt d w h y → IsOneWith d v x w y
one_with d v w x h y a f = record { left = a.left; settles = a.settles; hub = h; whole = a.whole; from = a.from; to = f }

-- ---- what is told

pub told_unread : (d : Definition) (v : ℕ) (x : ObjectView) (name : Name) (e : KeepFault) → name ≡ x.meta.name
    → IsFaultOf d.spokes (own_name (seat d v)) x.meta.annotations e → (f : Fault) → IsTold name e f → IsUnreadAt d v x f
told_unread d v x name (BadKept a) same u f t =
    record { key = a.bytes; unread = u; told = t ∙ ap (λ (n : Name). breaks n (annotation_prefix ++ a.bytes) rule.Kept) same }
told_unread d v x name NoMemory same u f t = absurd t
