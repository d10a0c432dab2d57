-- Where an object of a version stands.
use Rattle.std.proofs.Common.{◌≡◌, ◌∙◌, ℕ, zero, suc, ◌≤◌, List, [], ◌∷◌, Some, None, ap, ap₂, sym, subst}
use Rattle.std.specs.Prelude.{slice_get}
use Rattle.std.proofs.lemmas.Option.{slice_get_within}
use Rattle.kube_meta.specs.View.{ObjectView}
use Rattle.struct_schema.specs.Shape.{Shape}
use Rattle.hub_cells.specs.Side.{spoke, hub}
use Rattle.keep_laws.specs.FittedBody.{IsBody, IsBodyOf}
use Rattle.keep_laws.specs.Place.{StandsAt}
use Rattle.keep_laws.specs.Spokes.{Spoke, AreFittedTo, HaveOneHub, api_version}
use Rattle.keep_laws.proofs.SpokesFitted.{hub_body_each}
use Rattle.crd_meaning.specs.Definition.{Definition, Seat, at_hub, at_spoke, seat, version_at, IsSpokeOf, IsSeated, IsLoaded}
use Rattle.crd_meaning.proofs.Seats.{hub_is, first_spoke}
use Rattle.crd_meaning.specs.Converted.{schema_at}
use Rattle.crd_admission.specs.inner.Documents.{IsOfVersion}

one_spoke : (s t : Spoke) → Some s ≡ Some t → s ≡ t
one_spoke s t e = cc

-- ---- each spoke is fitted from the root on

root_among : (S : Shape) (ss : List Spoke) (p : ℕ) (s : Spoke) → AreFittedTo S ss → slice_get ss p ≡ Some s → s.fit.depth ≡ 0
root_among S [] p s h e = absurd (cc)
root_among S (t ∷ ss) zero s h e = ap (λ (u : Spoke). u.fit.depth) (sym (one_spoke t s e)) ∙ h.1
root_among S (t ∷ ss) (suc p) s h e = root_among S ss p s h.4 e

root : (ss : List Spoke) (p : ℕ) (s : Spoke) → HaveOneHub ss → slice_get ss p ≡ Some s → s.fit.depth ≡ 0
root [] p s h e = absurd (cc)
root (t ∷ ss) p s h e = root_among t.fit.hub (t ∷ ss) p s h e

module _ (d : Definition) (loaded : IsLoaded d) (v : ℕ) (x : ObjectView) (of : IsOfVersion d v x) where
  -- ---- at the hub

  pub stands_at_hub : seat d v ≡ at_hub → StandsAt d.spokes None x
  stands_at_hub e =
      let here = hub_is d v e in
      let name : d.spokes.hub ≡ (version_at d v).name = loaded.hub_name ∙ ap (λ (u : ℕ). (version_at d u).name) (sym here) in
      let f = first_spoke d.spokes.items (subst (λ (n : ℕ). 2 ≤ n) (sym loaded.spokes) loaded.few.0) in
      let schema : f.0.fit.hub ≡ schema_at d v = loaded.to_hub 0 f.0 f.1 ∙ ap (schema_at d) (sym here) in
      let depth = root d.spokes.items 0 f.0 loaded.definition.one_hub f.1 in
      let body : IsBodyOf hub f.0.fit x.body = subst (λ (n : ℕ). IsBody n f.0.fit.hub x.body) (sym depth) (subst (λ (S : Shape). IsBody 0 S x.body) (sym schema) of.body) in (
        of.version ∙ sym (ap₂ api_version loaded.group name),
        hub_body_each d.spokes 0 f.0 x.body loaded.definition f.1 body,
      )

  -- ---- at a spoke

  module _ (s : Spoke) (p : ℕ) (e : seat d v ≡ at_spoke s) (place : slice_get d.spokes.items p ≡ Some s) where
    spoke_of : IsSpokeOf (version_at d v) s
    spoke_of = subst (λ (z : Seat). IsSeated (version_at d v) z) e (loaded.seats v of.known)

    pub spoke_version : x.api_version ≡ api_version d.spokes.group s.name
    spoke_version = of.version ∙ sym (ap₂ api_version loaded.group spoke_of.name)

    pub spoke_body : IsBodyOf spoke s.fit x.body
    spoke_body =
        subst (λ (n : ℕ). IsBody n s.fit.spoke x.body) (sym (root d.spokes.items p s loaded.definition.one_hub place)) (subst (λ (S : Shape). IsBody 0 S x.body) (sym spoke_of.schema) of.body)

    pub stands_at_spoke : StandsAt d.spokes (Some p) x
    stands_at_spoke = (
      slice_get_within d.spokes.items p s place,
      λ t f. subst (λ (u : Spoke). (x.api_version ≡ api_version d.spokes.group u.name) × IsBodyOf spoke u.fit x.body) (one_spoke s t (sym place ∙ f)) (spoke_version, spoke_body),
    )
