-- Whole objects and their forms stand at their versions, and stamps aren't looked at.
use Rattle.std.proofs.Common.{◌≡◌, ◌∙◌, ℕ, suc, ◌+◌, ◌≤◌, ◌<◌, Option, None, refl, ap, ap₂, sym, subst, arith}
use Rattle.std.specs.Prelude.{ℤ, List, codes}
use Rattle.kj_value.specs.Json.{list, items_of, members_of, depth, members_depth}
use Rattle.kj_value.specs.Sound.{AreSoundItems}
use Rattle.kj_value.specs.Fields.{AreInOrder}
use Rattle.kube_meta.specs.View.{MetaView, ObjectView}
use Rattle.object_reading.specs.Keeping.{KeepsRules}
use Rattle.api_calls.specs.Meaning.{stamped}
use Rattle.api_calls.specs.Versions.{AreStamps, StandsAt, Stand, KeepsFinalizers, KeepsKey, IgnoresStamps}
use Rattle.struct_schema.specs.Shape.{Shape}
use Rattle.api_calls.specs.declared.versions.TheConstants.{OBJECT_LEVELS}
use Rattle.hub_cells.specs.Side.{spoke, hub}
use Rattle.hub_cells.specs.Fit.{IsClosedObject}
use Rattle.keep_laws.specs.FittedBody.{IsBody}
use Rattle.keep_laws.specs.Spokes.{api_version}
use Rattle.keep_laws.specs.Notes.{IsObject}
use Rattle.keep_laws.proofs.SpokesFitted.{fits}
use Rattle.crd_meaning.specs.Definition.{Definition, Seat, at_hub, at_spoke, nowhere, seat, version_at, count_of, IsRoot, IsSeated, IsLoaded}
use Rattle.crd_meaning.specs.Objects.{IsMeta, IsWholeValue, PairsAt}
use Rattle.crd_meaning.specs.Meant.{Settings, meaning_of}
use Rattle.crd_meaning.specs.Given.{Given}
use Rattle.crd_meaning.proofs.Annotations.{paired_keys, rules_along}
use Rattle.crd_meaning.proofs.Seats.{seat_place, hub_is, first_spoke}
use Rattle.crd_meaning.proofs.Free.{name_free, closed_of}
use Rattle.crd_meaning.proofs.Documents.{sound_document, depth_document}

body_within : (n a : ℕ) → n + suc a ≤ 64 → a ≤ 63
body_within n a h = omega arith

owners_within : (a : ℕ) → 2 + a ≤ 64 → a ≤ 62
owners_within a h = omega arith

module _ (given : Given) (o : Settings) (d : Definition) (loaded : IsLoaded d) where
  stands_at : (v : ℕ) (x : ObjectView) (s : Shape) (n : ℕ) → IsRoot s → IsClosedObject s → IsBody n s x.body
      → x.api_version ≡ api_version d.view.group (version_at d v).name → x.kind ≡ d.view.kind → KeepsRules x.meta
      → x.meta.resource_version ≡ None → x.meta.uid ≡ None → AreStamps x.meta.created x.meta.deleted x.meta.generation
      → IsMeta x.meta → IsObject x → StandsAt (meaning_of d o) v x
  stands_at v x s n root closed body version kind rules no_number no_uid stamps meta held = record {
    api_version = version;
    kind = kind;
    rules = rules;
    no_number = no_number;
    no_uid = no_uid;
    stamps = stamps;
    body = record {
      api_version = name_free s (codes "apiVersion") x.body closed root.api_version body.filled;
      kind = name_free s (codes "kind") x.body closed root.kind body.filled;
      metadata = name_free s (codes "metadata") x.body closed root.metadata body.filled;
    };
    sound = sound_document x held stamps.generation meta;
    levels = depth_document x (body_within n (members_depth (members_of x.body)) body.levels) (owners_within (depth (list (items_of x.meta.owners))) meta.levels);
  }

  whole_stands : (h : ObjectView) → IsWholeValue d h → StandsAt (meaning_of d o) d.hub h
  whole_stands h w =
      let f = first_spoke d.spokes.items (subst (λ (n : ℕ). 2 ≤ n) (sym loaded.spokes) loaded.few.0) in
      let fit = fits d.spokes 0 f.0 loaded.definition f.1 in
      stands_at d.hub h f.0.fit.hub f.0.fit.depth
      (subst IsRoot (sym (loaded.to_hub 0 f.0 f.1)) (loaded.roots d.hub loaded.hub))
      (closed_of hub f.0.fit.depth f.0.fit.hub f.0.fit.level (fit.stands hub))
      (f.2 h.body w.hub.body)
      (w.hub.version ∙ ap₂ api_version loaded.group loaded.hub_name)
      w.kind w.rules w.no_number w.no_uid w.stamps w.meta w.hub.object

  form_stands : (v : ℕ) (h x : ObjectView) → v < count_of d → IsWholeValue d h → (z : Seat) → seat d v ≡ z → IsSeated (version_at d v) z → PairsAt d.spokes z h x → StandsAt (meaning_of d o) v x
  form_stands v h x known w at_hub e q p =
      subst (λ (u : ℕ). StandsAt (meaning_of d o) u x) (sym (hub_is d v e)) (subst (λ (y : ObjectView). StandsAt (meaning_of d o) d.hub y) (sym p) (whole_stands h w))
  form_stands v h x known w (at_spoke s) e q p =
      let place = seat_place d v s e in
      let fit = fits d.spokes place.at s loaded.definition place.found in
      let settled = given.settled d.spokes place.at s loaded.definition place.found x h p.0 w.hub p.1 in
      let same = p.1.meta in
      stands_at v x s.fit.spoke s.fit.depth
      (subst IsRoot (sym q.schema) (loaded.roots v known))
      (closed_of spoke s.fit.depth s.fit.spoke s.fit.level (fit.stands spoke))
      settled.body
      (p.1.spoke_version ∙ ap₂ api_version loaded.group q.name)
      (p.1.kind ∙ w.kind)
      (rules_along x.meta h.meta same (paired_keys d.spokes s x h p.0.annotations w.rules.annotations p.1) w.rules)
      (ap (λ (m : MetaView). m.resource_version) same ∙ w.no_number)
      (ap (λ (m : MetaView). m.uid) same ∙ w.no_uid)
      (subst (λ (m : MetaView). AreStamps m.created m.deleted m.generation) (sym same) w.stamps)
      (record {
        labels = subst (λ (m : MetaView). AreInOrder m.labels) (sym same) w.meta.labels;
        owners = subst (λ (m : MetaView). AreSoundItems (items_of m.owners)) (sym same) w.meta.owners;
        levels = subst (λ (m : MetaView). 2 + depth (list (items_of m.owners)) ≤ OBJECT_LEVELS) (sym same) w.meta.levels;
      })
      p.0
  form_stands v h x known w nowhere e q p = absurd p

  pub stand : Stand (meaning_of d o)
  stand = record {
    hub = loaded.hub;
    whole = whole_stands;
    pair = λ v h x known w p. form_stands v h x known w (seat d v) refl (loaded.seats v known) p;
  }

-- ---- the key, and finalizers

same_name : (d : Definition) (z : Seat) (h x : ObjectView) → PairsAt d.spokes z h x → x.meta.name ≡ h.meta.name
same_name d at_hub h x p = ap (λ (w : ObjectView). w.meta.name) p
same_name d (at_spoke s) h x p = ap (λ (m : MetaView). m.name) p.1.meta
same_name d nowhere h x p = absurd p

same_namespace : (d : Definition) (z : Seat) (h x : ObjectView) → PairsAt d.spokes z h x → x.meta.namespace ≡ h.meta.namespace
same_namespace d at_hub h x p = ap (λ (w : ObjectView). w.meta.namespace) p
same_namespace d (at_spoke s) h x p = ap (λ (m : MetaView). m.namespace) p.1.meta
same_namespace d nowhere h x p = absurd p

pub same_key : (o : Settings) (d : Definition) → KeepsKey (meaning_of d o)
same_key o d = record {
  name = λ v h x known w p. same_name d (seat d v) h x p;
  namespace = λ v h x known w p. same_namespace d (seat d v) h x p;
}

same_finalizers : (d : Definition) (z : Seat) (h x : ObjectView) → PairsAt d.spokes z h x → x.meta.finalizers ≡ h.meta.finalizers
same_finalizers d at_hub h x p = ap (λ (w : ObjectView). w.meta.finalizers) p
same_finalizers d (at_spoke s) h x p = ap (λ (m : MetaView). m.finalizers) p.1.meta
same_finalizers d nowhere h x p = absurd p

pub finalizers : (o : Settings) (d : Definition) → KeepsFinalizers (meaning_of d o)
finalizers o d = record { same = λ v h x known w p. same_finalizers d (seat d v) h x p }

-- ---- stamps

module _ (o : Settings) (d : Definition) where
  stamped_whole : (h : ObjectView) (created deleted : Option (List ℕ)) (generation : ℤ) → AreStamps created deleted generation → IsWholeValue d h → IsWholeValue d (stamped h created deleted generation)
  stamped_whole h created deleted generation s w = record {
    hub = record {
      version = w.hub.version;
      object = record { annotations = w.hub.object.annotations; body = w.hub.object.body };
      body = w.hub.body;
      complete = w.hub.complete;
      notes = w.hub.notes;
    };
    kind = w.kind;
    rules = record {
      name = w.rules.name;
      namespace = w.rules.namespace;
      labels = w.rules.labels;
      annotations = w.rules.annotations;
      few = w.rules.few;
      finalizers = w.rules.finalizers;
      resource_version = w.rules.resource_version;
    };
    meta = record { labels = w.meta.labels; owners = w.meta.owners; levels = w.meta.levels };
    no_number = w.no_number;
    no_uid = w.no_uid;
    stamps = s;
  }

  stamped_form : (z : Seat) (h x : ObjectView) (created deleted : Option (List ℕ)) (generation : ℤ) → PairsAt d.spokes z h x → PairsAt d.spokes z (stamped h created deleted generation) (stamped x created deleted generation)
  stamped_form at_hub h x created deleted generation p = ap (λ (y : ObjectView). stamped y created deleted generation) p
  stamped_form (at_spoke s) h x created deleted generation p = (
    record { annotations = p.0.annotations; body = p.0.body },
    record {
      spoke_version = p.1.spoke_version;
      hub_version = p.1.hub_version;
      kind = p.1.kind;
      meta = ap (λ (m : MetaView). record m { created = created; deleted = deleted; generation = generation }) p.1.meta;
      hub_kept = p.1.hub_kept;
      spoke_kept = p.1.spoke_kept;
      notes = p.1.notes;
      bodies = p.1.bodies;
    },
  )
  stamped_form nowhere h x created deleted generation p = p

  pub unstamped : IgnoresStamps (meaning_of d o)
  unstamped = record {
    whole = stamped_whole;
    pair = λ v h x created deleted generation p. stamped_form (seat d v) h x created deleted generation p;
  }
