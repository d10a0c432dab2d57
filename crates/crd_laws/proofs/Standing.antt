-- Hub values and their forms stand at their versions, and stamps aren't looked at.
use Rattle.std.proofs.Common.{◌≡◌, ◌∙◌, ℕ, suc, ◌≤◌, Option, Some, option_map, List, IsTrue, ap, sym, subst, arith}
use Rattle.std.specs.Prelude.{ℤ, ◌+◌}
use Rattle.kj_value.specs.Json.{list, items_of, members_of, depth, members_depth}
use Rattle.kube_meta.specs.View.{MetaView, ObjectView}
use Rattle.object_reading.specs.Keeping.{KeepsRules}
use Rattle.api_calls.specs.Meaning.{stamped}
use Rattle.api_calls.specs.Versions.{AreStamps, StandsAt, Stand, KeepsFinalizers, KeepsKey, IgnoresStamps, NamesDiffer, AreFlags}
use Rattle.crd_meaning.specs.Definition.{Definition, count_of, opening_of}
use Rattle.crd_meaning.specs.Meant.{Settings}
use Rattle.crd_meaning.proofs.Documents.{sound_document, depth_document}
use Rattle.crd_laws.specs.Opening.{opening_flags, names_apart}
use Rattle.crd_laws.specs.Hook.{Hooked, IsHooked, version_text, IsAt, Stands, Near, IsForm, ComesBack, IsWhole, hook_meaning}

body_within : (a : ℕ) → suc a ≤ 64 → a ≤ 63
body_within a h = omega arith

owners_within : (a : ℕ) → 2 + a ≤ 64 → a ≤ 62
owners_within a h = omega arith

module _ (k : Hooked) (o : Settings) where
  stands_at : (v : ℕ) (x : ObjectView) → Stands k.definition v x → AreStamps x.meta.created x.meta.deleted x.meta.generation → StandsAt (hook_meaning k o) v x
  stands_at v x s stamps = record {
    api_version = s.at.version;
    kind = s.kind;
    rules = s.rules;
    no_number = s.no_number;
    no_uid = s.no_uid;
    stamps = stamps;
    body = s.at.body.free;
    sound = sound_document x (record { annotations = s.at.annotations; body = s.at.body.filled.sound }) stamps.generation s.at.meta;
    levels = depth_document x (body_within (members_depth (members_of x.body)) s.at.body.levels) (owners_within (depth (list (items_of x.meta.owners))) s.at.meta.levels);
  }

  -- what is near to a hub value stands where the hub value does
  pub near_stands : (v : ℕ) (h x : ObjectView) → Stands k.definition k.definition.hub h → Near k.definition v h x → Stands k.definition v x
  near_stands v h x s n = record {
    at = n.at;
    kind = n.kind ∙ s.kind;
    rules = n.rules s.rules;
    no_number = ap (λ (m : MetaView). m.resource_version) n.meta ∙ s.no_number;
    no_uid = ap (λ (m : MetaView). m.uid) n.meta ∙ s.no_uid;
  }

  near_stamps : (v : ℕ) (h x : ObjectView) → AreStamps h.meta.created h.meta.deleted h.meta.generation → Near k.definition v h x → AreStamps x.meta.created x.meta.deleted x.meta.generation
  near_stamps v h x s n = subst (λ (m : MetaView). AreStamps m.created m.deleted m.generation) (sym n.meta) s

  pub stand : IsHooked k → Stand (hook_meaning k o)
  stand is = record {
    hub = is.hub;
    whole = λ h w. stands_at k.definition.hub h w.stands w.stamps;
    pair = λ v h x known w p. stands_at v x (near_stands v h x w.stands p.near) (near_stamps v h x w.stamps p.near);
  }

  pub names : IsHooked k → NamesDiffer (hook_meaning k o)
  names is = record { differ = names_apart k.definition is.offered }

  pub opens : IsHooked k → AreFlags (count_of k.definition) (opening_of k.definition)
  opens is = opening_flags k.definition is.offered is.few.1

  -- for every converter, since a form has the hub value's metadata but for labels and annotations
  pub same_key : KeepsKey (hook_meaning k o)
  same_key = record {
    name = λ v h x known w p. ap (λ (m : MetaView). m.name) p.near.meta;
    namespace = λ v h x known w p. ap (λ (m : MetaView). m.namespace) p.near.meta;
  }

  pub finalizers : KeepsFinalizers (hook_meaning k o)
  finalizers = record { same = λ v h x known w p. ap (λ (m : MetaView). m.finalizers) p.near.meta }

-- ---- other stamps

module _ (created deleted : Option (List ℕ)) (generation : ℤ) where
  abbrev now : ObjectView → ObjectView
  now x = stamped x created deleted generation

  rules_now : (x : ObjectView) → KeepsRules x.meta → KeepsRules (now x).meta
  rules_now x r = record {
    name = r.name;
    namespace = r.namespace;
    labels = r.labels;
    annotations = r.annotations;
    few = r.few;
    finalizers = r.finalizers;
    resource_version = r.resource_version;
  }

  rules_before : (x : ObjectView) → KeepsRules (now x).meta → KeepsRules x.meta
  rules_before x r = record {
    name = r.name;
    namespace = r.namespace;
    labels = r.labels;
    annotations = r.annotations;
    few = r.few;
    finalizers = r.finalizers;
    resource_version = r.resource_version;
  }

  at_now : (d : Definition) (v : ℕ) (x : ObjectView) → IsAt d v x → IsAt d v (now x)
  at_now d v x a = record {
    version = a.version;
    body = a.body;
    annotations = a.annotations;
    meta = record { labels = a.meta.labels; owners = a.meta.owners; levels = a.meta.levels };
  }

  stands_now : (d : Definition) (v : ℕ) (x : ObjectView) → Stands d v x → Stands d v (now x)
  stands_now d v x s = record {
    at = at_now d v x s.at;
    kind = s.kind;
    rules = rules_now x s.rules;
    no_number = s.no_number;
    no_uid = s.no_uid;
  }

  near_now : (d : Definition) (v : ℕ) (h x : ObjectView) → Near d v h x → Near d v (now h) (now x)
  near_now d v h x n = record {
    at = at_now d v x n.at;
    kind = n.kind;
    meta = ap (λ (m : MetaView). record m { created = created; deleted = deleted; generation = generation }) n.meta;
    rules = λ r. rules_now x (n.rules (rules_before h r));
    hub = λ e. ap now (n.hub e);
  }

  module _ (k : Hooked) (is : IsHooked k) where
    turned_now : IsTrue k.honest → (x y : ObjectView) (to : List ℕ) → k.turned x to ≡ Some y → k.turned (now x) to ≡ Some (now y)
    turned_now honest x y to e = is.unstamped honest x to created deleted generation ∙ ap (λ (o : Option ObjectView). option_map now o) e

    form_now : (v : ℕ) (h x : ObjectView) → IsForm k v h x → IsForm k v (now h) (now x)
    form_now v h x p = record {
      near = near_now k.definition v h x p.near;
      turned = λ honest spoke. turned_now honest h x (version_text k.definition v) (p.turned honest spoke);
    }

    back_now : IsTrue k.honest → (v : ℕ) (h : ObjectView) → ComesBack k v h → ComesBack k v (now h)
    back_now honest v h c = record {
      form = now c.form;
      there = turned_now honest h c.form (version_text k.definition v) c.there;
      stands = stands_now k.definition v c.form c.stands;
      back = turned_now honest c.form h (version_text k.definition k.definition.hub) c.back;
    }

    whole_now : (h : ObjectView) → AreStamps created deleted generation → IsWhole k h → IsWhole k (now h)
    whole_now h s w = record {
      stands = stands_now k.definition k.definition.hub h w.stands;
      stamps = s;
      back = λ honest v known spoke. back_now honest v h (w.back honest v known spoke);
    }

pub unstamped : (k : Hooked) (o : Settings) → IsHooked k → IgnoresStamps (hook_meaning k o)
unstamped k o is = record {
  whole = λ h created deleted generation s w. whole_now created deleted generation k is h s w;
  pair = λ v h x created deleted generation p. form_now created deleted generation k is v h x p;
}
