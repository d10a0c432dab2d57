-- A request is admitted in one way or refused, and not both. (That it is one of both isn't said: an honest converter may turn an object to
-- one that isn't valid, or that doesn't come back.)
use Rattle.std.proofs.Common.{◌≡◌, ◌∙◌, ℕ, List, Option, IsTrue, ap, sym, subst}
use Rattle.std.specs.Prelude.{option_map}
use Rattle.kube_meta.specs.View.{ObjectView}
use Rattle.api_calls.specs.Cause.{CauseView, not_json, too_deep, not_whole, not_object, wrong_version, wrong_kind, wrong_namespace, wrong_name, bad_query, bad_token, bad_options}
use Rattle.api_calls.specs.Meaning.{Request, Fault, bad_request, invalid}
use Rattle.api_calls.specs.Readings.{one_json, one_finding}
use Rattle.api_calls.specs.Readings as reading
use Rattle.api_calls.specs.Versions.{RefusesUnread}
use Rattle.api_calls.specs.declared.versions.TheConstants.{OBJECT_LEVELS}
use Rattle.crd_meaning.specs.Definition.{Definition}
use Rattle.crd_meaning.specs.Request.{early}
use Rattle.crd_meaning.specs.Admission.{schema_of, IsFilling, Passes}
use Rattle.crd_meaning.specs.Refusal.{IsNoValue, IsEarly, IsBroken, cause_at, broken_at}
use Rattle.crd_meaning.specs.Refusal as refusal
use Rattle.crd_meaning.specs.Meant.{Settings}
use Rattle.crd_meaning.specs.Given.{Given}
use Rattle.crd_meaning.proofs.Verdicts.{some_none, taken_one, passes_one, unread}
use Rattle.crd_laws.specs.Hook.{Hooked, version_text, IsHubOf, IsLight, Admits, Refuses, no_value, is_early, is_broken, unconverted, too_large, hook_meaning}
use Rattle.crd_laws.proofs.Forms.{by_place, one_some}

module _ (known : Given) (d : Definition) (r : Request) where
  -- what passes isn't refused before

  value_passes : (x : ObjectView) (e : Option ℕ) (f : Fault) → Passes d r x e → IsNoValue r f → ⊥
  value_passes x e (bad_request not_json) a n =
      let same : reading.value a.is.value ≡ reading.not_json = one_finding r.bytes OBJECT_LEVELS (reading.value a.is.value) reading.not_json a.is.reads n in cc
  value_passes x e (bad_request too_deep) a n =
      let same : reading.value a.is.value ≡ reading.too_deep = one_finding r.bytes OBJECT_LEVELS (reading.value a.is.value) reading.too_deep a.is.reads n in cc
  value_passes x e (bad_request not_whole) a n =
      let same : reading.value a.is.value ≡ reading.not_whole = one_finding r.bytes OBJECT_LEVELS (reading.value a.is.value) reading.not_whole a.is.reads n in cc
  value_passes x e (bad_request not_object) a n = n
  value_passes x e (bad_request wrong_version) a n = n
  value_passes x e (bad_request wrong_kind) a n = n
  value_passes x e (bad_request wrong_namespace) a n = n
  value_passes x e (bad_request wrong_name) a n = n
  value_passes x e (bad_request (bad_query parameter)) a n = n
  value_passes x e (bad_request bad_token) a n = n
  value_passes x e (bad_request bad_options) a n = n
  value_passes x e (invalid name cause) a n = n

  early_passes : (x : ObjectView) (e : Option ℕ) (f : Fault) → Passes d r x e → IsEarly d r f → ⊥
  early_passes x e f a t =
      some_none (early d r t.value) f t.told (ap (early d r) (one_json r.bytes OBJECT_LEVELS t.value a.is.value t.reads a.is.reads) ∙ a.is.nothing)

  pub broken_passes : (x : ObjectView) (e : Option ℕ) (f : Fault) → Passes d r x e → IsBroken d r f → ⊥
  broken_passes x e f a b =
      let same = taken_one d r a.taken b.object e b.number a.is b.taken in
      let filling : IsFilling (schema_of d r) b.object.body x.body = subst (λ (y : ObjectView). IsFilling (schema_of d r) y.body x.body) same.0 a.filling in
      some_none (broken_at (schema_of d r) x.body) b.cause (b.broken x.body filling) (ap (option_map cause_at) a.valid)

-- ---- with an honest converter

module _ (known : Given) (k : Hooked) (honest : IsTrue k.honest) where
  hub_one : (v : ℕ) (x g h : ObjectView) → IsHubOf k v x g → IsHubOf k v x h → g ≡ h
  hub_one v x g h a b =
      by_place (g ≡ h) v k.definition.hub (λ e. sym (a.near.hub e) ∙ b.near.hub e)
      (λ s. one_some (k.turned x (version_text k.definition k.definition.hub)) g h (a.turned honest s) (b.turned honest s))

  pub one : (r : Request) (g h : ObjectView) (e f : Option ℕ) → Admits k r g e → Admits k r h f → (g ≡ h) × (e ≡ f)
  one r g h e f a b =
      let same = passes_one known k.definition r a.object b.object e f a.passes b.passes in
      (hub_one r.version b.object g h (subst (λ (x : ObjectView). IsHubOf k r.version x g) same.0 a.hub) b.hub, same.1)

  pub excludes : (r : Request) (h : ObjectView) (e : Option ℕ) (f : Fault) → Admits k r h e → Refuses k r f → ⊥
  excludes r h e f a (no_value n) = value_passes known k.definition r a.object e f a.passes n
  excludes r h e f a (is_early t) = early_passes known k.definition r a.object e f a.passes t
  excludes r h e f a (is_broken b) = broken_passes known k.definition r a.object e f a.passes b
  excludes r h e f a (unconverted u) =
      let same = (passes_one known k.definition r a.object u.object e u.number a.passes u.passes).0 in
      let there = subst (λ (x : ObjectView). IsHubOf k r.version x h) same a.hub in
      some_none (k.turned u.object (version_text k.definition k.definition.hub)) h (there.turned honest u.elsewhere) (u.none honest)
  excludes r h e f a (too_large b) =
      let same = (passes_one known k.definition r a.object b.object e b.number a.passes b.passes).0 in
      let large = b.large honest in
      let hub = hub_one r.version b.object h large.0 (subst (λ (x : ObjectView). IsHubOf k r.version x h) same a.hub) large.1 in
      large.2 (subst (λ (g : ObjectView). IsLight k g) hub (a.light honest))

-- ---- a body that is no object, for every converter

pub refuses_unread : (k : Hooked) (o : Settings) → RefusesUnread (hook_meaning k o)
refuses_unread k o = record {
  not_json = λ r h. no_value h;
  too_deep = λ r h. no_value h;
  not_whole = λ r h. no_value h;
  not_object = λ r j reads other. early_of r ((unread o k.definition).not_object r j reads other);
}
  where
    differ : (n : List ℕ) (c : CauseView) → bad_request not_object ≡ invalid n c → ⊥
    differ n c e = cc

    early_of : (r : Request) → refusal.RefusesRequest k.definition r (bad_request not_object) → Refuses k r (bad_request not_object)
    early_of r (refusal.no_value n) = absurd n
    early_of r (refusal.is_early e) = is_early e
    early_of r (refusal.is_broken b) = absurd (differ _ _ b.told)
    early_of r (refusal.badly_kept b) = absurd (differ _ _ b.told)
    early_of r (refusal.too_large b) = absurd (differ _ _ b.told)
