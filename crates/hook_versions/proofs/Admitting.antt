-- From what passed over its hub value to what is admitted or refused.
use Rattle.std.proofs.Common.{◌≡◌, ◌∙◌, ◌<◌, ◌≤◌, ℕ, ◌+◌, ◌*◌, List, ◌++◌, length, Option, Some, None, IsTrue, inl, inr, refl, ap, sym, subst, arith}
use Rattle.std.specs.Prelude.{◌≢◌}
use Rattle.kj_value.specs.Json.{depth}
use Rattle.kj_value.specs.declared.rule.Rule.TheVariants as rule
use Rattle.kube_meta.specs.Document.{document}
use Rattle.kube_meta.specs.View.{MetaView, ObjectView, object_of}
use Rattle.api_calls.specs.Cause.{why_of, cause_of}
use Rattle.api_calls.specs.Meaning.{Request, Fault, Weighs, bad_request, invalid}
use Rattle.api_calls.specs.Versions.{Refused}
use Rattle.api_calls.specs.declared.versions.Admitted.{Admitted}
use Rattle.api_calls.specs.declared.versions.AdmitFault.{AdmitFault}
use Rattle.api_calls.specs.declared.versions.AdmitFault.TheVariants as fault
use Rattle.api_calls.specs.declared.versions.TheConstants.{OBJECT_LEVELS}
use Rattle.crd_meaning.specs.Definition.{Definition, count_of}
use Rattle.crd_meaning.specs.Meant.{Settings}
use Rattle.crd_meaning.specs.Request.{breaks}
use Rattle.crd_meaning.specs.Admission.{Passes}
use Rattle.crd_meaning.specs.Refusal.{object_path}
use Rattle.crd_admission.specs.Steps as steps
use Rattle.converters.specs.Turns.{Turn, answered, refused, failed}
use Rattle.crd_laws.specs.Hook.{Hooked, version_text, hook_meaning, Admits, Refuses, IsHubOf, no_value, is_early, is_broken, unconverted, too_large}
use Rattle.crd_laws.proofs.Forms.{by_place}
use Rattle.crd_laws.specs.Turning.{Becomes, as_it_is, by_turn, AdmitsBy, RefusedBy, FailsBy, Made, turn_to, OfTurns, WasTurned}
use Rattle.hook_versions.specs.inner.Steps.{IsStanding, Turns, NoTurn}
use Rattle.hook_versions.specs.inner.Weighing.{IsOwn, own_turns, IsPutAt, FailsOwn, IsNotPut, HaveComeBack, AreBack, AreBackThen, IsKept, CameIn, MayRefuse}
use Rattle.hook_versions.specs.Taken.{AreFew, no_more, one_more, FailsRequest, own_failed, own_answer, later, ComesBackBy, BlamesRequest}
use Rattle.hook_versions.specs.declared.turning.Unturned.TheVariants as unturned
use Rattle.hook_versions.proofs.Trail.{none_made, one_made, both_made, made_so, made_first}
use Rattle.hook_versions.proofs.Turned.{turned_once, refused_made}
use Rattle.hook_versions.proofs.Standing.{taken_standing, hub_near}
use Rattle.hook_versions.proofs.Forming.{itself}
use Rattle.hook_versions.proofs.Backs.{fails_more}
use Rattle.hook_versions.proofs.Weights as weights

-- ---- the object at the hub

module _ (k : Hooked) (told : Option (List Turn)) (v : ℕ) (x : ObjectView) where
  pub put_itself : IsStanding k.definition v x → v ≡ k.definition.hub → IsPutAt k told told v x x None
  put_itself s e = record {
    turns = none_made told (λ ts. IsOwn k.definition ts None x × (length ts ≡ own_turns None)) (tt, refl);
    hub = subst (λ (u : ℕ). IsStanding k.definition u x) e s;
    near = (itself k v x (subst (λ (u : ℕ). IsStanding k.definition u x) e s) e).near;
    turned = λ honest spoke. absurd (spoke e);
    mine = tt;
    here = λ _. refl;
    elsewhere = λ spoke. absurd (spoke e);
  }

  module _ (now : Option (List Turn)) where
    pub put_turned : (h : ObjectView) → IsStanding k.definition v x → v ≢ k.definition.hub → Turns k.definition told now x k.definition.hub h
        → (IsTrue k.honest → k.turned x (version_text k.definition k.definition.hub) ≡ Some h) → IsPutAt k told now v x h (Some x)
    put_turned h s spoke t e = record {
      turns = made_so told now (λ ts. (length ts ≡ 1) × WasTurned k.definition ts x k.definition.hub h) (λ ts. IsOwn k.definition ts (Some x) h × (length ts ≡ own_turns (Some x)))
          (λ ts p. (p.1, p.0)) (turned_once k.definition told now x k.definition.hub h t);
      hub = taken_standing k.definition v k.definition.hub x h t.answer s t.taken;
      near = hub_near k.definition v k.definition.hub x h t.answer s t.taken spoke;
      turned = λ honest _. e honest;
      mine = record { sent = s.sent; turned = e };
      here = λ same. absurd (spoke same);
      elsewhere = λ _. refl;
    }

    pub own_fails : NoTurn k.definition told now x k.definition.hub unturned.Failed → OfTurns told now (FailsOwn k.definition x)
    own_fails (inl e) =
        one_made told now (document x) (version_text k.definition k.definition.hub) failed (FailsOwn k.definition x) e (inl (inl refl))
    own_fails (inr n) =
        one_made told now (document x) (version_text k.definition k.definition.hub) (answered n.0) (FailsOwn k.definition x) n.1 (inr (n.0, inl refl, n.2))

    -- what is told of a refused turn
    pub put_refused : (rose : Type 0) (e : AdmitFault) → v ≢ k.definition.hub → NoTurn k.definition told now x k.definition.hub unturned.Refused
        → (IsTrue k.honest → k.turned x (version_text k.definition k.definition.hub) ≡ None)
        → Refused (λ f. f ≡ breaks x.meta.name object_path rule.Converted) ⊥ e → IsNotPut k told now v x rose e
    put_refused rose (fault.BadRequest why) spoke t none h = absurd (differ h)
      where
        differ : {n p : List ℕ} → bad_request (why_of why) ≡ breaks n p rule.Converted → ⊥
        differ e = cc
    put_refused rose (fault.Invalid name cause) spoke t none h =
        record { elsewhere = spoke; turns = refused_made k.definition told now x k.definition.hub t; none = none; told = h }
    put_refused rose fault.Tool spoke t none h = absurd h
    put_refused rose fault.NoMemory spoke t none h = tt

-- ---- what is admitted

module _ (k : Hooked) (r : Request) (x h : ObjectView) (e : Option ℕ) (p : Passes k.definition r x e) (a b c : Option (List Turn)) (own : Option ObjectView) (put : IsPutAt k a b r.version x h own) where
  abbrev Then : Option ℕ → Type 0
  Then weight = AreBackThen k b c own h 0 (Some 0) (count_of k.definition) weight

  back : (weight : Option ℕ) → Then weight → AreBack k a c own h (count_of k.definition) weight
  back weight t = t.then a (weights.none_yet k h a b own put.turns)

  hub_value : (weight : Option ℕ) → Then weight → IsHubOf k r.version x h
  hub_value weight t = record { near = put.near; whole = weights.whole k h a c own put.hub weight (back weight t); turned = put.turned }

  admits : (w : ℕ) → Then (Some w) → Admits k r h e
  admits w t = record { object = x; passes = p; hub = hub_value (Some w) t; light = weights.light k h a c own put.hub w (back (Some w) t) }

  -- of what is let in
  module _ (storage : ℕ) (m : Admitted) (t : CameIn k b c own h e storage m) where
    pub let_in : Admits k r (object_of m.hub) m.expected
    let_in = subst (λ (z : ObjectView). Admits k r z m.expected) (sym t.0) (subst (λ (o : Option ℕ). Admits k r h o) (sym t.1) (admits m.weight t.3))

    pub weighs_in : (o : Settings) → 0 < count_of k.definition → IsTrue k.honest → Weighs (hook_meaning k o) (object_of m.hub) m.weight
    weighs_in o versions honest = subst (λ (z : ObjectView). Weighs (hook_meaning k o) z m.weight) (sym t.0) (weights.weighs k h a c own put.hub m.weight versions (back (Some m.weight) t.3) honest o)

    pub some_in : 0 < count_of k.definition → 0 < m.weight
    some_in versions = (back (Some m.weight) t.3).some versions

    pub levels_in : depth (document (object_of m.hub)) ≤ OBJECT_LEVELS
    levels_in = subst (λ (z : ObjectView). depth (document z) ≤ OBJECT_LEVELS) (sym t.0) put.hub.sent.levels

    pub kept_in : IsKept k storage (object_of m.hub) m.shape
    kept_in = subst (λ (z : ObjectView). IsKept k storage z m.shape) (sym t.0) t.2

  -- ---- the turns that it took

  becomes : (ts : List Turn) → IsOwn k.definition ts own h → Becomes k.definition ts r.version x k.definition.hub h
  becomes ts t =
      by_place (Becomes k.definition ts r.version x k.definition.hub h) r.version k.definition.hub (λ here. as_it_is here (sym (put.near.hub here)))
      (λ spoke. by_turn spoke (subst (λ (o : Option ObjectView). IsOwn k.definition ts o h) (put.elsewhere spoke) t))

  becomes_more : (us vs : List Turn) → Becomes k.definition us r.version x k.definition.hub h → Becomes k.definition (us ++ vs) r.version x k.definition.hub h
  becomes_more us vs (as_it_is e same) = as_it_is e same
  becomes_more us vs (by_turn other t) = by_turn other (record { answer = t.answer; made = made_first us vs _ t.made; good = t.good; taken = t.taken })

  admits_by : (w : ℕ) → Then (Some w) → OfTurns a c (λ ts. AdmitsBy k.definition ts r h e)
  admits_by w t =
      made_so a c (λ ts. IsOwn k.definition ts own h × HaveComeBack k.definition ts own h (count_of k.definition)) (λ ts. AdmitsBy k.definition ts r h e)
      (λ ts m. record { object = x; passes = p; becomes = becomes ts m.0; back = weights.came_back k h ts own m.1 }) (back (Some w) t).turns

  pub let_in_by : (storage : ℕ) (m : Admitted) → CameIn k b c own h e storage m → OfTurns a c (λ ts. AdmitsBy k.definition ts r (object_of m.hub) m.expected)
  let_in_by storage m t =
      subst (λ (z : ObjectView). OfTurns a c (λ ts. AdmitsBy k.definition ts r z m.expected)) (sym t.0)
      (subst (λ (o : Option ℕ). OfTurns a c (λ ts. AdmitsBy k.definition ts r h o)) (sym t.1) (admits_by m.weight t.3))

  -- ---- how many there were

  module _ (known : r.version < count_of k.definition) (hub : k.definition.hub < count_of k.definition) where
    few : (ts : List Turn) → HaveComeBack k.definition ts own h (count_of k.definition) → AreFew k.definition r h ts
    few ts (inl m) = let past = m.0.past hub in no_more (omega (arith, past))
    few ts (inr m) = by_place (AreFew k.definition r h ts) r.version k.definition.hub here elsewhere
      where
        here : r.version ≡ k.definition.hub → AreFew k.definition r h ts
        here same =
            let none : own_turns own ≡ 0 = ap own_turns (put.here same) in
            let past = m.0.past hub in
            no_more (omega (arith, past, none))

        elsewhere : r.version ≢ k.definition.hub → AreFew k.definition r h ts
        elsewhere spoke =
            let mine = put.elsewhere spoke in
            let one : own_turns own ≡ 1 = ap own_turns mine in
            let past = m.0.past hub in
            let form = m.1 r.version known spoke in
            one_more x form.0 e p spoke form.1 (λ same. form.3 (mine ∙ ap Some (sym same))) (omega (arith, past, one))

  pub few_in : (storage : ℕ) (m : Admitted) → CameIn k b c own h e storage m → r.version < count_of k.definition → k.definition.hub < count_of k.definition → OfTurns a c (AreFew k.definition r (object_of m.hub))
  few_in storage m t known hub =
      subst (λ (z : ObjectView). OfTurns a c (AreFew k.definition r z)) (sym t.0)
      (made_so a c (λ ts. IsOwn k.definition ts own h × HaveComeBack k.definition ts own h (count_of k.definition)) (AreFew k.definition r h) (λ ts q. few known hub ts q.1) (back (Some m.weight) t.3).turns)

  -- ---- what is refused of its hub value

  name_is : h.meta.name ≡ x.meta.name
  name_is = sym (ap (λ (m : MetaView). m.name) put.near.meta)

  pub refuses_hub : (rose more : Type 0) (f : AdmitFault) → (rose → more) → MayRefuse k b c own h rose f → Refused (Refuses k r) more f
  refuses_hub rose more (fault.BadRequest why) g m = absurd m
  refuses_hub rose more (fault.Invalid name cause) g m = too_large (record {
    object = x;
    number = e;
    passes = p;
    large = λ honest. (h, hub_value None m.0, weights.heavy k h a c own put.hub (back None m.0) honest);
    told = m.1 ∙ ap (λ (n : List ℕ). breaks n object_path rule.Size) name_is;
  })
  refuses_hub rose more fault.Tool g m = g m.0
  refuses_hub rose more fault.NoMemory g m = tt

  pub blames_hub : (rose : Type 0) (f : AdmitFault) → MayRefuse k b c own h rose f → BlamesRequest k.definition a c r f
  blames_hub rose (fault.BadRequest why) m = absurd m
  blames_hub rose (fault.Invalid name cause) m = inr (inr (
    made_so a c (λ ts. IsOwn k.definition ts own h × HaveComeBack k.definition ts own h (count_of k.definition)) (ComesBackBy k.definition r)
        (λ ts q. record { object = x; hub = h; number = e; passes = p; becomes = becomes ts q.0; back = weights.came_back k h ts own q.1 })
        (back None m.0).turns,
    (h.meta.name, m.1),
  ))
  blames_hub rose fault.Tool m =
      both_made a b c (λ ts. IsOwn k.definition ts own h × (length ts ≡ own_turns own)) (FailsBy k.definition) (FailsRequest k.definition r)
      (λ us vs p1 q1. later x h e p (becomes_more us vs (becomes us p1.0)) (fails_more k.definition us vs q1)) put.turns m.1
  blames_hub rose fault.NoMemory m = tt

-- ---- what is refused before

refuses_more : (k : Hooked) (r : Request) (f : Fault) → steps.RefusesBody k.definition r f → Refuses k r f
refuses_more k r f (steps.no_value n) = no_value n
refuses_more k r f (steps.is_early e) = is_early e
refuses_more k r f (steps.is_broken b) = is_broken b

pub refuses_body : (k : Hooked) (r : Request) (rose : Type 0) (f : AdmitFault) → Refused (steps.RefusesBody k.definition r) ⊥ f → Refused (Refuses k r) rose f
refuses_body k r rose (fault.BadRequest why) h = refuses_more k r (bad_request (why_of why)) h
refuses_body k r rose (fault.Invalid name cause) h = refuses_more k r (invalid name.bytes (cause_of cause)) h
refuses_body k r rose fault.Tool h = absurd h
refuses_body k r rose fault.NoMemory h = tt

-- no turn was made
pub blames_body : (d : Definition) (told : Option (List Turn)) (r : Request) (f : AdmitFault) → Refused (steps.RefusesBody d r) ⊥ f → BlamesRequest d told told r f
blames_body d told r (fault.BadRequest why) h = refl
blames_body d told r (fault.Invalid name cause) h = inl (refl, h)
blames_body d told r fault.Tool h = absurd h
blames_body d told r fault.NoMemory h = tt

module _ (k : Hooked) (r : Request) (x : ObjectView) (e : Option ℕ) (p : Passes k.definition r x e) (a b : Option (List Turn)) where
  pub refuses_put : (rose : Type 0) (f : AdmitFault) → IsNotPut k a b r.version x rose f → Refused (Refuses k r) rose f
  refuses_put rose (fault.BadRequest why) m = absurd m
  refuses_put rose (fault.Invalid name cause) m =
      unconverted (record { object = x; number = e; passes = p; elsewhere = m.elsewhere; none = m.none; told = m.told })
  refuses_put rose fault.Tool m = m.0
  refuses_put rose fault.NoMemory m = tt

  pub blames_put : (rose : Type 0) (f : AdmitFault) → IsNotPut k a b r.version x rose f → BlamesRequest k.definition a b r f
  blames_put rose (fault.BadRequest why) m = absurd m
  blames_put rose (fault.Invalid name cause) m = inr (inl (
    made_so a b (λ ts. Made ts (turn_to k.definition x k.definition.hub refused)) (λ ts. RefusedBy k.definition ts r)
        (λ ts t. record { object = x; number = e; passes = p; turned = t }) m.turns,
    (x.meta.name, m.told),
  ))
  blames_put rose fault.Tool m = made_so a b (FailsOwn k.definition x) (FailsRequest k.definition r) (λ ts t. own_fails ts t) m.1
    where
      own_fails : (ts : List Turn) → FailsOwn k.definition x ts → FailsRequest k.definition r ts
      own_fails ts (inl t) = own_failed x e p t
      own_fails ts (inr t) = own_answer x e t.0 p t.1 t.2
  blames_put rose fault.NoMemory m = tt

-- ---- what measures too much

pub refused_size : (k : Hooked) (b c : Option (List Turn)) (own : Option ObjectView) (h : ObjectView) (rose : Type 0) (f : AdmitFault)
    → AreBackThen k b c own h 0 (Some 0) (count_of k.definition) None
    → Refused (λ g. g ≡ breaks h.meta.name object_path rule.Size) ⊥ f → MayRefuse k b c own h rose f
refused_size k b c own h rose (fault.BadRequest why) back said = absurd (differ said)
  where
    differ : {n p : List ℕ} → bad_request (why_of why) ≡ breaks n p rule.Size → ⊥
    differ e = cc
refused_size k b c own h rose (fault.Invalid name cause) back said = (back, said)
refused_size k b c own h rose fault.Tool back said = absurd said
refused_size k b c own h rose fault.NoMemory back said = tt
