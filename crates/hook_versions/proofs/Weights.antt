-- A hub value that comes back from version after version, and its weight.
use Rattle.std.proofs.Common.{◌≡◌, ◌∙◌, ◌⊎◌, inl, inr, ℕ, ◌+◌, ◌*◌, ◌<◌, ◌≤◌, List, ◌++◌, length, length-append, Option, Some, None, IsTrue, refl, ap, ap₂, sym, subst, arith}
use Rattle.std.specs.Prelude.{◌≢◌, ◌==◌, true, ⊤, IfSome}
use Rattle.std.proofs.lemmas.Bool.Decides.{nat_tests}
use Rattle.kj_value.specs.Fields.{Pairs}
use Rattle.kube_meta.specs.Shapes.{shaped}
use Rattle.kube_meta.specs.View.{Texts, MetaView, ObjectView}
use Rattle.kube_meta.specs.Document.{document}
use Rattle.kube_meta.specs.declared.object.Shape.{Shape}
use Rattle.api_calls.specs.Meaning.{Weighs, chunks, measure}
use Rattle.crd_meaning.specs.declared.limits.TheConstants.{MAX_MEASURE}
use Rattle.crd_meaning.specs.Definition.{Definition, count_of}
use Rattle.crd_meaning.specs.Meant.{Settings, no_settings}
use Rattle.converters.specs.Turns.{Turn}
use Rattle.crd_laws.specs.Hook.{Hooked, version_text, Near, IsForm, ComesBack, IsWhole, IsLight, hook_meaning}
use Rattle.crd_laws.specs.Turning.{WasTurned, CameBack, OfTurns}
use Rattle.crd_laws.proofs.Forms.{one_some}
use Rattle.crd_laws.proofs.Standing.{near_stands}
use Rattle.hook_versions.specs.inner.Steps.{IsStanding}
use Rattle.hook_versions.specs.inner.Weighing.{IsOwn, own_turns, IsBackIn, IsBackAt, IsHeavier, WeighTo, AreWithin, CameBackAt, CameBackOtherwise, HaveComeBack, AreBack, AreBackThen}
use Rattle.hook_versions.proofs.Trail.{none_made, both_made, made_so}
use Rattle.hook_versions.proofs.Backs.{turned_first, turned_later}
use Rattle.hook_versions.proofs.Forming.{itself}

at_or_below : (u v : ℕ) → u < v + 1 → (u < v) ⊎ (u ≡ v)
at_or_below u v p = grind arith

at_most : (m n : ℕ) → (m ≤ n) ⊎ (n < m)
at_most m n = grind arith

-- each text has a brace
some_chunks : (x : ObjectView) → 0 < chunks (measure x)
unfolding document
some_chunks x = omega arith

-- ---- turns

module _ (d : Definition) (h : ObjectView) where
  own_first : (us vs : List Turn) (own : Option ObjectView) → IsOwn d us own h → IsOwn d (us ++ vs) own h
  own_first us vs None t = tt
  own_first us vs (Some y) t = turned_first d us vs y d.hub h t

  module _ (v : ℕ) where
    within_hub : (ts : List Turn) (more : ℕ) → v ≡ d.hub → AreWithin d ts v more → AreWithin d ts (v + 1) more
    within_hub ts more e w =
        let so = w.before in
        record { before = omega (arith, so); past = λ _. omega (arith, so) }

    within_next : (us vs : List Turn) (most more : ℕ) → v ≢ d.hub → most + length vs ≤ more + 2 → AreWithin d us v most → AreWithin d (us ++ vs) (v + 1) more
    within_next us vs most more spoke few w =
        let so = w.before in
        let all = length-append us vs in record {
          before = omega (arith, so, all, few);
          past = λ p. elim (at_or_below d.hub v p) [
            | inl q ↦ let past = w.past q in omega (arith, past, all, few)
            | inr q ↦ absurd (spoke (sym q))
          ];
        }

    back_hub : (P : ℕ → Type 0) → v ≡ d.hub → ((u : ℕ) → u < v → u ≢ d.hub → P u) → (u : ℕ) → u < v + 1 → u ≢ d.hub → P u
    back_hub P e b u p spoke = elim (at_or_below u v p) [
      | inl q ↦ b u q spoke
      | inr q ↦ absurd (spoke (q ∙ e))
    ]

    back_next : (P : ℕ → Type 0) → P v → ((u : ℕ) → u < v → u ≢ d.hub → P u) → (u : ℕ) → u < v + 1 → u ≢ d.hub → P u
    back_next P at b u p spoke = elim (at_or_below u v p) [
      | inl q ↦ b u q spoke
      | inr q ↦ subst P (sym q) at
    ]

    module _ (own : Option ObjectView) where
      come_hub : (ts : List Turn) → v ≡ d.hub → HaveComeBack d ts own h v → HaveComeBack d ts own h (v + 1)
      come_hub ts e (inl b) = inl (within_hub ts 0 e b.0, back_hub (CameBackAt d ts h) e b.1)
      come_hub ts e (inr b) = inr (within_hub ts (own_turns own) e b.0, back_hub (CameBackOtherwise d ts own h) e b.1)

      module _ (us vs : List Turn) where
        at_first : (u : ℕ) → CameBackAt d us h u → CameBackAt d (us ++ vs) h u
        at_first u m = (m.0, turned_first d us vs h u m.0 m.1, turned_first d us vs m.0 d.hub h m.2)

        otherwise_first : (u : ℕ) → CameBackOtherwise d us own h u → CameBackOtherwise d (us ++ vs) own h u
        otherwise_first u m = (m.0, turned_first d us vs h u m.0 m.1, turned_first d us vs m.0 d.hub h m.2, m.3)

        at_so : (u : ℕ) → CameBackOtherwise d us own h u → CameBackAt d us h u
        at_so u m = (m.0, m.1, m.2)

        own_back : (x : ObjectView) → WasTurned d vs h v x → IsOwn d us own h → own ≡ Some x → CameBackAt d (us ++ vs) h v
        own_back x there mine e = (x, turned_later d us vs h v x there, turned_first d us vs x d.hub h (subst (λ (o : Option ObjectView). IsOwn d us o h) e mine))

        come_next : (x : ObjectView) → v ≢ d.hub → IsOwn d us own h → WasTurned d vs h v x → IsBackIn d vs own x h → HaveComeBack d us own h v
            → HaveComeBack d (us ++ vs) own h (v + 1)
        come_next x spoke mine there (inl t) (inl b) =
            let two = t.0 in
            let few : 0 + length vs ≤ 0 + 2 = omega (arith, two) in
            inl (
              within_next us vs 0 0 spoke few b.0,
              back_next (CameBackAt d (us ++ vs) h) (x, turned_later d us vs h v x there, turned_later d us vs x d.hub h t.1) (λ u p s. at_first u (b.1 u p s)),
            )
        come_next x spoke mine there (inl t) (inr b) =
            let two = t.0 in
            let few : own_turns own + length vs ≤ own_turns own + 2 = omega (arith, two) in
            inr (
              within_next us vs (own_turns own) (own_turns own) spoke few b.0,
              back_next (CameBackOtherwise d (us ++ vs) own h) (x, turned_later d us vs h v x there, turned_later d us vs x d.hub h t.1, t.2) (λ u p s. otherwise_first u (b.1 u p s)),
            )
        come_next x spoke mine there (inr t) (inl b) =
            let one = t.0 in
            let few : 0 + length vs ≤ 0 + 2 = omega (arith, one) in
            inl (within_next us vs 0 0 spoke few b.0, back_next (CameBackAt d (us ++ vs) h) (own_back x there mine t.1) (λ u p s. at_first u (b.1 u p s)))
        come_next x spoke mine there (inr t) (inr b) =
            let one = t.0 in
            let mine_too : own_turns own ≡ 1 = ap own_turns t.1 in
            let few : own_turns own + length vs ≤ 0 + 2 = omega (arith, one, mine_too) in
            inl (within_next us vs (own_turns own) 0 spoke few b.0, back_next (CameBackAt d (us ++ vs) h) (own_back x there mine t.1) (λ u p s. at_first u (at_so u (b.1 u p s))))

-- ---- weights

module _ (k : Hooked) (h : ObjectView) where
  abbrev Met : ℕ → ℕ → Type 0
  Met t n = ((t ≡ 0) × (n ≡ 0)) ⊎ ((u : ℕ) × (y : ObjectView) × (u < t) × IsForm k u h y × (chunks (measure y) ≡ n))

  weigh_next : (v : ℕ) (x : ObjectView) (most weight : Option ℕ) → IsForm k v h x → ((y : ObjectView) → IsForm k v h y → y ≡ x)
      → IsHeavier most (measure x) weight → WeighTo k h v most → WeighTo k h (v + 1) weight
  weigh_next v x None None form one e w = (w.0, w.1, omega (arith, w.2), w.3, w.4)
  weigh_next v x None (Some n) form one e w = absurd (cc)
  weigh_next v x (Some m) None form one e w = (v, x, omega arith, form, e)
  weigh_next v x (Some m) (Some n) form one e w = (within, met (at_most m (chunks (measure x))))
    where
      within : (u : ℕ) (y : ObjectView) → u < v + 1 → IsForm k u h y → (measure y ≤ MAX_MEASURE) × (chunks (measure y) ≤ n)
      within u y p f = elim (at_or_below u v p) [
        | inl q ↦ let was = w.0 u y q f in (was.0, omega (arith, was.1, e.1))
        | inr q ↦ let same = one y (subst (λ (t : ℕ). IsForm k t h y) q f) in
            let bytes : measure y ≡ measure x = ap measure same in
            let few : chunks (measure y) ≡ chunks (measure x) = ap chunks bytes in
            (omega (arith, bytes, e.0), omega (arith, few, e.1))
      ]

      before : chunks (measure x) < m → Met v m → Met (v + 1) n
      before p (inl q) = absurd (omega (arith, p, q.1))
      before p (inr q) = inr (q.0, q.1, omega (arith, q.2), q.3, omega (arith, q.4, e.1, p))

      met : (m ≤ chunks (measure x)) ⊎ (chunks (measure x) < m) → Met (v + 1) n
      met (inl p) = inr (v, x, omega arith, form, omega (arith, e.1, p))
      met (inr p) = before p w.1

  some_next : (x : ObjectView) (most weight : Option ℕ) → IsHeavier most (measure x) weight → IfSome weight (λ w. 0 < w)
  some_next x None None e = tt
  some_next x None (Some n) e = absurd (cc)
  some_next x (Some m) None e = tt
  some_next x (Some m) (Some n) e = omega (arith, some_chunks x, e.1)

  -- ---- version after version

  pub none_yet : (a b : Option (List Turn)) (own : Option ObjectView) → OfTurns a b (λ ts. IsOwn k.definition ts own h × (length ts ≡ own_turns own))
      → AreBack k a b own h 0 (Some 0)
  none_yet a b own put = record {
    turns = made_so a b (λ ts. IsOwn k.definition ts own h × (length ts ≡ own_turns own)) (λ ts. IsOwn k.definition ts own h × HaveComeBack k.definition ts own h 0)
        (λ ts t. (t.0, inr (start ts t.1, λ v p spoke. absurd (omega (arith, p))))) put;
    comes = λ honest v p spoke. absurd (omega (arith, p));
    weigh = λ honest. (λ v x p f. absurd (omega (arith, p)), inl (refl, refl));
    some = λ p. absurd (omega (arith, p));
  }
    where
      start : (ts : List Turn) → length ts ≡ own_turns own → AreWithin k.definition ts 0 (own_turns own)
      start ts e = record { before = omega (arith, e); past = λ p. absurd (omega (arith, p)) }

  module _ (own : Option ObjectView) where
    at_hub : (a b : Option (List Turn)) (v : ℕ) (most weight : Option ℕ) → IsStanding k.definition k.definition.hub h → v ≡ k.definition.hub
        → AreBack k a b own h v most → IsHeavier most (measure h) weight → AreBack k a b own h (v + 1) weight
    at_hub a b v most weight s e back heavy = record {
      turns = made_so a b (λ ts. IsOwn k.definition ts own h × HaveComeBack k.definition ts own h v) (λ ts. IsOwn k.definition ts own h × HaveComeBack k.definition ts own h (v + 1))
          (λ ts t. (t.0, come_hub k.definition h v own ts e t.1)) back.turns;
      comes = λ honest. back_hub k.definition h v (λ u. ComesBack k u h) e (back.comes honest);
      weigh = λ honest. weigh_next v h most weight (itself k v h s e) (λ y f. f.near.hub e) heavy (back.weigh honest);
      some = λ p. some_next h most weight heavy;
    }

    elsewhere : (a b c : Option (List Turn)) (v : ℕ) (x : ObjectView) (most weight : Option ℕ) → IsStanding k.definition k.definition.hub h → v ≢ k.definition.hub
        → AreBack k a b own h v most → IsBackAt k b c own h v x → IsHeavier most (measure x) weight → AreBack k a c own h (v + 1) weight
    elsewhere a b c v x most weight s spoke back at heavy = record {
      turns = both_made a b c (λ ts. IsOwn k.definition ts own h × HaveComeBack k.definition ts own h v) (λ ts. WasTurned k.definition ts h v x × IsBackIn k.definition ts own x h)
          (λ ts. IsOwn k.definition ts own h × HaveComeBack k.definition ts own h (v + 1))
          (λ us vs p q. (own_first k.definition h us vs own p.0, come_next k.definition h v own us vs x spoke p.0 q.0 q.1 p.1)) back.turns at.turns;
      comes = λ honest. back_next k.definition h v (λ u. ComesBack k u h) (record {
        form = x;
        there = at.there honest;
        stands = near_stands k no_settings v h x s.stands at.near;
        back = at.back honest;
      }) (back.comes honest);
      weigh = λ honest. weigh_next v x most weight (record { near = at.near; turned = λ honest _. at.there honest })
          (λ y f. one_some (k.turned h (version_text k.definition v)) y x (f.turned honest spoke) (at.there honest)) heavy (back.weigh honest);
      some = λ p. some_next x most weight heavy;
    }

    -- ---- from version to version

    pub then_none : (a : Option (List Turn)) → AreBackThen k a a own h 0 (Some 0) 0 (Some 0)
    then_none a = record { grew = none_made a (λ ts. ⊤) tt; then = λ since back. back }

    pub then_next : (a b c : Option (List Turn)) (v : ℕ) (most weight : Option ℕ) → AreBackThen k a b own h 0 (Some 0) v most → AreBackThen k b c own h v most (v + 1) weight
        → AreBackThen k a c own h 0 (Some 0) (v + 1) weight
    then_next a b c v most weight s t = record {
      grew = both_made a b c (λ ts. ⊤) (λ ts. ⊤) (λ ts. ⊤) (λ us vs p q. tt) s.grew t.grew;
      then = λ since back. t.then since (s.then since back);
    }

    pub then_hub : (b : Option (List Turn)) (v : ℕ) (most weight : Option ℕ) → IsStanding k.definition k.definition.hub h → v ≡ k.definition.hub
        → IsHeavier most (measure h) weight → AreBackThen k b b own h v most (v + 1) weight
    then_hub b v most weight s e heavy = record { grew = none_made b (λ ts. ⊤) tt; then = λ since back. at_hub since b v most weight s e back heavy }

    pub then_elsewhere : (b c : Option (List Turn)) (v : ℕ) (x : ObjectView) (most weight : Option ℕ) → IsStanding k.definition k.definition.hub h → v ≢ k.definition.hub
        → IsBackAt k b c own h v x → IsHeavier most (measure x) weight → AreBackThen k b c own h v most (v + 1) weight
    then_elsewhere b c v x most weight s spoke at heavy = record {
      grew = made_so b c (λ ts. WasTurned k.definition ts h v x × IsBackIn k.definition ts own x h) (λ ts. ⊤) (λ ts t. tt) at.turns;
      then = λ since back. elsewhere since b c v x most weight s spoke back at heavy;
    }

  -- ---- all of them

  module _ (a b : Option (List Turn)) (own : Option ObjectView) (s : IsStanding k.definition k.definition.hub h) where
    pub whole : (weight : Option ℕ) → AreBack k a b own h (count_of k.definition) weight → IsWhole k h
    whole weight back = record { stands = s.stands; stamps = s.stamps; back = λ honest v known spoke. back.comes honest v known spoke }

    pub light : (w : ℕ) → AreBack k a b own h (count_of k.definition) (Some w) → IsTrue k.honest → IsLight k h
    light w back honest v x known f = ((back.weigh honest).0 v x known f).0

    pub weighs : (w : ℕ) → 0 < count_of k.definition → AreBack k a b own h (count_of k.definition) (Some w) → IsTrue k.honest → (o : Settings) → Weighs (hook_meaning k o) h w
    weighs w versions back honest o = record {
      within = λ v x known f. ((back.weigh honest).0 v x known f).1;
      met = by_met (back.weigh honest).1;
    }
      where
        by_met : ((count_of k.definition ≡ 0) × (w ≡ 0)) ⊎ ((v : ℕ) × (x : ObjectView) × (v < count_of k.definition) × IsForm k v h x × (chunks (measure x) ≡ w))
            → (v : ℕ) × (x : ObjectView) × (v < count_of k.definition) × IsForm k v h x × (chunks (measure x) ≡ w)
        by_met (inl n) = absurd (omega (arith, versions, n.0))
        by_met (inr m) = m

    pub heavy : AreBack k a b own h (count_of k.definition) None → IsTrue k.honest → IsLight k h → ⊥
    heavy back honest light =
        let at = back.weigh honest in
        let few = light at.0 at.1 at.2 at.3 in
        omega (arith, few, at.4)

  pub came_back : (ts : List Turn) (own : Option ObjectView) → HaveComeBack k.definition ts own h (count_of k.definition) → CameBack k.definition ts h
  came_back ts own (inl b) = b.1
  came_back ts own (inr b) = λ v known spoke. let m = b.1 v known spoke in (m.0, m.1, m.2)

-- ---- what is kept of a form

pub same_number : (v w : ℕ) → (v == w) ≡ true → v ≡ w
same_number v w e = grind (arith, nat_tests)

pub shaped_is : (h x : ObjectView) (p : Shape) → p.version.bytes ≡ x.api_version → p.notes ≡ x.meta.annotations → p.body ≡ x.body → x.kind ≡ h.kind
    → x.meta ≡ record h.meta { labels = x.meta.labels; annotations = x.meta.annotations } → h.meta.labels ≡ x.meta.labels → shaped p h ≡ x
shaped_is h x p version notes body kind meta labels =
    let same : record h.meta { annotations = p.notes } ≡ x.meta =
    ap (λ (t : Texts). record h.meta { annotations = t }) notes
    ∙ ap (λ (t : Texts). record h.meta { labels = t; annotations = x.meta.annotations }) labels
    ∙ sym meta in
    ap₂ (λ (t : List ℕ) (m : MetaView). record x { api_version = t; kind = h.kind; meta = m; body = p.body }) version same
    ∙ ap₂ (λ (t : List ℕ) (b : Pairs). record x { kind = t; body = b }) (sym kind) body

pub shaped_form : (k : Hooked) (v storage : ℕ) (h x y : ObjectView) → v ≡ storage → y ≡ x → Near k.definition v h x
    → (IsTrue k.honest → k.turned h (version_text k.definition v) ≡ Some x) → IsForm k storage h y
shaped_form k v storage h x y same is near there =
    subst (λ (u : ℕ). IsForm k u h y) same
    (subst (λ (z : ObjectView). IsForm k v h z) (sym is) (record { near = near; turned = λ honest _. there honest }))
