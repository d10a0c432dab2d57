-- Whether the form of a hub value is turned back to it, and which turns are at fault where it isn't.
use Rattle.std.proofs.Common.{◌≡◌, ◌∙◌, ℕ, ◌+◌, List, ◌++◌, length, length-append, Option, Some, IsTrue, inl, inr, refl, sym, subst, arith}
use Rattle.std.specs.Prelude.{◌≢◌, ◌⊎◌, None, Result, Ok, Err, option_map, IfSome, OnOk}
use Rattle.kube_meta.specs.View.{ObjectView, object_of}
use Rattle.kube_meta.specs.declared.object.Object.{Object}
use Rattle.api_calls.specs.declared.versions.ConvFault.{ConvFault}
use Rattle.api_calls.specs.declared.versions.ConvFault.TheVariants as conv
use Rattle.crd_meaning.specs.Definition.{Definition}
use Rattle.converters.specs.Turns.{Turn}
use Rattle.crd_laws.specs.Hook.{Hooked, version_text}
use Rattle.crd_laws.specs.Turning.{WasTurned, FailsBy, of_failed, of_refused, of_answer, of_another, OfTurns}
use Rattle.hook_versions.specs.Taken.{BlamesTurn}
use Rattle.hook_versions.specs.inner.Steps.{IsStanding, Turns}
use Rattle.hook_versions.specs.inner.Weighing.{IsOwnOf, IsBackBy, IsBackIn, IsBackAt, IsNotBack}
use Rattle.hook_versions.proofs.Trail.{both_made, made_so, made_first, made_later}
use Rattle.hook_versions.proofs.Turned.{was_turned, turned_once}
use Rattle.hook_versions.proofs.Standing.{form_near}

-- ---- with turns before and behind

pub turned_first : (d : Definition) (us vs : List Turn) (x : ObjectView) (v : ℕ) (y : ObjectView) → WasTurned d us x v y → WasTurned d (us ++ vs) x v y
turned_first d us vs x v y t = record { answer = t.answer; made = made_first us vs _ t.made; good = t.good; taken = t.taken }

pub turned_later : (d : Definition) (us vs : List Turn) (x : ObjectView) (v : ℕ) (y : ObjectView) → WasTurned d vs x v y → WasTurned d (us ++ vs) x v y
turned_later d us vs x v y t = record { answer = t.answer; made = made_later us vs _ t.made; good = t.good; taken = t.taken }

pub fails_more : (d : Definition) (us vs : List Turn) → FailsBy d vs → FailsBy d (us ++ vs)
fails_more d us vs (of_failed x v m) = of_failed x v (made_later us vs _ m)
fails_more d us vs (of_refused x v m) = of_refused x v (made_later us vs _ m)
fails_more d us vs (of_answer x v j m bad) = of_answer x v j (made_later us vs _ m) bad
fails_more d us vs (of_another h x g v s t other) = of_another h x g v (turned_later d us vs h v x s) (turned_later d us vs x d.hub g t) other

pub blames_later : (d : Definition) (a b c : Option (List Turn)) (P : List Turn → Type 0) (f : ConvFault) → OfTurns a b P → BlamesTurn d b c f → BlamesTurn d a c f
blames_later d a b c P conv.Tool h g = both_made a b c P (FailsBy d) (FailsBy d) (λ us vs p q. fails_more d us vs q) h g
blames_later d a b c P conv.NoMemory h g = tt

-- ---- back

module _ (d : Definition) (a b : Option (List Turn)) (x h : ObjectView) where
  pub not_back_turn : (f : ConvFault) → BlamesTurn d a b f → IsNotBack d a b x h f
  not_back_turn conv.Tool g = made_so a b (FailsBy d) _ (λ ts t. inl t) g
  not_back_turn conv.NoMemory g = tt

  module _ (g : ObjectView) (t : Turns d a b x d.hub g) where
    pub back_turned : g ≡ h → OfTurns a b (λ ts. (length ts ≡ 1) × WasTurned d ts x d.hub h)
    back_turned e = subst (λ (y : ObjectView). OfTurns a b (λ ts. (length ts ≡ 1) × WasTurned d ts x d.hub y)) e (turned_once d a b x d.hub g t)

    pub not_back_other : (c : Option (List Turn)) (f : ConvFault) → c ≡ b → g ≢ h → IsNotBack d a c x h f
    not_back_other c conv.Tool e other =
        subst (λ (o : Option (List Turn)). IsNotBack d a o x h conv.Tool) (sym e)
        (made_so a b (λ ts. WasTurned d ts x d.hub g) _ (λ ts w. inr (g, w, other)) (was_turned d a b x d.hub g t))
    not_back_other c conv.NoMemory e other = tt

-- ---- by the object that was turned to the hub value before

pub own_is : (k : Hooked) (h x : ObjectView) (own : Option Object) → option_map object_of own ≡ Some x → IfSome own (λ y. IsOwnOf k h (object_of y)) → IsOwnOf k h x
own_is k h x (Some y) e o =
    let same : object_of y ≡ x = cc in
    subst (λ (z : ObjectView). IsOwnOf k h z) same o
own_is k h x None e o = absurd (cc)

pub back_once : {A E : Type 0} (d : Definition) (a b : Option (List Turn)) (x h : ObjectView) (own : Option ObjectView) (r : Result A E) → own ≢ Some x
    → OnOk r (OfTurns a b (λ ts. (length ts ≡ 1) × WasTurned d ts x d.hub h)) → OnOk r (IsBackBy d a b own x h)
back_once d a b x h own (Ok u) other t = inl (t, other)
back_once d a b x h own (Err e) other t = tt

-- ---- there and back

module _ (k : Hooked) (a b c : Option (List Turn)) (h : ObjectView) (v : ℕ) (x : ObjectView) where
  module _ (own : Option ObjectView) where
    back_in : OfTurns a b (λ ts. (length ts ≡ 1) × WasTurned k.definition ts h v x) → IsBackBy k.definition b c own x h
        → OfTurns a c (λ ts. WasTurned k.definition ts h v x × IsBackIn k.definition ts own x h)
    back_in there (inl back) =
        both_made a b c (λ ts. (length ts ≡ 1) × WasTurned k.definition ts h v x) (λ ts. (length ts ≡ 1) × WasTurned k.definition ts x k.definition.hub h)
        (λ ts. WasTurned k.definition ts h v x × IsBackIn k.definition ts own x h)
        (λ us vs p q. (turned_first k.definition us vs h v x p.1, inl (two us vs p.0 q.0, turned_later k.definition us vs x k.definition.hub h q.1, back.1)))
        there back.0
      where
        two : (us vs : List Turn) → length us ≡ 1 → length vs ≡ 1 → length (us ++ vs) ≡ 2
        two us vs p q = omega (arith, length-append us vs, p, q)
    back_in there (inr same) =
        subst (λ (o : Option (List Turn)). OfTurns a o (λ ts. WasTurned k.definition ts h v x × IsBackIn k.definition ts own x h)) (sym same.0)
        (made_so a b (λ ts. (length ts ≡ 1) × WasTurned k.definition ts h v x) (λ ts. WasTurned k.definition ts h v x × IsBackIn k.definition ts own x h)
        (λ ts p. (p.1, inr (p.0, same.1))) there)

    pub back_at : IsStanding k.definition k.definition.hub h → v ≢ k.definition.hub → Turns k.definition a b h v x
        → (IsTrue k.honest → k.turned h (version_text k.definition v) ≡ Some x) → IsBackBy k.definition b c own x h
        → (IsTrue k.honest → k.turned x (version_text k.definition k.definition.hub) ≡ Some h) → IsBackAt k a c own h v x
    back_at s spoke t there by back = record {
      turns = back_in (turned_once k.definition a b h v x t) by;
      near = form_near k.definition k.definition.hub v h x t.answer s t.taken refl spoke;
      there = there;
      back = back;
    }

  pub blames_back : (f : ConvFault) → Turns k.definition a b h v x → IsNotBack k.definition b c x h f → BlamesTurn k.definition a c f
  blames_back conv.Tool t n =
      both_made a b c (λ ts. WasTurned k.definition ts h v x) (λ ts. FailsBy k.definition ts ⊎ ((g : ObjectView) × WasTurned k.definition ts x k.definition.hub g × (g ≢ h))) (FailsBy k.definition)
      (λ us vs p q. at_fault us vs p q) (was_turned k.definition a b h v x t) n
    where
      at_fault : (us vs : List Turn) → WasTurned k.definition us h v x → FailsBy k.definition vs ⊎ ((g : ObjectView) × WasTurned k.definition vs x k.definition.hub g × (g ≢ h))
          → FailsBy k.definition (us ++ vs)
      at_fault us vs p (inl q) = fails_more k.definition us vs q
      at_fault us vs p (inr q) = of_another h x q.0 v (turned_first k.definition us vs h v x p) (turned_later k.definition us vs x k.definition.hub q.0 q.1) q.2
  blames_back conv.NoMemory t n = tt
