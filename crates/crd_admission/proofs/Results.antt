-- Facts of results, and of what is told of a fault.
use Rattle.std.proofs.Common.{◌≡◌, ◌∙◌, ℕ, Option, None, Result, Ok, Err, IfOk, ap, subst}
use Rattle.kj_value.specs.declared.rule.Rule.TheVariants as rule
use Rattle.kube_meta.specs.View.{ObjectView}
use Rattle.kube_meta.specs.declared.object.Shape.{Shape}
use Rattle.api_calls.specs.Meaning.{Fault}
use Rattle.hub_cells.specs.Level.{Name}
use Rattle.spoke_keep.specs.declared.fault.KeepFault.{KeepFault}
use Rattle.spoke_keep.specs.Fault.{IsFaultOf}
use Rattle.keep_laws.specs.Over.{IsFirstBad}
use Rattle.crd_meaning.specs.Definition.{Definition, seat}
use Rattle.crd_meaning.specs.Request.{breaks}
use Rattle.crd_meaning.specs.Admission.{own_name, IsHubOf, IsLight}
use Rattle.crd_meaning.specs.Refusal.{object_path}
use Rattle.crd_admission.specs.NoHub.{HasNoHub, unread, heavy, IsTold}
use Rattle.crd_admission.specs.inner.Weighing.{IsWeightOf}
use Rattle.crd_admission.proofs.Crossed as crossed

pub if_ok : {A E : Type 0} (P Q : A → Type 0) (r : Result A E) → ((x : A) → P x → Q x) → IfOk r P → IfOk r Q
if_ok P Q (Ok x) f h = f x h
if_ok P Q (Err e) f h = h

pub if_both : {A E : Type 0} (P Q R : A → Type 0) (r : Result A E) → ((x : A) → P x → Q x → R x) → IfOk r P → IfOk r Q → IfOk r R
if_both P Q R (Ok x) f h k = f x h k
if_both P Q R (Err e) f h k = h

-- ---- what is told

pub told_unread : (d : Definition) (v : ℕ) (x : ObjectView) (name : Name) (e : KeepFault) → name ≡ x.meta.name
    → IsFaultOf d.spokes (own_name (seat d v)) x.meta.annotations e → (f : Fault) → IsTold name e f → HasNoHub d v x f
told_unread d v x name e same u f t = unread (crossed.told_unread d v x name e same u f t)

pub told_heavy : (d : Definition) (v s : ℕ) (x h : ObjectView) (name : Name) (o : Option (ℕ × Option Shape)) → name ≡ x.meta.name
    → ((k : Name) → IsFirstBad d.spokes (own_name (seat d v)) x.meta.annotations k → ⊥) → ((g : ObjectView) → IsHubOf d v x g → g ≡ h)
    → o ≡ None → IsWeightOf d h s o → (f : Fault) → f ≡ breaks name object_path rule.Size → HasNoHub d v x f
told_heavy d v s x h name o same read one none w f t =
    let large : IsWeightOf d h s None = subst (λ (p : Option (ℕ × Option Shape)). IsWeightOf d h s p) none w in
    heavy (record {
      read = read;
      large = λ g a l. large (subst (λ (k : ObjectView). IsLight d k) (one g a) l);
      told = t ∙ ap (λ (n : Name). breaks n object_path rule.Size) same;
    })
