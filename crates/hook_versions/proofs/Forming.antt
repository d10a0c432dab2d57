-- Hub values and their forms, of what was turned.
use Rattle.std.proofs.Common.{◌≡◌, ◌∙◌, ℕ, List, Some, IsTrue, refl, sym, subst}
use Rattle.std.specs.Prelude.{◌≢◌}
use Rattle.kj_value.specs.Json.{Json}
use Rattle.kube_meta.specs.View.{MetaView, ObjectView}
use Rattle.api_calls.specs.Spelled.{IsTextOf}
use Rattle.api_calls.specs.laws.SpelledLaws.{stored-text}
use Rattle.api_calls.specs.Versions.{AreStamps, IsStored}
use Rattle.crd_meaning.specs.Meant.{Settings}
use Rattle.crd_laws.specs.Hook.{Hooked, IsHooked, version_text, Near, IsAt, IsForm, ComesBack, hook_meaning}
use Rattle.crd_laws.proofs.Forms as laws
use Rattle.crd_laws.proofs.Standing.{near_stands, stand}
use Rattle.hook_versions.specs.inner.Steps.{IsTaken, IsStanding}
use Rattle.hook_versions.proofs.Standing.{taken_standing, form_near, hub_near}
use Rattle.hook_versions.proofs.Objects.{stands_standing}

module _ (k : Hooked) where
  -- what stands at the hub is its own form there
  pub itself : (v : ℕ) (h : ObjectView) → IsStanding k.definition k.definition.hub h → v ≡ k.definition.hub → IsForm k v h h
  itself v h s e = record {
    near = record { at = subst (λ (u : ℕ). IsAt k.definition u h) (sym e) s.stands.at; kind = refl; meta = refl; rules = λ r. r; hub = λ _. refl };
    turned = λ honest spoke. absurd (spoke e);
  }

  pub form_of : (v : ℕ) (h x : ObjectView) (j : Json) → IsStanding k.definition k.definition.hub h → v ≢ k.definition.hub → IsTaken k.definition h v j x
      → (IsTrue k.honest → k.turned h (version_text k.definition v) ≡ Some x) → IsForm k v h x
  form_of v h x j s spoke t e = record {
    near = form_near k.definition k.definition.hub v h x j s t refl spoke;
    turned = λ honest _. e honest;
  }

  -- ---- back from a stored form

  module _ (o : Settings) (is : IsHooked k) (v : ℕ) (g : ObjectView) (bytes : List ℕ) (s : IsStored (hook_meaning k o) v g bytes) where
    pub form_standing : IsStanding k.definition v s.form
    form_standing =
        stands_standing k.definition v s.form (near_stands k o v g s.form s.whole.stands s.pairs.near)
        (subst (λ (m : MetaView). AreStamps m.created m.deleted m.generation) (sym s.pairs.near.meta) s.whole.stamps)

    pub form_text : IsTextOf s.form bytes
    form_text = stored-text (hook_meaning k o) v g bytes (stand k o is) s

    pub read_standing : (x : ObjectView) → x ≡ s.form → IsStanding k.definition v x
    read_standing x same = subst (λ (z : ObjectView). IsStanding k.definition v z) (sym same) form_standing

    pub read_text : (x : ObjectView) → x ≡ s.form → IsTextOf x bytes
    read_text x same = subst (λ (z : ObjectView). IsTextOf z bytes) (sym same) form_text

    pub stored_itself : (x : ObjectView) → v ≡ k.definition.hub → x ≡ s.form → IsStored (hook_meaning k o) v x bytes
    stored_itself x e same =
        subst (λ (h : ObjectView). IsStored (hook_meaning k o) v h bytes) (sym (same ∙ s.pairs.near.hub e)) s

    pub stored_back : (x y : ObjectView) (j : Json) → v ≢ k.definition.hub → x ≡ s.form → IsTaken k.definition x k.definition.hub j y
        → (IsTrue k.honest → k.turned x (version_text k.definition k.definition.hub) ≡ Some y) → IsStored (hook_meaning k o) v y bytes
    stored_back x y j spoke same t e =
        let standing : IsStanding k.definition v x = subst (λ (z : ObjectView). IsStanding k.definition v z) (sym same) form_standing in
        let hub = taken_standing k.definition v k.definition.hub x y j standing t in
        let is_g : IsTrue k.honest → g ≡ y = λ honest.
        laws.one_some (k.turned x (version_text k.definition k.definition.hub)) g y
        (subst (λ (z : ObjectView). k.turned z (version_text k.definition k.definition.hub) ≡ Some g) (sym same) (laws.back k o is honest v g s.form s.known spoke s.whole s.pairs))
        (e honest) in record {
          form = s.form;
          known = s.known;
          whole = record {
            stands = hub.stands;
            stamps = hub.stamps;
            back = λ honest u known other. subst (λ (h : ObjectView). ComesBack k u h) (is_g honest) (s.whole.back honest u known other);
          };
          pairs = record {
            near = subst (λ (z : ObjectView). Near k.definition v y z) same (hub_near k.definition v k.definition.hub x y j standing t spoke);
            turned = λ honest other. subst (λ (h : ObjectView). k.turned h (version_text k.definition v) ≡ Some s.form) (is_g honest) (s.pairs.turned honest other);
          };
          spelled = s.spelled;
          utf8 = s.utf8;
        }
