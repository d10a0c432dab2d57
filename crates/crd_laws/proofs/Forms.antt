-- With an honest converter a hub value has one form at a version, and is the only one that has it.
use Rattle.std.proofs.Common.{◌≡◌, ◌∙◌, ℕ, ◌<◌, Bool, true, false, Option, Some, IsTrue, refl, sym, subst, arith}
use Rattle.std.specs.Prelude.{◌≢◌, ◌==◌, ◌≤◌}
use Rattle.std.proofs.lemmas.Bool.Decides.{nat_tests}
use Rattle.kj_value.specs.Json.{depth}
use Rattle.kube_meta.specs.Document.{document}
use Rattle.kube_meta.specs.View.{ObjectView}
use Rattle.api_calls.specs.Versions.{IsOneToOne}
use Rattle.api_calls.specs.declared.versions.TheConstants.{OBJECT_LEVELS}
use Rattle.crd_meaning.specs.Definition.{count_of}
use Rattle.crd_meaning.specs.Meant.{Settings}
use Rattle.crd_laws.specs.Hook.{Hooked, IsHooked, version_text, IsAt, IsForm, IsWhole, hook_meaning}
use Rattle.crd_laws.proofs.Standing.{stand}

same_place : (v w : ℕ) → (v == w) ≡ true → v ≡ w
same_place v w e = grind (arith, nat_tests)

other_place : (v w : ℕ) → (v == w) ≡ false → v ≢ w
other_place v w e = λ same. grind (arith, nat_tests)

-- a statement of a version, at the hub and elsewhere
pub by_place : (P : Type 0) (v hub : ℕ) → (v ≡ hub → P) → (v ≢ hub → P) → P
by_place P v hub here there = by (v == hub) refl
  where
    by : (b : Bool) → (v == hub) ≡ b → P
    by true e = here (same_place v hub e)
    by false e = there (other_place v hub e)

pub one_some : (o : Option ObjectView) (x y : ObjectView) → o ≡ Some x → o ≡ Some y → x ≡ y
one_some o x y p q = let same : Some x ≡ Some y = sym p ∙ q in cc

module _ (k : Hooked) (o : Settings) (is : IsHooked k) where
  levels : (h : ObjectView) → IsWhole k h → depth (document h) ≤ OBJECT_LEVELS
  levels h w = ((stand k o is).whole h w).levels

  pub at_hub : (v : ℕ) (h : ObjectView) → IsWhole k h → v ≡ k.definition.hub → IsForm k v h h
  at_hub v h w e = record {
    near = record {
      at = subst (λ (u : ℕ). IsAt k.definition u h) (sym e) w.stands.at;
      kind = refl;
      meta = refl;
      rules = λ r. r;
      hub = λ _. refl;
    };
    turned = λ honest spoke. absurd (spoke e);
  }

  module _ (honest : IsTrue k.honest) where
    elsewhere : (v : ℕ) (h : ObjectView) → v < count_of k.definition → IsWhole k h → v ≢ k.definition.hub → (x : ObjectView) × IsForm k v h x
    elsewhere v h known w spoke =
        let b = w.back honest v known spoke in
        let same = is.stays honest h b.form (version_text k.definition v) (levels h w) w.stands.rules b.there in (
          b.form,
          record {
            near = record { at = b.stands.at; kind = same.kind; meta = same.meta; rules = λ r. same.rules; hub = λ e. absurd (spoke e) };
            turned = λ h s. b.there;
          },
        )

    total : (v : ℕ) (h : ObjectView) → v < count_of k.definition → IsWhole k h → (x : ObjectView) × IsForm k v h x
    total v h known w = by_place ((x : ObjectView) × IsForm k v h x) v k.definition.hub (λ e. (h, at_hub v h w e)) (λ s. elsewhere v h known w s)

    pub function : (v : ℕ) (h x y : ObjectView) → IsForm k v h x → IsForm k v h y → x ≡ y
    function v h x y p q =
        by_place (x ≡ y) v k.definition.hub (λ e. p.near.hub e ∙ sym (q.near.hub e))
        (λ s. one_some (k.turned h (version_text k.definition v)) x y (p.turned honest s) (q.turned honest s))

    -- the form comes back
    pub back : (v : ℕ) (h x : ObjectView) → v < count_of k.definition → v ≢ k.definition.hub → IsWhole k h → IsForm k v h x
        → k.turned x (version_text k.definition k.definition.hub) ≡ Some h
    back v h x known spoke w p =
        let b = w.back honest v known spoke in
        let same = one_some (k.turned h (version_text k.definition v)) b.form x b.there (p.turned honest spoke) in
        subst (λ (y : ObjectView). k.turned y (version_text k.definition k.definition.hub) ≡ Some h) same b.back

    injective : (v : ℕ) (g h x : ObjectView) → v < count_of k.definition → IsWhole k g → IsWhole k h → IsForm k v g x → IsForm k v h x → g ≡ h
    injective v g h x known wg wh p q =
        by_place (g ≡ h) v k.definition.hub (λ e. sym (p.near.hub e) ∙ q.near.hub e)
        (λ s. one_some (k.turned x (version_text k.definition k.definition.hub)) g h (back v g x known s wg p) (back v h x known s wh q))

    pub one_to_one : IsOneToOne (hook_meaning k o)
    one_to_one = record {
      total = total;
      function = λ v h x y known w p q. function v h x y p q;
      injective = injective;
    }
