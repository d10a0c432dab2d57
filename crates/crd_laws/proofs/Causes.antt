-- With an honest converter a request is refused for one reason.
use Rattle.std.proofs.Common.{◌≡◌, ◌∙◌, ℕ, Option, Some, None, IsTrue, refl, ap, ap₂, sym, subst}
use Rattle.kj_value.specs.Json.{Json}
use Rattle.kj_value.specs.declared.rule.Rule.TheVariants as rule
use Rattle.kube_meta.specs.View.{ObjectView}
use Rattle.api_calls.specs.Cause.{not_json, too_deep, not_whole, not_object, wrong_version, wrong_kind, wrong_namespace, wrong_name, bad_query, bad_token, bad_options}
use Rattle.api_calls.specs.Meaning.{Request, Fault, bad_request, invalid}
use Rattle.api_calls.specs.Readings.{IsFaulty, one_fault}
use Rattle.api_calls.specs.Readings as reading
use Rattle.api_calls.specs.declared.versions.TheConstants.{OBJECT_LEVELS}
use Rattle.crd_meaning.specs.Request.{breaks, early}
use Rattle.crd_meaning.specs.Admission.{schema_of, IsFilling, Passes}
use Rattle.crd_meaning.specs.Refusal.{IsNoValue, IsBroken, object_path}
use Rattle.crd_meaning.specs.Given.{Given}
use Rattle.crd_meaning.proofs.Filled.{taken_filled, sound_at}
use Rattle.crd_meaning.proofs.Verdicts.{some_none, taken_one, passes_one}
use Rattle.crd_laws.specs.Hook.{Hooked, HaveSoundDefaults, version_text, IsHubOf, IsUnconverted, IsTooLarge, Refuses, no_value, is_early, is_broken, unconverted, too_large}
use Rattle.crd_laws.proofs.Verdicts.{broken_passes}

-- what is refused of a body that is read as a value
data Told (k : Hooked) (r : Request) (j : Json) (f : Fault) : Type 0 where
  at_first : early k.definition r j ≡ Some f → Told k r j f
  of_rule : (b : IsBroken k.definition r f) → b.taken.value ≡ j → Told k r j f
  of_turn : (b : IsUnconverted k r f) → b.passes.is.value ≡ j → Told k r j f
  of_size : (b : IsTooLarge k r f) → b.passes.is.value ≡ j → Told k r j f

module _ (known : Given) (k : Hooked) (sound : HaveSoundDefaults k) (honest : IsTrue k.honest) (r : Request) where
  no_value_faulty : (f : Fault) → IsNoValue r f → IsFaulty r.bytes OBJECT_LEVELS (Told k r) f
  no_value_faulty (bad_request not_json) n = record { finding = reading.not_json; finds = n; follows = refl }
  no_value_faulty (bad_request too_deep) n = record { finding = reading.too_deep; finds = n; follows = refl }
  no_value_faulty (bad_request not_whole) n = record { finding = reading.not_whole; finds = n; follows = refl }
  no_value_faulty (bad_request not_object) n = absurd n
  no_value_faulty (bad_request wrong_version) n = absurd n
  no_value_faulty (bad_request wrong_kind) n = absurd n
  no_value_faulty (bad_request wrong_namespace) n = absurd n
  no_value_faulty (bad_request wrong_name) n = absurd n
  no_value_faulty (bad_request (bad_query parameter)) n = absurd n
  no_value_faulty (bad_request bad_token) n = absurd n
  no_value_faulty (bad_request bad_options) n = absurd n
  no_value_faulty (invalid name cause) n = absurd n

  faulty : (f : Fault) → Refuses k r f → IsFaulty r.bytes OBJECT_LEVELS (Told k r) f
  faulty f (no_value n) = no_value_faulty f n
  faulty f (is_early e) = record { finding = reading.value e.value; finds = e.reads; follows = at_first e.told }
  faulty f (is_broken b) = record { finding = reading.value b.taken.value; finds = b.taken.reads; follows = of_rule b refl }
  faulty f (unconverted b) = record { finding = reading.value b.passes.is.value; finds = b.passes.is.reads; follows = of_turn b refl }
  faulty f (too_large b) = record { finding = reading.value b.passes.is.value; finds = b.passes.is.reads; follows = of_size b refl }

  one_cause : (f g : Fault) → IsBroken k.definition r f → IsBroken k.definition r g → f ≡ g
  one_cause f g a b =
      let same = (taken_one k.definition r a.object b.object a.number b.number a.taken b.taken).0 in
      let filled = taken_filled known k.definition (λ v. sound_at k.definition.view.versions v sound) r b.object b.number b.taken in
      let here : IsFilling (schema_of k.definition r) a.object.body filled.0 = subst (λ (x : ObjectView). IsFilling (schema_of k.definition r) x.body filled.0) (sym same) filled.1 in
      let causes : Some a.cause ≡ Some b.cause = sym (a.broken filled.0 here) ∙ b.broken filled.0 filled.1 in
      let cause : a.cause ≡ b.cause = cc in
      a.told ∙ ap₂ invalid (ap (λ (x : ObjectView). x.meta.name) same) cause ∙ sym b.told

  passed_whole : (x : ObjectView) (e : Option ℕ) (f : Fault) → Passes k.definition r x e → IsBroken k.definition r f → ⊥
  passed_whole x e f p b = broken_passes known k.definition r x e f p b

  object_one : (x y : ObjectView) (e f : Option ℕ) → Passes k.definition r x e → Passes k.definition r y f → x ≡ y
  object_one x y e f a b = (passes_one known k.definition r x y e f a b).0

  one_turn : (f g : Fault) → IsUnconverted k r f → IsUnconverted k r g → f ≡ g
  one_turn f g a b =
      let same = object_one a.object b.object a.number b.number a.passes b.passes in
      a.told ∙ ap (λ (x : ObjectView). breaks x.meta.name object_path rule.Converted) same ∙ sym b.told

  -- what has a hub value isn't turned to nothing
  turned_or_large : (f g : Fault) → IsUnconverted k r f → IsTooLarge k r g → ⊥
  turned_or_large f g a b =
      let same = object_one a.object b.object a.number b.number a.passes b.passes in
      let large = b.large honest in
      let there = subst (λ (x : ObjectView). IsHubOf k r.version x large.0) (sym same) large.1 in
      some_none (k.turned a.object (version_text k.definition k.definition.hub)) large.0 (there.turned honest a.elsewhere) (a.none honest)

  one_size : (f g : Fault) → IsTooLarge k r f → IsTooLarge k r g → f ≡ g
  one_size f g a b =
      let same = object_one a.object b.object a.number b.number a.passes b.passes in
      a.told ∙ ap (λ (x : ObjectView). breaks x.meta.name object_path rule.Size) same ∙ sym b.told

  clash : (v j : Json) (f : Fault) → early k.definition r v ≡ None → v ≡ j → early k.definition r j ≡ Some f → ⊥
  clash v j f none same told = some_none (early k.definition r j) f told (ap (early k.definition r) (sym same) ∙ none)

  one_told : (j : Json) (f g : Fault) → Told k r j f → Told k r j g → f ≡ g
  one_told j f g (at_first p) (at_first q) = let same : Some f ≡ Some g = sym p ∙ q in cc
  one_told j f g (at_first p) (of_rule b q) = absurd (clash b.taken.value j f b.taken.nothing q p)
  one_told j f g (at_first p) (of_turn b q) = absurd (clash b.passes.is.value j f b.passes.is.nothing q p)
  one_told j f g (at_first p) (of_size b q) = absurd (clash b.passes.is.value j f b.passes.is.nothing q p)
  one_told j f g (of_rule a p) (at_first q) = absurd (clash a.taken.value j g a.taken.nothing p q)
  one_told j f g (of_rule a p) (of_rule b q) = one_cause f g a b
  one_told j f g (of_rule a p) (of_turn b q) = absurd (passed_whole b.object b.number f b.passes a)
  one_told j f g (of_rule a p) (of_size b q) = absurd (passed_whole b.object b.number f b.passes a)
  one_told j f g (of_turn a p) (at_first q) = absurd (clash a.passes.is.value j g a.passes.is.nothing p q)
  one_told j f g (of_turn a p) (of_rule b q) = absurd (passed_whole a.object a.number g a.passes b)
  one_told j f g (of_turn a p) (of_turn b q) = one_turn f g a b
  one_told j f g (of_turn a p) (of_size b q) = absurd (turned_or_large f g a b)
  one_told j f g (of_size a p) (at_first q) = absurd (clash a.passes.is.value j g a.passes.is.nothing p q)
  one_told j f g (of_size a p) (of_rule b q) = absurd (passed_whole a.object a.number g a.passes b)
  one_told j f g (of_size a p) (of_turn b q) = absurd (turned_or_large g f b a)
  one_told j f g (of_size a p) (of_size b q) = one_size f g a b

  pub one_reason : (f g : Fault) → Refuses k r f → Refuses k r g → f ≡ g
  one_reason f g a b = one_fault r.bytes OBJECT_LEVELS (Told k r) one_told f g (faulty f a) (faulty g b)
