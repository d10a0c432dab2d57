-- A request is refused for one reason.
use Rattle.std.proofs.Common.{◌≡◌, ◌∙◌, ◌++◌, ℕ, Option, Some, None, Ordering, Less, Equal, Greater, nat_cmp, subst, ap, ap₂, sym, refl}
use Rattle.std.specs.Ordering.{is_eq, ordering_reverse}
use Rattle.std.specs.Cmp.Lexicographic.{slice_cmp}
use Rattle.std.proofs.lemmas.Cmp.{nat_list_cmp_total}
use Rattle.std.proofs.lemmas.Slice.Eq.{bytes_eq-Decides}
use Rattle.std.proofs.lemmas.Map.Text.{is_eq-slice_cmp}
use Rattle.kj_value.specs.Json.{Json}
use Rattle.kj_value.specs.declared.rule.Rule.TheVariants as rule
use Rattle.kube_meta.specs.View.{Texts, ObjectView}
use Rattle.api_calls.specs.Cause.{not_json, too_deep, not_whole, not_object, wrong_version, wrong_kind, wrong_namespace, wrong_name, bad_query, bad_token, bad_options}
use Rattle.api_calls.specs.Meaning.{Request, Fault, bad_request, invalid}
use Rattle.api_calls.specs.Readings.{IsFaulty, one_fault}
use Rattle.api_calls.specs.Readings as reading
use Rattle.api_calls.specs.declared.versions.TheConstants.{OBJECT_LEVELS}
use Rattle.hub_cells.specs.Level.{Name}
use Rattle.keep_laws.specs.Spokes.{Spokes}
use Rattle.keep_laws.specs.Over.{IsFirstBad}
use Rattle.crd_meaning.specs.Definition.{Definition, IsLoaded}
use Rattle.crd_meaning.specs.Request.{breaks, early}
use Rattle.crd_meaning.specs.Admission.{schema_of, IsFilling, Passes, IsUnread}
use Rattle.crd_meaning.specs.Refusal.{IsNoValue, IsBroken, annotation_prefix, IsBadlyKept, object_path, IsTooLarge, RefusesRequest, no_value, is_early, is_broken, badly_kept, too_large}
use Rattle.crd_meaning.specs.Meant.{no_settings}
use Rattle.crd_meaning.specs.Given.{Given}
use Rattle.crd_meaning.proofs.Filled.{taken_filled, version_sound}
use Rattle.crd_meaning.proofs.Verdicts.{some_none, taken_one, passes_one, none_broken}

-- ---- the first annotation that can't be read is one

equal_names : (k l : Name) → slice_cmp nat_cmp k l ≡ Equal → k ≡ l
equal_names k l h = (bytes_eq-Decides k l).0 (sym (is_eq-slice_cmp k l) ∙ ap is_eq h)

one_first : (all : Spokes) (own : Option Name) (ns : Texts) (k l : Name) → IsFirstBad all own ns k → IsFirstBad all own ns l → k ≡ l
one_first all own ns k l a b = by_order (slice_cmp nat_cmp k l) refl
  where
    by_order : (o : Ordering) → slice_cmp nat_cmp k l ≡ o → k ≡ l
    by_order Less h = let kept = b.first k a.text h a.read a.there in absurd (a.bad kept.0 kept.1)
    by_order Equal h = equal_names k l h
    by_order Greater h =
        let before : slice_cmp nat_cmp l k ≡ Less = nat_list_cmp_total.antisymm l k ∙ ap ordering_reverse h in
        let kept = a.first l b.text before b.read b.there in absurd (b.bad kept.0 kept.1)

-- what is refused of a body that is read as a value
data Told (d : Definition) (r : Request) (j : Json) (f : Fault) : Type 0 where
  at_first : early d r j ≡ Some f → Told d r j f
  of_rule : (b : IsBroken d r f) → b.taken.value ≡ j → Told d r j f
  of_note : (b : IsBadlyKept d r f) → b.passes.is.value ≡ j → Told d r j f
  of_size : (b : IsTooLarge d r f) → b.passes.is.value ≡ j → Told d r j f

module _ (known : Given) (d : Definition) (loaded : IsLoaded d) (r : Request) where
  no_value_faulty : (f : Fault) → IsNoValue r f → IsFaulty r.bytes OBJECT_LEVELS (Told d r) f
  no_value_faulty (bad_request not_json) n = record { finding = reading.not_json; finds = n; follows = refl }
  no_value_faulty (bad_request too_deep) n = record { finding = reading.too_deep; finds = n; follows = refl }
  no_value_faulty (bad_request not_whole) n = record { finding = reading.not_whole; finds = n; follows = refl }
  no_value_faulty (bad_request not_object) n = absurd n
  no_value_faulty (bad_request wrong_version) n = absurd n
  no_value_faulty (bad_request wrong_kind) n = absurd n
  no_value_faulty (bad_request wrong_namespace) n = absurd n
  no_value_faulty (bad_request wrong_name) n = absurd n
  no_value_faulty (bad_request (bad_query parameter)) n = absurd n
  no_value_faulty (bad_request bad_token) n = absurd n
  no_value_faulty (bad_request bad_options) n = absurd n
  no_value_faulty (invalid name cause) n = absurd n

  faulty : (f : Fault) → RefusesRequest d r f → IsFaulty r.bytes OBJECT_LEVELS (Told d r) f
  faulty f (no_value n) = no_value_faulty f n
  faulty f (is_early e) = record { finding = reading.value e.value; finds = e.reads; follows = at_first e.told }
  faulty f (is_broken b) = record { finding = reading.value b.taken.value; finds = b.taken.reads; follows = of_rule b refl }
  faulty f (badly_kept b) = record { finding = reading.value b.passes.is.value; finds = b.passes.is.reads; follows = of_note b refl }
  faulty f (too_large b) = record { finding = reading.value b.passes.is.value; finds = b.passes.is.reads; follows = of_size b refl }

  one_cause : (f g : Fault) → IsBroken d r f → IsBroken d r g → f ≡ g
  one_cause f g a b =
      let same = (taken_one d r a.object b.object a.number b.number a.taken b.taken).0 in
      let k = taken_filled known d (version_sound d loaded) r b.object b.number b.taken in
      let here : IsFilling (schema_of d r) a.object.body k.0 = subst (λ (x : ObjectView). IsFilling (schema_of d r) x.body k.0) (sym same) k.1 in
      let causes : Some a.cause ≡ Some b.cause = sym (a.broken k.0 here) ∙ b.broken k.0 k.1 in
      let cause : a.cause ≡ b.cause = cc in
      a.told ∙ ap₂ invalid (ap (λ (x : ObjectView). x.meta.name) same) cause ∙ sym b.told

  passed_whole : (x : ObjectView) (e : Option ℕ) (f : Fault) → Passes d r x e → IsBroken d r f → ⊥
  passed_whole x e f p b =
      let same = (taken_one d r p.taken b.object e b.number p.is b.taken).0 in
      let here : IsFilling (schema_of d r) b.object.body x.body = subst (λ (y : ObjectView). IsFilling (schema_of d r) y.body x.body) same p.filling in
      none_broken (schema_of d r) x.body b.cause p.valid (b.broken x.body here)

  object_one : (x y : ObjectView) (e f : Option ℕ) → Passes d r x e → Passes d r y f → x ≡ y
  object_one x y e f a b = (passes_one known d r x y e f a b).0

  one_note : (f g : Fault) → IsBadlyKept d r f → IsBadlyKept d r g → f ≡ g
  one_note f g a b =
      let same = object_one a.object b.object a.number b.number a.passes b.passes in
      let there : IsUnread d r a.object b.key = subst (λ (x : ObjectView). IsUnread d r x b.key) (sym same) b.unread in
      let key : a.key ≡ b.key = one_first _ _ _ a.key b.key a.unread there in
      a.told ∙ ap₂ (λ (x : ObjectView) (k : Name). breaks x.meta.name (annotation_prefix ++ k) rule.Kept) same key ∙ sym b.told

  kept_or_large : (f g : Fault) → IsBadlyKept d r f → IsTooLarge d r g → ⊥
  kept_or_large f g a b =
      let same = object_one a.object b.object a.number b.number a.passes b.passes in
      b.read a.key (subst (λ (x : ObjectView). IsUnread d r x a.key) same a.unread)

  one_size : (f g : Fault) → IsTooLarge d r f → IsTooLarge d r g → f ≡ g
  one_size f g a b =
      let same = object_one a.object b.object a.number b.number a.passes b.passes in
      a.told ∙ ap (λ (x : ObjectView). breaks x.meta.name object_path rule.Size) same ∙ sym b.told

  clash : (v j : Json) (f : Fault) → early d r v ≡ None → v ≡ j → early d r j ≡ Some f → ⊥
  clash v j f none same told = some_none (early d r j) f told (ap (early d r) (sym same) ∙ none)

  one_told : (j : Json) (f g : Fault) → Told d r j f → Told d r j g → f ≡ g
  one_told j f g (at_first p) (at_first q) = let same : Some f ≡ Some g = sym p ∙ q in cc
  one_told j f g (at_first p) (of_rule b q) = absurd (clash b.taken.value j f b.taken.nothing q p)
  one_told j f g (at_first p) (of_note b q) = absurd (clash b.passes.is.value j f b.passes.is.nothing q p)
  one_told j f g (at_first p) (of_size b q) = absurd (clash b.passes.is.value j f b.passes.is.nothing q p)
  one_told j f g (of_rule a p) (at_first q) = absurd (clash a.taken.value j g a.taken.nothing p q)
  one_told j f g (of_rule a p) (of_rule b q) = one_cause f g a b
  one_told j f g (of_rule a p) (of_note b q) = absurd (passed_whole b.object b.number f b.passes a)
  one_told j f g (of_rule a p) (of_size b q) = absurd (passed_whole b.object b.number f b.passes a)
  one_told j f g (of_note a p) (at_first q) = absurd (clash a.passes.is.value j g a.passes.is.nothing p q)
  one_told j f g (of_note a p) (of_rule b q) = absurd (passed_whole a.object a.number g a.passes b)
  one_told j f g (of_note a p) (of_note b q) = one_note f g a b
  one_told j f g (of_note a p) (of_size b q) = absurd (kept_or_large f g a b)
  one_told j f g (of_size a p) (at_first q) = absurd (clash a.passes.is.value j g a.passes.is.nothing p q)
  one_told j f g (of_size a p) (of_rule b q) = absurd (passed_whole a.object a.number g a.passes b)
  one_told j f g (of_size a p) (of_note b q) = absurd (kept_or_large g f b a)
  one_told j f g (of_size a p) (of_size b q) = one_size f g a b

  pub one_reason : (f g : Fault) → RefusesRequest d r f → RefusesRequest d r g → f ≡ g
  one_reason f g a b = one_fault r.bytes OBJECT_LEVELS (Told d r) one_told f g (faulty f a) (faulty g b)
