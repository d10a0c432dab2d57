-- The laws of `Versions`, of this definition.
use Rattle.std.proofs.Common.{◌≡◌, ◌∙◌, ℕ, zero, suc, ◌<◌, ◌≤◌, max, List, [], ◌∷◌, Option, Some, None, Bool, true, false, inl, inr, lit<, subst, ap, ap₂, sym, refl, arith}
use Rattle.std.specs.Prelude.{◌⊎◌, ℤ, slice_get, IsSome, IfSome, nat_lt, nat_le, ◌==◌, if◌then◌else◌, length, codes}
use Rattle.std.proofs.lemmas.Bool.Decides.{nat_tests}
use Rattle.serde_json.specs.Data as serde
use Rattle.kj_value.specs.Json.{Json, text, object, members_of}
use Rattle.kj_value.specs.Text.{text_of}
use Rattle.kj_value.specs.Reading.{Reads, IsReading, json_of}
use Rattle.kj_value.specs.Fields.{Pairs, with_field}
use Rattle.kube_meta.specs.View.{ObjectView}
use Rattle.kube_meta.specs.Document.{document, metadata}
use Rattle.kube_meta.specs.Names.{is_name, is_namespace}
use Rattle.object_reading.specs.Keeping.{KeepsRules, is_empty_or}
use Rattle.api_calls.specs.Cause.{CauseView, not_json, too_deep, not_whole, not_object, wrong_version, wrong_kind, wrong_namespace, wrong_name, bad_query, bad_token, bad_options}
use Rattle.api_calls.specs.Meaning.{Request, Fault, bad_request, invalid, Weighs, stamped, unnumbered, widest, chunks, measure}
use Rattle.api_calls.specs.Readings.{IsFaulty, one_fault}
use Rattle.api_calls.specs.Readings as reading
use Rattle.api_calls.specs.Versions.{AreFlags, AreStamps, IsBody, StandsAt, Stand, IgnoresStamps, IsOneToOne, IsRequest, KeepsFinalizers, KeepsKey, NamesDiffer, IsAdmitted, AdmitsWhole, DecidesAdmission, DecidesEach, RefusesOnce, RefusesUnread, DecidesBodies}
use Rattle.api_calls.specs.declared.flags.Flags.{Flags}
use Rattle.api_calls.specs.declared.versions.TheConstants.{OBJECT_LEVELS}
use Rattle.versions_fixture.specs.Parts.{PartsView, body_at, meta_at, object_at, bare, version_at, version_name}
use Rattle.versions_fixture.specs.DocumentLaws.{depth-document, sound-document, document_name, document_value}
use Rattle.versions_fixture.specs.Definition.{IsFixtureHub, Submits, placed, Admits, IsOther, Breaks, no_name, no_number, too_heavy, IsInvalid, FixtureRefuses, storing, setting, Sets, keeping, FixtureKeeps, IsNone, two_names, weight_of}
use Rattle.versions_fixture.specs.declared.admission.TheConstants.{MOST_CHUNKS}
use Rattle.versions_fixture.specs.declared.parts.Version.{Version}
use Rattle.versions_fixture.specs.declared.parts.Version.TheVariants.{V1, V1beta1}

-- ---- flags

beyond : (w v : ℕ) → 2 ≤ v → v < 8 → slice_get (storing w).served v ≡ Some false
beyond w zero h l = absurd (omega arith)
beyond w (suc zero) h l = absurd (omega arith)
beyond w (suc (suc zero)) h l = refl
beyond w (suc (suc (suc zero))) h l = refl
beyond w (suc (suc (suc (suc zero)))) h l = refl
beyond w (suc (suc (suc (suc (suc zero))))) h l = refl
beyond w (suc (suc (suc (suc (suc (suc zero)))))) h l = refl
beyond w (suc (suc (suc (suc (suc (suc (suc zero))))))) h l = refl
beyond w (suc (suc (suc (suc (suc (suc (suc (suc v)))))))) h l = absurd (omega arith)

pub legal_storing : (v : ℕ) → v < 2 → AreFlags 2 (storing v)
legal_storing v h = record { served = (0, lit< tt, refl); none_beyond = beyond v; storage = h }

pub legal_opening : AreFlags 2 (storing 1)
legal_opening = legal_storing 1 (lit< tt)

-- ---- objects by their parts

body_one : (v : Version) (a b : Option (List ℕ)) → body_at v a ≡ body_at v b → a ≡ b
body_one v None None e = refl
body_one v None (Some y) e = cc
body_one v (Some x) None e = cc
body_one v (Some x) (Some y) e = ap Some (text_is x y (value_is _ _ _ _ e))
  where
    value_is : (p q : List ℕ × Json) (es fs : Pairs) → p ∷ es ≡ q ∷ fs → p.1 ≡ q.1
    value_is p q es fs e = let same : p ≡ q = cc in ap (λ (m : List ℕ × Json). m.1) same

    text_is : (x y : List ℕ) → text x ≡ text y → x ≡ y
    text_is x y e = cc

pub object_one : (v : Version) (p q : PartsView) → object_at v p ≡ object_at v q → p ≡ q
object_one v p q e =
    let value = body_one v p.value q.value (ap (λ (x : ObjectView). x.body) e) in
    λ i. record {
      name = (e i).meta.name;
      namespace = (e i).meta.namespace;
      created = (e i).meta.created;
      deleted = (e i).meta.deleted;
      generation = (e i).meta.generation;
      value = value i;
    }

is_body : (v : Version) (value : Option (List ℕ)) → IsBody (body_at v value)
is_body v None = record { api_version = refl; kind = refl; metadata = refl }
is_body V1 (Some x) = record { api_version = refl; kind = refl; metadata = refl }
is_body V1beta1 (Some x) = record { api_version = refl; kind = refl; metadata = refl }

in_namespace : (s : List ℕ) → is_namespace s ≡ true → is_empty_or is_namespace s ≡ true
in_namespace [] h = refl
in_namespace (b ∷ bs) h = h

rules : (p : PartsView) → is_name p.name ≡ true → is_namespace p.namespace ≡ true → KeepsRules (meta_at p)
rules p named in_place = record {
  name = named;
  namespace = in_namespace p.namespace in_place;
  labels = refl;
  annotations = refl;
  few = refl;
  finalizers = refl;
  resource_version = refl;
}

pub stands : (v : ℕ) (p : PartsView) → is_name p.name ≡ true → is_namespace p.namespace ≡ true → AreStamps p.created p.deleted p.generation
    → StandsAt two_names v (object_at (version_at v) p)
stands v p named in_place stamps = record {
  api_version = refl;
  kind = refl;
  rules = rules p named in_place;
  no_number = refl;
  no_uid = refl;
  stamps = stamps;
  body = is_body (version_at v) p.value;
  sound = sound-document (version_at v) p stamps.generation;
  levels = depth-document (version_at v) p;
}

-- a hub value's parts
pub parts_legal : (h : ObjectView) (q : PartsView) → (w : IsFixtureHub h) → h ≡ object_at V1 q
    → (is_name q.name ≡ true) × (is_namespace q.namespace ≡ true) × AreStamps q.created q.deleted q.generation
parts_legal h q w e =
    subst (λ (p : PartsView). (is_name p.name ≡ true) × (is_namespace p.namespace ≡ true) × AreStamps p.created p.deleted p.generation)
    (object_one V1 w.parts q (sym w.is ∙ e)) (w.named, w.placed, w.stamps)

pub stand : Stand two_names
stand = record {
  hub = lit< tt;
  whole = λ h w. subst (λ (x : ObjectView). StandsAt two_names 0 x) (sym w.is) (stands 0 w.parts w.named w.placed w.stamps);
  pair = λ v h x known w one.
      let legal = parts_legal h one.parts w one.hub in
      subst (λ (y : ObjectView). StandsAt two_names v y) (sym one.form) (stands v one.parts legal.0 legal.1 legal.2);
}

pub same_key : KeepsKey two_names
same_key = record {
  name = λ v h x known w one. ap (λ (y : ObjectView). y.meta.name) one.form ∙ sym (ap (λ (y : ObjectView). y.meta.name) one.hub);
  namespace = λ v h x known w one. ap (λ (y : ObjectView). y.meta.namespace) one.form ∙ sym (ap (λ (y : ObjectView). y.meta.namespace) one.hub);
}

pub finalizers : KeepsFinalizers two_names
finalizers = record {
  same = λ v h x known w one. ap (λ (y : ObjectView). y.meta.finalizers) one.form ∙ sym (ap (λ (y : ObjectView). y.meta.finalizers) one.hub);
}

differ : (v w : ℕ) → v < 2 → w < 2 → version_name (version_at v) ≡ version_name (version_at w) → v ≡ w
differ zero zero p q e = refl
differ zero (suc zero) p q e = let other : 2 ≡ 7 = ap length e in absurd (omega (arith, other))
differ zero (suc (suc w)) p q e = absurd (omega arith)
differ (suc zero) zero p q e = let other : 7 ≡ 2 = ap length e in absurd (omega (arith, other))
differ (suc zero) (suc zero) p q e = refl
differ (suc zero) (suc (suc w)) p q e = absurd (omega arith)
differ (suc (suc v)) w p q e = absurd (omega arith)

pub names_differ : NamesDiffer two_names
names_differ = record { differ = differ }

abbrev pub parts_stamped : PartsView → Option (List ℕ) → Option (List ℕ) → ℤ → PartsView
parts_stamped p created deleted generation = record p { created = created; deleted = deleted; generation = generation }

pub unstamped : IgnoresStamps two_names
unstamped = record {
  whole = λ h created deleted generation stamps w. record {
    parts = parts_stamped w.parts created deleted generation;
    is = ap (λ (x : ObjectView). stamped x created deleted generation) w.is;
    named = w.named;
    placed = w.placed;
    stamps = stamps;
  };
  pair = λ v h x created deleted generation one. record {
    parts = parts_stamped one.parts created deleted generation;
    hub = ap (λ (y : ObjectView). stamped y created deleted generation) one.hub;
    form = ap (λ (y : ObjectView). stamped y created deleted generation) one.form;
  };
}

pub one_to_one : IsOneToOne two_names
one_to_one = record {
  total = λ v h known w. (object_at (version_at v) w.parts, record { parts = w.parts; hub = w.is; form = refl });
  function = λ v h x y known w a b.
      a.form ∙ ap (object_at (version_at v)) (object_one V1 a.parts b.parts (sym a.hub ∙ b.hub)) ∙ sym b.form;
  injective = λ v g h x known wg wh a b.
      a.hub ∙ ap (object_at V1) (object_one (version_at v) a.parts b.parts (sym a.form ∙ b.form)) ∙ sym b.hub;
}

-- ---- weights

least : (a b : ℕ) → (max a b ≡ a) ⊎ (max a b ≡ b)
least a b = by_test (nat_le b a) refl
  where
    by_test : (t : Bool) → nat_le b a ≡ t → (max a b ≡ a) ⊎ (max a b ≡ b)
    by_test true h = inl (grind (arith, nat_tests))
    by_test false h = inr (grind (arith, nat_tests))

at_most : (v : ℕ) (p : PartsView) → chunks (measure (object_at (version_at v) p)) ≤ weight_of p
at_most v p = by_test (v == 0)
  where
    by_test : (b : Bool) → chunks (measure (object_at (if b then V1 else V1beta1) p)) ≤ weight_of p
    by_test true = omega arith
    by_test false = omega arith

pub weighs : (p : PartsView) → Weighs two_names (object_at V1 p) (weight_of p)
weighs p = record {
  within = λ v x known one.
      let same : p ≡ one.parts = object_one V1 p one.parts one.hub in
      let form : object_at (version_at v) p ≡ x = ap (object_at (version_at v)) same ∙ sym one.form in
      subst (λ (y : ObjectView). chunks (measure y) ≤ weight_of p) form (at_most v p);
  met = elim (least (chunks (measure (object_at V1 p))) (chunks (measure (object_at V1beta1 p)))) [
    | inl e ↦ (0, object_at V1 p, lit< tt, record { parts = p; hub = refl; form = refl }, sym e)
    | inr e ↦ (1, object_at V1beta1 p, lit< tt, record { parts = p; hub = refl; form = refl }, sym e)
  ];
}

text_some : (x : ObjectView) → 1 ≤ length (text_of (document x))
unfolding document
text_some x = omega arith

chunks_some : (n : ℕ) → 1 ≤ n → 1 ≤ chunks n
chunks_some n h = omega arith

pub weighs_some : (h : ObjectView) (w : ℕ) → Weighs two_names h w → 0 < w
weighs_some h w weighs =
    let some = chunks_some (measure weighs.met.1) (text_some (unnumbered (widest weighs.met.1))) in
    omega (arith, some, weighs.met.4)

-- ---- admission

pub one_data : (bytes : List ℕ) (d e : serde.Data) → IsReading bytes d → IsReading bytes e → d ≡ e
one_data bytes d e a b = let same : Some d ≡ Some e = sym a.1 ∙ b.1 in cc

pub one_json : (bytes : List ℕ) (i j : Json) → Reads bytes OBJECT_LEVELS i → Reads bytes OBJECT_LEVELS j → i ≡ j
one_json bytes i j a b =
    let same : Some i ≡ Some j = sym a.3 ∙ ap json_of (one_data bytes a.0 b.0 a.1 b.1) ∙ b.3 in cc

-- a body submits one name and one value
one_name : (r : Request) (n m : List ℕ) (a b : Option (List ℕ)) → Submits r n a → Submits r m b → n ≡ m
one_name r n m a b p q =
    document_name (version_at r.version) (bare n a) (bare m b) (one_json r.bytes _ _ p q)

one_value : (r : Request) (n m : List ℕ) (a b : Option (List ℕ)) → Submits r n a → Submits r m b → a ≡ b
one_value r n m a b p q =
    document_value (version_at r.version) (bare n a) (bare m b) (one_json r.bytes _ _ p q)

admitted : (r : Request) (h : ObjectView) (e : Option ℕ) → Admits r h e → IsAdmitted two_names r h e
admitted r h e a = record {
  namespace = ap (λ (x : ObjectView). x.meta.namespace) a.is;
  name = subst (λ (o : Option (List ℕ)). IfSome o (λ n. h.meta.name ≡ n)) (sym a.creates) tt;
  expected = rw (a.no_number, a.creates) ((λ p. p), (λ p. p));
  whole = record {
    parts = placed r.ns a.name a.value;
    is = a.is;
    named = a.named;
    placed = a.in_namespace;
    stamps = record { created = tt; deleted = tt; generation = omega arith };
  };
  created = ap (λ (x : ObjectView). x.meta.created) a.is;
  deleted = ap (λ (x : ObjectView). x.meta.deleted) a.is;
  generation = ap (λ (x : ObjectView). x.meta.generation) a.is;
}

one : (r : Request) (g h : ObjectView) (d e : Option ℕ) → Admits r g d → Admits r h e → (g ≡ h) × (d ≡ e)
one r g h d e a b =
    let name = one_name r a.name b.name a.value b.value a.submits b.submits in
    let value = one_value r a.name b.name a.value b.value a.submits b.submits in
    let same : placed r.ns a.name a.value ≡ placed r.ns b.name b.value = λ i. placed r.ns (name i) (value i) in
    (a.is ∙ ap (object_at V1) same ∙ sym b.is, a.no_number ∙ sym b.no_number)

true_false : (b : Bool) → b ≡ true → b ≡ false → ⊥
true_false b p q = let e : true ≡ false = sym p ∙ q in cc

none_some : (o : Option (List ℕ)) → o ≡ None → IsSome o → ⊥
none_some o p s = let e : false ≡ true = rw p at s in cc

excludes_invalid : (r : Request) (h : ObjectView) (e : Option ℕ) (name : List ℕ) (cause : CauseView) → Admits r h e → IsInvalid r name cause → ⊥
excludes_invalid r h e name cause a i =
    let names = one_name r a.name name a.value i.value a.submits i.submits in
    let values = one_value r a.name name a.value i.value a.submits i.submits in
    elim i.breaks [
      | no_name p c ↦ true_false (is_name name) (ap is_name (sym names) ∙ a.named) p
      | no_number p s c ↦ none_some r.name a.creates s
      | too_heavy p n w c ↦
          let light : weight_of (placed r.ns name i.value) ≤ MOST_CHUNKS =
          subst (λ (x : PartsView). weight_of x ≤ MOST_CHUNKS) (λ j. placed r.ns (names j) (values j)) a.light in
          omega (arith, light, w)
    ]

pub some_none : (d : serde.Data) (j : Json) → json_of d ≡ Some j → json_of d ≡ None → ⊥
some_none d j p q = let e : Some j ≡ None = sym p ∙ q in cc

excludes : (r : Request) (h : ObjectView) (e : Option ℕ) (f : Fault) → Admits r h e → FixtureRefuses r f → ⊥
excludes r h e (bad_request not_json) a n = n a.submits.0 a.submits.1
excludes r h e (bad_request too_deep) a n =
    let same : n.0 ≡ a.submits.0 = one_data r.bytes n.0 a.submits.0 n.1 a.submits.1 in
    let deep : OBJECT_LEVELS < serde.depth a.submits.0 = subst (λ (d : serde.Data). OBJECT_LEVELS < serde.depth d) same n.2 in
    omega (arith, deep, a.submits.2)
excludes r h e (bad_request not_whole) a n =
    let same : n.0 ≡ a.submits.0 = one_data r.bytes n.0 a.submits.0 n.1 a.submits.1 in
    some_none a.submits.0 _ a.submits.3 (ap json_of (sym same) ∙ n.3)
excludes r h e (bad_request not_object) a n =
    n.other a.name a.value (one_json r.bytes n.value _ n.reads a.submits)
excludes r h e (bad_request wrong_version) a n = n
excludes r h e (bad_request wrong_kind) a n = n
excludes r h e (bad_request wrong_namespace) a n = n
excludes r h e (bad_request wrong_name) a n = n
excludes r h e (bad_request (bad_query parameter)) a n = n
excludes r h e (bad_request bad_token) a n = n
excludes r h e (bad_request bad_options) a n = n
excludes r h e (invalid name cause) a n = excludes_invalid r h e name cause a n

-- a document of the form is admitted, or breaks a rule
submitted_decided : (r : Request) (name : List ℕ) (value : Option (List ℕ)) → IsRequest two_names r → Submits r name value
    → ((h : ObjectView) (e : Option ℕ) → Admits r h e → ⊥) → ((f : Fault) → FixtureRefuses r f → ⊥) → ⊥
submitted_decided r name value is submits never_admitted never_refused =
    by_tests (is_name name) r.name (nat_lt MOST_CHUNKS (weight_of (placed r.ns name value))) refl refl refl
  where
    by_tests : (n : Bool) (o : Option (List ℕ)) (w : Bool) → is_name name ≡ n → r.name ≡ o
        → nat_lt MOST_CHUNKS (weight_of (placed r.ns name value)) ≡ w → ⊥
    by_tests false o w p q s = never_refused (invalid name _) (record { value = value; submits = submits; breaks = no_name p refl })
    by_tests true (Some n) w p q s =
        never_refused (invalid name _) (record { value = value; submits = submits; breaks = no_number p (rw q refl) refl })
    by_tests true None true p q s =
        let heavy : MOST_CHUNKS < weight_of (placed r.ns name value) = grind (arith, nat_tests) in
        never_refused (invalid name _) (record { value = value; submits = submits; breaks = too_heavy p q heavy refl })
    by_tests true None false p q s =
        let light : weight_of (placed r.ns name value) ≤ MOST_CHUNKS = grind (arith, nat_tests) in
        never_admitted (object_at V1 (placed r.ns name value)) None (record {
          name = name;
          value = value;
          submits = submits;
          named = p;
          in_namespace = is.ns;
          creates = q;
          light = light;
          is = refl;
          no_number = refl;
        })

-- a body that reads as a value
value_decided : (r : Request) (j : Json) → IsRequest two_names r → Reads r.bytes OBJECT_LEVELS j
    → ((h : ObjectView) (e : Option ℕ) → Admits r h e → ⊥) → ((f : Fault) → FixtureRefuses r f → ⊥) → ⊥
value_decided r j is reads never_admitted never_refused =
    never_refused (bad_request not_object) (record {
      value = j;
      reads = reads;
      other = λ name value same.
          submitted_decided r name value is (subst (λ (k : Json). Reads r.bytes OBJECT_LEVELS k) same reads) never_admitted never_refused;
    })

data_decided : (r : Request) (d : serde.Data) → IsRequest two_names r → IsReading r.bytes d
    → ((h : ObjectView) (e : Option ℕ) → Admits r h e → ⊥) → ((f : Fault) → FixtureRefuses r f → ⊥) → ⊥
data_decided r d is reading never_admitted never_refused =
    by_tests (nat_le (serde.depth d) OBJECT_LEVELS) (json_of d) refl refl
  where
    by_tests : (b : Bool) (o : Option Json) → nat_le (serde.depth d) OBJECT_LEVELS ≡ b → json_of d ≡ o → ⊥
    by_tests false o p q =
        let deep : OBJECT_LEVELS < serde.depth d = grind (arith, nat_tests) in
        never_refused (bad_request too_deep) (d, reading, deep)
    by_tests true None p q =
        let within : serde.depth d ≤ OBJECT_LEVELS = grind (arith, nat_tests) in
        never_refused (bad_request not_whole) (d, reading, within, q)
    by_tests true (Some j) p q =
        let within : serde.depth d ≤ OBJECT_LEVELS = grind (arith, nat_tests) in
        value_decided r j is (d, reading, within, q) never_admitted never_refused

complete : (r : Request) → IsRequest two_names r
    → ((h : ObjectView) (e : Option ℕ) → Admits r h e → ⊥) → ((f : Fault) → FixtureRefuses r f → ⊥) → ⊥
complete r is never_admitted never_refused =
    never_refused (bad_request not_json) (λ d reading. data_decided r d is reading never_admitted never_refused)

pub decides : DecidesAdmission two_names
decides = record { one = one; excludes = excludes }

pub decides_each : DecidesEach two_names
decides_each = record { complete = complete }

pub admits_whole : AdmitsWhole two_names
admits_whole = record { admitted = admitted }

-- ---- one reason

-- what is refused of a body that is read as a value
data Told (r : Request) (j : Json) (f : Fault) : Type 0 where
  is_other : (o : IsOther r) → o.value ≡ j → f ≡ bad_request not_object → Told r j f
  is_invalid : (name : List ℕ) (cause : CauseView) (i : IsInvalid r name cause)
      → document (object_at (version_at r.version) (bare name i.value)) ≡ j → f ≡ invalid name cause → Told r j f

faulty : (r : Request) (f : Fault) → FixtureRefuses r f → IsFaulty r.bytes OBJECT_LEVELS (Told r) f
faulty r (bad_request not_json) n = record { finding = reading.not_json; finds = n; follows = refl }
faulty r (bad_request too_deep) n = record { finding = reading.too_deep; finds = n; follows = refl }
faulty r (bad_request not_whole) n = record { finding = reading.not_whole; finds = n; follows = refl }
faulty r (bad_request not_object) n = record { finding = reading.value n.value; finds = n.reads; follows = is_other n refl refl }
faulty r (bad_request wrong_version) n = absurd n
faulty r (bad_request wrong_kind) n = absurd n
faulty r (bad_request wrong_namespace) n = absurd n
faulty r (bad_request wrong_name) n = absurd n
faulty r (bad_request (bad_query parameter)) n = absurd n
faulty r (bad_request bad_token) n = absurd n
faulty r (bad_request bad_options) n = absurd n
faulty r (invalid name cause) n = record {
  finding = reading.value (document (object_at (version_at r.version) (bare name n.value)));
  finds = n.submits;
  follows = is_invalid name cause n refl refl;
}

-- of the rules that a document of the form breaks one is the first
one_cause : (r : Request) (name : List ℕ) (value : Option (List ℕ)) (c d : CauseView) → Breaks r name value c → Breaks r name value d → c ≡ d
one_cause r name value c d (no_name p e) (no_name q g) = e ∙ sym g
one_cause r name value c d (no_name p e) (no_number q s g) = absurd (true_false (is_name name) q p)
one_cause r name value c d (no_name p e) (too_heavy q n w g) = absurd (true_false (is_name name) q p)
one_cause r name value c d (no_number p s e) (no_name q g) = absurd (true_false (is_name name) p q)
one_cause r name value c d (no_number p s e) (no_number q t g) = e ∙ sym g
one_cause r name value c d (no_number p s e) (too_heavy q n w g) = absurd (none_some r.name n s)
one_cause r name value c d (too_heavy p n w e) (no_name q g) = absurd (true_false (is_name name) p q)
one_cause r name value c d (too_heavy p n w e) (no_number q s g) = absurd (none_some r.name n s)
one_cause r name value c d (too_heavy p n w e) (too_heavy q m x g) = e ∙ sym g

one_told : (r : Request) (j : Json) (f g : Fault) → Told r j f → Told r j g → f ≡ g
one_told r j f g (is_other o p e) (is_other q s h) = e ∙ sym h
one_told r j f g (is_other o p e) (is_invalid n c i s h) = absurd (o.other n i.value (p ∙ sym s))
one_told r j f g (is_invalid n c i s h) (is_other o p e) = absurd (o.other n i.value (p ∙ sym s))
one_told r j f g (is_invalid n c i p e) (is_invalid m d k q h) =
    let names : n ≡ m = document_name (version_at r.version) (bare n i.value) (bare m k.value) (p ∙ sym q) in
    let values : i.value ≡ k.value = document_value (version_at r.version) (bare n i.value) (bare m k.value) (p ∙ sym q) in
    let there : Breaks r m k.value c = subst (λ (x : List ℕ × Option (List ℕ)). Breaks r x.0 x.1 c) (λ l. (names l, values l)) i.breaks in
    e ∙ ap₂ invalid names (one_cause r m k.value c d there k.breaks) ∙ sym h

pub refuses_once : RefusesOnce two_names
refuses_once = record { one_fault = λ r f g p q. one_fault r.bytes OBJECT_LEVELS (Told r) (one_told r) f g (faulty r f p) (faulty r g q) }

document_object : (x : ObjectView) → (fields : Pairs) × (document x ≡ object (members_of fields))
unfolding document
document_object x = (
  with_field (codes "metadata") (object (members_of (metadata x.meta)))
      (with_field (codes "kind") (text x.kind) (with_field (codes "apiVersion") (text x.api_version) x.body)),
  refl,
)

pub unread : RefusesUnread two_names
unread = record {
  not_json = λ r h. h;
  too_deep = λ r h. h;
  not_whole = λ r h. h;
  not_object = λ r j reads other. record {
    value = j;
    reads = reads;
    other = λ name given same.
        let fields = document_object (object_at (version_at r.version) (bare name given)) in
        other fields.0 (same ∙ fields.1);
  };
}

-- ---- flags and stored versions

-- of two bodies, one for each version, that differ
module _ (body : Version → List ℕ) (differs : body V1 ≡ body V1beta1 → ⊥) where
  one_version : (v w : ℕ) → v < 2 → w < 2 → body (version_at v) ≡ body (version_at w) → v ≡ w
  one_version zero zero p q e = refl
  one_version zero (suc zero) p q e = absurd (differs e)
  one_version zero (suc (suc w)) p q e = absurd (omega arith)
  one_version (suc zero) zero p q e = absurd (differs (sym e))
  one_version (suc zero) (suc zero) p q e = refl
  one_version (suc zero) (suc (suc w)) p q e = absurd (omega arith)
  one_version (suc (suc v)) w p q e = absurd (omega arith)

settings_differ : setting V1 ≡ setting V1beta1 → ⊥
unfolding setting
settings_differ e = let other : 25 ≡ 30 = ap length e in omega (arith, other)

keepings_differ : keeping V1 ≡ keeping V1beta1 → ⊥
unfolding keeping
keepings_differ e = let other : 36 ≡ 41 = ap length e in omega (arith, other)

sets_any : (bytes : List ℕ) → ((f : Flags) → Sets bytes f → ⊥) → (v : Version) → bytes ≡ setting v → ⊥
sets_any bytes never V1 e = never (storing 0) (record { version = 0; known = lit< tt; body = e; flags = refl })
sets_any bytes never V1beta1 e = never (storing 1) (record { version = 1; known = lit< tt; body = e; flags = refl })

pub decides_flags : DecidesBodies Flags Sets (λ bytes f. IsNone setting bytes f)
decides_flags = record {
  one = λ bytes a b p q. p.flags ∙ ap storing (one_version setting settings_differ p.version q.version p.known q.known (sym p.body ∙ q.body)) ∙ sym q.flags;
  one_fault = λ bytes f g p q. p.fault ∙ sym q.fault;
  excludes = λ bytes a f p q. q.other (version_at p.version) p.body;
  complete = λ bytes never_sets never_refused. never_refused (bad_request not_object) (record { fault = refl; other = sets_any bytes never_sets });
}

keeps_any : (bytes : List ℕ) → ((vs : List ℕ) → FixtureKeeps bytes vs → ⊥) → (v : Version) → bytes ≡ keeping v → ⊥
keeps_any bytes never V1 e = never (0 ∷ []) (record { version = 0; known = lit< tt; body = e; versions = refl })
keeps_any bytes never V1beta1 e = never (1 ∷ []) (record { version = 1; known = lit< tt; body = e; versions = refl })

pub decides_keep : DecidesBodies (List ℕ) FixtureKeeps (λ bytes f. IsNone keeping bytes f)
decides_keep = record {
  one = λ bytes a b p q. p.versions ∙ ap (λ (v : ℕ). v ∷ []) (one_version keeping keepings_differ p.version q.version p.known q.known (sym p.body ∙ q.body)) ∙ sym q.versions;
  one_fault = λ bytes f g p q. p.fault ∙ sym q.fault;
  excludes = λ bytes a f p q. q.other (version_at p.version) p.body;
  complete = λ bytes never_keeps never_refused. never_refused (bad_request not_object) (record { fault = refl; other = keeps_any bytes never_keeps });
}
