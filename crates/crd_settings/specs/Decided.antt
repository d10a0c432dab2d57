-- A body sets flags or is refused for one reason, and not both; and so it is with a body that keeps stored versions.
use Rattle.std.proofs.Common.{◌≡◌, ◌≢◌, ◌∙◌, ℕ, List, [], ◌∷◌, Option, Some, None, Bool, true, false, subst, ap, sym, refl}
use Rattle.std.specs.Prelude.{◌⊎◌, map, codes}
use Rattle.std.proofs.Common.{inl, inr}
use Rattle.std.specs.List.{IsDistinct}
use Rattle.std.specs.Str.{bytes_eq}
use Rattle.kj_value.specs.Json.{Json, null, boolean, whole, text, list, object, Items, no_items, item, Members, items_of, members_of}
use Rattle.kj_value.specs.Fields.{Pairs, field}
use Rattle.kj_value.specs.KindLaws.{pairs_members, members_pairs}
use Rattle.kj_value.specs.declared.reading.TheConstants.{MAX_JSON_LEVELS}
use Rattle.kj_value.specs.declared.rule.Rule.TheVariants.{Immutable, Storage, Served, Kind, Required, Unknown}
use Rattle.api_calls.specs.Cause.{CauseView, WhyView, not_json, too_deep, not_whole, not_object, wrong_version, wrong_kind, wrong_namespace, wrong_name, bad_query, bad_token, bad_options}
use Rattle.api_calls.specs.Meaning.{Fault, bad_request, invalid}
use Rattle.api_calls.specs.Versions.{DecidesBodies}
use Rattle.api_calls.specs.Bodies.{IsOfKind, fields_of}
use Rattle.api_calls.specs.Readings.{Finding, Finds, Follows, IsFaulty, one_json, one_fault, some_finding, told_of}
use Rattle.api_calls.specs.Readings as reading
use Rattle.api_calls.specs.declared.flags.Flags.{Flags}
use Rattle.crd_reading.specs.View.{DefinitionView}
use Rattle.crd_reading.specs.Words.{api_version, document_kind}
use Rattle.crd_reading.specs.Spelled.{full_name}
use Rattle.crd_reading.specs.Offered.{storages, some_served}
use Rattle.crd_settings.specs.Body.{ReadsObject, IsNoObject, IsOtherKind, IsDocument}
use Rattle.crd_settings.specs.Flags.{flags_of, versions_given, IsOwnSpec}
use Rattle.crd_settings.specs.Setting.{SetsBySpec, spec_path, versions_path, BreaksSpec, another, not_one_storage, none_served, Sets, RefusesFlags}
use Rattle.crd_settings.specs.Keeping.{stored_given, AreNames, are_versions, places_named, KeepsNamed, stored_path, BreaksStored, other_shape, none, no_version, KeepsVersions, RefusesKeep}

-- ---- fields and names of a value

inside : (ms ns : Members) → object ms ≡ object ns → ms ≡ ns
inside ms ns e = cc

one_fields : (ps qs : Pairs) → object (members_of ps) ≡ object (members_of qs) → ps ≡ qs
one_fields ps qs e = sym (pairs_members ps) ∙ ap fields_of (inside (members_of ps) (members_of qs) e) ∙ pairs_members qs

inside_list : (is js : Items) → Some (list is) ≡ Some (list js) → is ≡ js
inside_list is js e = let same : list is ≡ list js = cc in cc

first_text : (x y : List ℕ) (is js : Items) → item (text x) is ≡ item (text y) js → x ≡ y
first_text x y is js e = let same : text x ≡ text y = cc in cc

rest_items : (i j : Json) (is js : Items) → item i is ≡ item j js → is ≡ js
rest_items i j is js e = cc

one_texts : (xs ys : List (List ℕ)) → items_of (map text xs) ≡ items_of (map text ys) → xs ≡ ys
one_texts [] [] e = refl
one_texts [] (y ∷ ys) e = cc
one_texts (x ∷ xs) [] e = cc
one_texts (x ∷ xs) (y ∷ ys) e =
    ap (λ (z : List ℕ). z ∷ xs) (first_text x y _ _ e) ∙ ap (λ (zs : List (List ℕ)). y ∷ zs) (one_texts xs ys (rest_items _ _ _ _ e))

one_names : (given : Option Json) (xs ys : List (List ℕ)) → AreNames given xs → AreNames given ys → xs ≡ ys
one_names given xs ys a b = one_texts xs ys (inside_list _ _ (sym a.texts ∙ b.texts))

true_false : (b : Bool) → b ≡ true → b ≡ false → ⊥
true_false b p q = let e : true ≡ false = sym p ∙ q in cc

-- ---- a body that is no object

no_object_faulty : (body : List ℕ) (P : Json → Fault → Type 0)
    → ((j : Json) → ((fields : Pairs) → j ≢ object (members_of fields)) → P j (bad_request not_object))
    → (w : WhyView) → IsNoObject body w → IsFaulty body MAX_JSON_LEVELS P (bad_request w)
no_object_faulty body P other not_json r = record { finding = reading.not_json; finds = r; follows = refl }
no_object_faulty body P other too_deep r = record { finding = reading.too_deep; finds = r; follows = refl }
no_object_faulty body P other not_whole r = record { finding = reading.not_whole; finds = r; follows = refl }
no_object_faulty body P other not_object r = record { finding = reading.value r.0; finds = r.1; follows = other r.0 r.2 }
no_object_faulty body P other wrong_version r = absurd r
no_object_faulty body P other wrong_kind r = absurd r
no_object_faulty body P other wrong_namespace r = absurd r
no_object_faulty body P other wrong_name r = absurd r
no_object_faulty body P other (bad_query parameter) r = absurd r
no_object_faulty body P other bad_token r = absurd r
no_object_faulty body P other bad_options r = absurd r

-- a body is decided where it is no object, and where it is an object of some fields
body_decided : (body : List ℕ) → ((w : WhyView) → IsNoObject body w → ⊥) → ((fields : Pairs) → ReadsObject body fields → ⊥) → ⊥
body_decided body never object_never = some_finding body MAX_JSON_LEVELS by_finding
  where
    by_value : (j : Json) → Finds body MAX_JSON_LEVELS (reading.value j) → ⊥
    by_value null r = never not_object (null, r, λ fields e. cc)
    by_value (boolean b) r = never not_object (boolean b, r, λ fields e. cc)
    by_value (whole z) r = never not_object (whole z, r, λ fields e. cc)
    by_value (text s) r = never not_object (text s, r, λ fields e. cc)
    by_value (list js) r = never not_object (list js, r, λ fields e. cc)
    by_value (object ms) r =
        object_never (fields_of ms) (subst (λ (ns : Members). Finds body MAX_JSON_LEVELS (reading.value (object ns))) (sym (members_pairs ms)) r)

    by_finding : (v : Finding) → Finds body MAX_JSON_LEVELS v → ⊥
    by_finding reading.not_json r = never not_json r
    by_finding reading.too_deep r = never too_deep r
    by_finding reading.not_whole r = never not_whole r
    by_finding (reading.value j) r = by_value j r

-- ---- what is refused of a body that is read as a value

data FlagsFault (d : DefinitionView) (j : Json) (f : Fault) : Type 0 where
  is_other : ((fields : Pairs) → j ≢ object (members_of fields)) → f ≡ bad_request not_object → FlagsFault d j f
  is_version : (fields : Pairs) → j ≡ object (members_of fields) → field (codes "apiVersion") fields ≢ Some (text api_version)
      → f ≡ bad_request wrong_version → FlagsFault d j f
  is_kind : (fields : Pairs) → j ≡ object (members_of fields) → field (codes "apiVersion") fields ≡ Some (text api_version)
      → field (codes "kind") fields ≢ Some (text document_kind) → f ≡ bad_request wrong_kind → FlagsFault d j f
  is_broken : (fields : Pairs) (cause : CauseView) → j ≡ object (members_of fields) → IsOfKind api_version document_kind fields
      → BreaksSpec d (field (codes "spec") fields) cause → f ≡ invalid (full_name d) cause → FlagsFault d j f

data KeepFault (d : DefinitionView) (j : Json) (f : Fault) : Type 0 where
  keeps_other : ((fields : Pairs) → j ≢ object (members_of fields)) → f ≡ bad_request not_object → KeepFault d j f
  keeps_broken : (fields : Pairs) (cause : CauseView) → j ≡ object (members_of fields) → BreaksStored d (stored_given fields) cause
      → f ≡ invalid (full_name d) cause → KeepFault d j f

module _ (d : DefinitionView) where
  -- ---- flags

  other_kind_faulty : (body : List ℕ) (w : WhyView) → IsOtherKind body w → IsFaulty body MAX_JSON_LEVELS (FlagsFault d) (bad_request w)
  other_kind_faulty body not_json r = absurd r
  other_kind_faulty body too_deep r = absurd r
  other_kind_faulty body not_whole r = absurd r
  other_kind_faulty body not_object r = absurd r
  other_kind_faulty body wrong_version r =
      record { finding = reading.value (object (members_of r.0)); finds = r.1; follows = is_version r.0 refl r.2 refl }
  other_kind_faulty body wrong_kind r =
      record { finding = reading.value (object (members_of r.0)); finds = r.1; follows = is_kind r.0 refl r.2 r.3 refl }
  other_kind_faulty body wrong_namespace r = absurd r
  other_kind_faulty body wrong_name r = absurd r
  other_kind_faulty body (bad_query parameter) r = absurd r
  other_kind_faulty body bad_token r = absurd r
  other_kind_faulty body bad_options r = absurd r

  flags_faulty : (body : List ℕ) (f : Fault) → RefusesFlags d body f → IsFaulty body MAX_JSON_LEVELS (FlagsFault d) f
  flags_faulty body (bad_request w) (inl r) = no_object_faulty body (FlagsFault d) (λ j other. is_other other refl) w r
  flags_faulty body (bad_request w) (inr r) = other_kind_faulty body w r
  flags_faulty body (invalid name cause) r = record {
    finding = reading.value (object (members_of r.fields));
    finds = r.document.reads;
    follows = is_broken r.fields cause refl r.document.is r.breaks (ap (λ (n : List ℕ). invalid n cause) r.named);
  }

  one_spec_cause : (given : Option Json) (c e : CauseView) → BreaksSpec d given c → BreaksSpec d given e → c ≡ e
  one_spec_cause given c e (another n p) (another m q) = p ∙ sym q
  one_spec_cause given c e (another n p) (not_one_storage o s q) = absurd (n o)
  one_spec_cause given c e (another n p) (none_served o s t q) = absurd (n o)
  one_spec_cause given c e (not_one_storage o s p) (another n q) = absurd (n o)
  one_spec_cause given c e (not_one_storage o s p) (not_one_storage x y q) = p ∙ sym q
  one_spec_cause given c e (not_one_storage o s p) (none_served x y t q) = absurd (s y)
  one_spec_cause given c e (none_served o s t p) (another n q) = absurd (n o)
  one_spec_cause given c e (none_served o s t p) (not_one_storage x y q) = absurd (y s)
  one_spec_cause given c e (none_served o s t p) (none_served x y z q) = p ∙ sym q

  -- what two readings of an object's field say
  abbrev At : List ℕ → Pairs → Option Json
  At name fields = field name fields

  one_flags_fault : (j : Json) (f g : Fault) → FlagsFault d j f → FlagsFault d j g → f ≡ g
  one_flags_fault j f g (is_other n p) (is_other m q) = p ∙ sym q
  one_flags_fault j f g (is_other n p) (is_version fs e v q) = absurd (n fs e)
  one_flags_fault j f g (is_other n p) (is_kind fs e v k q) = absurd (n fs e)
  one_flags_fault j f g (is_other n p) (is_broken fs c e is b q) = absurd (n fs e)
  one_flags_fault j f g (is_version fs e v p) (is_other n q) = absurd (n fs e)
  one_flags_fault j f g (is_version fs e v p) (is_version gs h w q) = p ∙ sym q
  one_flags_fault j f g (is_version fs e v p) (is_kind gs h w k q) =
      absurd (v (ap (At (codes "apiVersion")) (one_fields fs gs (sym e ∙ h)) ∙ w))
  one_flags_fault j f g (is_version fs e v p) (is_broken gs c h is b q) =
      absurd (v (ap (At (codes "apiVersion")) (one_fields fs gs (sym e ∙ h)) ∙ is.api_version))
  one_flags_fault j f g (is_kind fs e v k p) (is_other n q) = absurd (n fs e)
  one_flags_fault j f g (is_kind fs e v k p) (is_version gs h w q) =
      absurd (w (ap (At (codes "apiVersion")) (one_fields gs fs (sym h ∙ e)) ∙ v))
  one_flags_fault j f g (is_kind fs e v k p) (is_kind gs h w l q) = p ∙ sym q
  one_flags_fault j f g (is_kind fs e v k p) (is_broken gs c h is b q) =
      absurd (k (ap (At (codes "kind")) (one_fields fs gs (sym e ∙ h)) ∙ is.kind))
  one_flags_fault j f g (is_broken fs c e is b p) (is_other n q) = absurd (n fs e)
  one_flags_fault j f g (is_broken fs c e is b p) (is_version gs h w q) =
      absurd (w (ap (At (codes "apiVersion")) (one_fields gs fs (sym h ∙ e)) ∙ is.api_version))
  one_flags_fault j f g (is_broken fs c e is b p) (is_kind gs h w l q) =
      absurd (l (ap (At (codes "kind")) (one_fields gs fs (sym h ∙ e)) ∙ is.kind))
  one_flags_fault j f g (is_broken fs c e is b p) (is_broken gs x h was w q) =
      let same = one_fields gs fs (sym h ∙ e) in
      let here : BreaksSpec d (field (codes "spec") fs) x = subst (λ (es : Pairs). BreaksSpec d (field (codes "spec") es) x) same w in
      p ∙ ap (invalid (full_name d)) (one_spec_cause (field (codes "spec") fs) c x b here) ∙ sym q

  unbroken : (given : Option Json) (f : Flags) (c : CauseView) → SetsBySpec d given f → BreaksSpec d given c → ⊥
  unbroken given f c s (another n p) = n s.own
  unbroken given f c s (not_one_storage o n p) = n s.one_storage
  unbroken given f c s (none_served o n t p) = true_false (some_served (versions_given given)) s.some_served t

  sets_one : (body : List ℕ) (f g : Flags) → Sets d body f → Sets d body g → f ≡ g
  sets_one body f g a b =
      let same = one_fields a.fields b.fields (one_json body MAX_JSON_LEVELS _ _ a.document.reads b.document.reads) in
      a.sets.flags ∙ ap (λ (es : Pairs). flags_of (versions_given (field (codes "spec") es))) same ∙ sym b.sets.flags

  sets_excludes : (body : List ℕ) (f : Flags) (g : Fault) → Sets d body f → RefusesFlags d body g → ⊥
  sets_excludes body f g s r = by (told_of body MAX_JSON_LEVELS (FlagsFault d) (object (members_of s.fields)) g s.document.reads (flags_faulty body g r))
    where
      by : FlagsFault d (object (members_of s.fields)) g → ⊥
      by (is_other n p) = n s.fields refl
      by (is_version fs e v p) = v (ap (At (codes "apiVersion")) (one_fields fs s.fields (sym e)) ∙ s.document.is.api_version)
      by (is_kind fs e v k p) = k (ap (At (codes "kind")) (one_fields fs s.fields (sym e)) ∙ s.document.is.kind)
      by (is_broken fs c e is b p) =
          unbroken (field (codes "spec") s.fields) f c s.sets
          (subst (λ (es : Pairs). BreaksSpec d (field (codes "spec") es) c) (one_fields fs s.fields (sym e)) b)

  sets_complete : (body : List ℕ) → ((f : Flags) → Sets d body f → ⊥) → ((f : Fault) → RefusesFlags d body f → ⊥) → ⊥
  sets_complete body never_sets never_refused =
      body_decided body (λ w r. never_refused (bad_request w) (inl r)) (λ fields reads.
      never_refused (bad_request wrong_version) (inr (
        fields,
        reads,
        λ v.
            never_refused (bad_request wrong_kind) (inr (fields, reads, v, λ k. document_case fields (record { reads = reads; is = record { api_version = v; kind = k } }))),
      )))
    where
      bad : (fields : Pairs) → IsDocument body fields → (c : CauseView) → BreaksSpec d (field (codes "spec") fields) c → ⊥
      bad fields document c b = never_refused (invalid (full_name d) c) (record { fields = fields; document = document; named = refl; breaks = b })

      by_served : (fields : Pairs) → IsDocument body fields → IsOwnSpec d (field (codes "spec") fields)
          → storages (versions_given (field (codes "spec") fields)) ≡ 1 → (b : Bool) → some_served (versions_given (field (codes "spec") fields)) ≡ b → ⊥
      by_served fields document own one true s =
          never_sets (flags_of (versions_given (field (codes "spec") fields)))
          (record { fields = fields; document = document; sets = record { own = own; one_storage = one; some_served = s; flags = refl } })
      by_served fields document own one false s =
          bad fields document (record { field = versions_path; rule = Served }) (none_served own one s refl)

      document_case : (fields : Pairs) → IsDocument body fields → ⊥
      document_case fields document =
          bad fields document (record { field = spec_path; rule = Immutable }) (another (λ own.
          bad fields document (record { field = versions_path; rule = Storage }) (not_one_storage own (λ one.
          by_served fields document own one (some_served (versions_given (field (codes "spec") fields))) refl) refl)) refl)

  pub decides_flags : DecidesBodies Flags (Sets d) (RefusesFlags d)
  decides_flags = record {
    one = sets_one;
    one_fault = λ body f g a b. one_fault body MAX_JSON_LEVELS (FlagsFault d) one_flags_fault f g (flags_faulty body f a) (flags_faulty body g b);
    excludes = sets_excludes;
    complete = sets_complete;
  }

  -- ---- stored versions

  keep_faulty : (body : List ℕ) (f : Fault) → RefusesKeep d body f → IsFaulty body MAX_JSON_LEVELS (KeepFault d) f
  keep_faulty body (bad_request w) r = no_object_faulty body (KeepFault d) (λ j other. keeps_other other refl) w r
  keep_faulty body (invalid name cause) r = record {
    finding = reading.value (object (members_of r.fields));
    finds = r.reads;
    follows = keeps_broken r.fields cause refl r.breaks (ap (λ (n : List ℕ). invalid n cause) r.named);
  }

  no_names : (given : Option Json) → given ≡ Some (list no_items) → AreNames given []
  unfolding IsDistinct
  no_names given e = record { texts = e; differ = tt }

  none_unknown : (given : Option Json) (names : List (List ℕ)) → given ≡ Some (list no_items) → AreNames given names → are_versions d.versions names ≡ false → ⊥
  none_unknown given names e a u =
      let same : names ≡ [] = one_names given names [] a (no_names given e) in
      true_false (are_versions d.versions names) (ap (are_versions d.versions) same) u

  one_stored_cause : (given : Option Json) (c e : CauseView) → BreaksStored d given c → BreaksStored d given e → c ≡ e
  one_stored_cause given c e (other_shape n p) (other_shape m q) = p ∙ sym q
  one_stored_cause given c e (other_shape n p) (none h q) = absurd (n [] (no_names given h))
  one_stored_cause given c e (other_shape n p) (no_version names a u q) = absurd (n names a)
  one_stored_cause given c e (none h p) (other_shape n q) = absurd (n [] (no_names given h))
  one_stored_cause given c e (none h p) (none i q) = p ∙ sym q
  one_stored_cause given c e (none h p) (no_version names a u q) = absurd (none_unknown given names h a u)
  one_stored_cause given c e (no_version names a u p) (other_shape n q) = absurd (n names a)
  one_stored_cause given c e (no_version names a u p) (none h q) = absurd (none_unknown given names h a u)
  one_stored_cause given c e (no_version names a u p) (no_version others b w q) = p ∙ sym q

  one_keep_fault : (j : Json) (f g : Fault) → KeepFault d j f → KeepFault d j g → f ≡ g
  one_keep_fault j f g (keeps_other n p) (keeps_other m q) = p ∙ sym q
  one_keep_fault j f g (keeps_other n p) (keeps_broken fs c e b q) = absurd (n fs e)
  one_keep_fault j f g (keeps_broken fs c e b p) (keeps_other n q) = absurd (n fs e)
  one_keep_fault j f g (keeps_broken fs c e b p) (keeps_broken gs x h w q) =
      let same = one_fields gs fs (sym h ∙ e) in
      let here : BreaksStored d (stored_given fs) x = subst (λ (es : Pairs). BreaksStored d (stored_given es) x) same w in
      p ∙ ap (invalid (full_name d)) (one_stored_cause (stored_given fs) c x b here) ∙ sym q

  kept_unbroken : (given : Option Json) (vs : List ℕ) (c : CauseView) → KeepsNamed d given vs → BreaksStored d given c → ⊥
  kept_unbroken given vs c k (other_shape n p) = n (k.first ∷ k.rest) k.names
  kept_unbroken given vs c k (none h p) =
      let same : k.first ∷ k.rest ≡ [] = one_names given (k.first ∷ k.rest) [] k.names (no_names given h) in cc
  kept_unbroken given vs c k (no_version names a u p) =
      let same : names ≡ k.first ∷ k.rest = one_names given names (k.first ∷ k.rest) a k.names in
      true_false (are_versions d.versions names) (ap (are_versions d.versions) same ∙ k.known) u

  keeps_one : (body vs ws : List ℕ) → KeepsVersions d body vs → KeepsVersions d body ws → vs ≡ ws
  keeps_one body vs ws a b =
      let same = one_fields b.fields a.fields (one_json body MAX_JSON_LEVELS _ _ b.reads a.reads) in
      let here : KeepsNamed d (stored_given a.fields) ws = subst (λ (es : Pairs). KeepsNamed d (stored_given es) ws) same b.keeps in
      a.keeps.places ∙ ap (places_named d.versions) (one_names (stored_given a.fields) (a.keeps.first ∷ a.keeps.rest) (here.first ∷ here.rest) a.keeps.names here.names) ∙ sym here.places

  keeps_excludes : (body vs : List ℕ) (g : Fault) → KeepsVersions d body vs → RefusesKeep d body g → ⊥
  keeps_excludes body vs g k r = by (told_of body MAX_JSON_LEVELS (KeepFault d) (object (members_of k.fields)) g k.reads (keep_faulty body g r))
    where
      by : KeepFault d (object (members_of k.fields)) g → ⊥
      by (keeps_other n p) = n k.fields refl
      by (keeps_broken fs c e b p) =
          kept_unbroken (stored_given k.fields) vs c k.keeps
          (subst (λ (es : Pairs). BreaksStored d (stored_given es) c) (one_fields fs k.fields (sym e)) b)

  keeps_complete : (body : List ℕ) → ((vs : List ℕ) → KeepsVersions d body vs → ⊥) → ((f : Fault) → RefusesKeep d body f → ⊥) → ⊥
  keeps_complete body never_keeps never_refused =
      body_decided body (λ w r. never_refused (bad_request w) r) (λ fields reads.
      bad fields reads (record { field = stored_path; rule = Kind }) (other_shape (λ names a. by_names fields reads names a) refl))
    where
      bad : (fields : Pairs) → ReadsObject body fields → (c : CauseView) → BreaksStored d (stored_given fields) c → ⊥
      bad fields reads c b = never_refused (invalid (full_name d) c) (record { fields = fields; reads = reads; named = refl; breaks = b })

      by_known : (fields : Pairs) → ReadsObject body fields → (first : List ℕ) (rest : List (List ℕ)) → AreNames (stored_given fields) (first ∷ rest)
          → (b : Bool) → are_versions d.versions (first ∷ rest) ≡ b → ⊥
      by_known fields reads first rest a true h =
          never_keeps (places_named d.versions (first ∷ rest))
          (record { fields = fields; reads = reads; keeps = record { first = first; rest = rest; names = a; known = h; places = refl } })
      by_known fields reads first rest a false h =
          bad fields reads (record { field = stored_path; rule = Unknown }) (no_version (first ∷ rest) a h refl)

      by_names : (fields : Pairs) → ReadsObject body fields → (names : List (List ℕ)) → AreNames (stored_given fields) names → ⊥
      by_names fields reads [] a = bad fields reads (record { field = stored_path; rule = Required }) (none a.texts refl)
      by_names fields reads (first ∷ rest) a =
          by_known fields reads first rest a (are_versions d.versions (first ∷ rest)) refl

  pub decides_keep : DecidesBodies (List ℕ) (KeepsVersions d) (RefusesKeep d)
  decides_keep = record {
    one = keeps_one;
    one_fault = λ body f g a b. one_fault body MAX_JSON_LEVELS (KeepFault d) one_keep_fault f g (keep_faulty body f a) (keep_faulty body g b);
    excludes = keeps_excludes;
    complete = keeps_complete;
  }
