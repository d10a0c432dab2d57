-- A form that is put back is admitted: each step of admission is passed.
use Rattle.std.proofs.Common.{◌≡◌, ◌∙◌, refl, sym, ap, subst, ℕ, ◌<◌, ◌≤◌, ◌^◌, Bool, true, false, not, ◌||◌, List, [], ◌∷◌, ◌++◌, Option, None, Some, codes, decimal, length, arith}
use Rattle.std.specs.Prelude.{◌==◌, ◌↔◌, IsUtf8, is_some, option_map}
use Rattle.std.specs.Str.{bytes_eq}
use Rattle.std.specs.Str.Parse.{digits_value}
use Rattle.std.proofs.lemmas.Fmt.{decimal_is_IsNumeral, decimal_nonempty}
use Rattle.std.proofs.lemmas.Slice.Eq.{bytes_eq-Decides}
use Rattle.kj_value.specs.Json.{Json, depth, object, members_of}
use Rattle.kj_value.specs.Fields.{Pairs, field}
use Rattle.kj_value.specs.KindLaws.{pairs_members}
use Rattle.kj_value.specs.Reading.{Reads}
use Rattle.kj_value.specs.Text.{text_of}
use Rattle.kube_meta.specs.Document.{document, metadata, some_text}
use Rattle.kube_meta.specs.Names.{is_name}
use Rattle.kube_meta.specs.View.{ObjectView}
use Rattle.object_reading.specs.Fields.{given as given_field, object_at, pairs_of}
use Rattle.object_reading.specs.Keeping.{KeepsRules}
use Rattle.object_reading.specs.Numbers.{is_number}
use Rattle.object_reading.specs.Parts.{object_in, not_empty, parts_in, submitted, whole_in}
use Rattle.object_reading.specs.Refusal as reading
use Rattle.object_reading.specs.Refusal.{is_given_text, judged_fields, judged_metadata}
use Rattle.object_reading.specs.Rules.{field_keeps, is_text, keeps}
use Rattle.object_reading.specs.Written.{IsBody, IsWritable}
use Rattle.object_reading.proofs.Digits.{is_number-Decides}
use Rattle.object_reading.proofs.Documents.{document-fields, fields, found_kind, found_metadata, found_version, meta_object}
use Rattle.object_reading.proofs.Holding.{NoneHolds}
use Rattle.object_reading.proofs.Keeping.{metadata_keep}
use Rattle.object_reading.proofs.Metadata.{at}
use Rattle.struct_schema.specs.Fault.{fault}
use Rattle.struct_schema.specs.Shape.{Shape}
use Rattle.struct_schema.specs.Valid.{valid}
use Rattle.api_calls.specs.Meaning.{Request, stamped}
use Rattle.api_calls.specs.Versions.{StandsAt}
use Rattle.api_calls.specs.declared.versions.TheConstants.{OBJECT_LEVELS}
use Rattle.keep_laws.specs.Over.{IsFirstBad}
use Rattle.keep_laws.specs.Spokes.{api_version}
use Rattle.hub_cells.specs.Level.{Name}
use Rattle.crd_meaning.specs.Admission.{Admits, IsHubOf, IsLight, own_name, schema_of}
use Rattle.crd_meaning.specs.Definition.{Definition, IsLoaded, IsSeated, Seat, at_hub, at_spoke, count_of, nowhere, seat, version_at}
use Rattle.crd_meaning.specs.Given.{Given}
use Rattle.crd_meaning.specs.Meant.{meant}
use Rattle.crd_meaning.specs.Objects.{IsFormAt, IsWholeValue, PairsAt}
use Rattle.crd_meaning.specs.Request.{IsTaken, Judged, early, expected_of, fault_rows, first_there, given_name, is_named_so, kind_row, later_rows, meta_fields, metadata_rows, name_row, namespace_row, number_rows, number_text, placed, rows, version_row}
use Rattle.crd_meaning.proofs.Seats.{first_spoke, hub_is, seat_place}
use Rattle.far_laws.specs.GivenBack.{IsLike, bare, unstamped}
use Rattle.far_laws.specs.TakenBack as form
use Rattle.far_laws.proofs.forms.Back.{IsOwnFilling, Laws, at_ns, filled_at, hub_of_form, plain_meta}

-- ---- rows of which none is there

abbrev NoneThere : Judged → Type 0
NoneThere [] = Unit {0}
NoneThere (f ∷ fs) = (f.1 ≡ false) × NoneThere fs

none_there : (fs : Judged) → NoneThere fs → first_there fs ≡ None
none_there [] h = refl
none_there (f ∷ fs) h = rw h.0 (none_there fs h.1)

none_append : (fs gs : Judged) → NoneThere fs → NoneThere gs → NoneThere (fs ++ gs)
none_append [] gs h k = k
none_append (f ∷ fs) gs h k = (h.0, none_append fs gs h.1 k)

none_mapped : (name : List ℕ) (rs : reading.Judged) → NoneHolds rs → NoneThere (fault_rows name rs)
none_mapped name [] h = tt
none_mapped name (r ∷ rs) h = (h.0, none_mapped name rs h.1)

same_text : (s t : List ℕ) → s ≡ t → bytes_eq s t ≡ true
same_text s t is = (bytes_eq-Decides s t).1 is

-- ---- the document of an object

meta_of : (y : ObjectView) → meta_fields (fields y) ≡ metadata y.meta
meta_of y = ap object_at (found_metadata y) ∙ pairs_members (metadata y.meta)

metadata_judged : (y : ObjectView) → KeepsRules y.meta → NoneHolds (judged_metadata (given_field (field (codes "metadata") (fields y))))
metadata_judged y h =
    let found : given_field (field (codes "metadata") (fields y)) ≡ Some (meta_object y) = ap given_field (found_metadata y) in
    let plain : NoneHolds (judged_fields (pairs_of (members_of (metadata y.meta)))) =
    subst (λ (ms : Pairs). NoneHolds (judged_fields ms)) (sym (pairs_members (metadata y.meta))) (metadata_keep y.meta h) in
    subst (λ (o : Option Json). NoneHolds (judged_metadata o)) (sym found) (refl, plain)

-- a text that stands there, or is empty
kept_text : (s t : List ℕ) → s ≡ t → keeps (is_text (λ (u : List ℕ). bytes_eq u t)) (given_field (some_text s)) ≡ true
kept_text [] t is = refl
kept_text (b ∷ bs) t is = same_text (b ∷ bs) t is

no_name : is_name [] ≡ true → ⊥
unfolding is_name
no_name e = cc

named_text : (s t : List ℕ) → s ≡ t → is_name s ≡ true → is_given_text (λ (u : List ℕ). bytes_eq u t) (given_field (some_text s)) ≡ true
named_text [] t is name = absurd (no_name name)
named_text (b ∷ bs) t is name = same_text (b ∷ bs) t is

some_number : (n : ℕ) → n < 2 ^ 64 → (o : Option (List ℕ)) → o ≡ Some (decimal n) → not_empty o ≡ Some (decimal n)
some_number n few None is = cc
some_number n few (Some []) is = absurd (nothing cc)
  where
    nothing : decimal n ≡ [] → ⊥
    nothing none = let some = decimal_nonempty n few in let long : length (decimal n) ≡ 0 = ap (λ (ds : List ℕ). length ds) none in omega (arith, some, long)
some_number n few (Some (b ∷ bs)) is = is

version_number : (n : ℕ) → n < 2 ^ 64 → is_number (decimal n) ≡ true
version_number n few = (is_number-Decides (decimal n)).1 (n, few, refl)

or_right : (a b : Bool) → b ≡ true → (a || b) ≡ true
or_right true b is = refl
or_right false b is = is

module _ (d : Definition) (loaded : IsLoaded d) (given : Given) (laws : Laws d) (faults : (s : Shape) (j : Json) → (fault s j ≡ None) ↔ (valid s j ≡ true))
    (unread : (v : ℕ) (x h : ObjectView) → IsHubOf d v x h → (k : Name) → IsFirstBad d.spokes (own_name (seat d v)) x.meta.annotations k → ⊥) where
  -- ---- the body of a form breaks no rule

  valid_at : (v : ℕ) (h x : ObjectView) → v < count_of d → IsWholeValue d h → (z : Seat) → seat d v ≡ z → IsSeated (version_at d v) z → PairsAt d.spokes z h x
      → valid (version_at d v).schema (object (members_of x.body)) ≡ true
  valid_at v h x known w at_hub e q p =
      let f = first_spoke d.spokes.items (subst (λ (n : ℕ). 2 ≤ n) (sym loaded.spokes) loaded.few.0) in
      let body = f.2 h.body w.hub.body in
      let schema : f.0.fit.hub ≡ (version_at d v).schema = loaded.to_hub 0 f.0 f.1 ∙ ap (λ (u : ℕ). (version_at d u).schema) (sym (hub_is d v e)) in
      subst (λ (y : ObjectView). valid (version_at d v).schema (object (members_of y.body)) ≡ true) (sym p)
      (subst (λ (s : Shape). valid s (object (members_of h.body)) ≡ true) schema body.valid)
  valid_at v h x known w (at_spoke s) e q p =
      let place = seat_place d v s e in
      let settled = given.settled d.spokes place.at s loaded.definition place.found x h p.0 w.hub p.1 in
      subst (λ (t : Shape). valid t (object (members_of x.body)) ≡ true) q.schema settled.body.valid
  valid_at v h x known w nowhere e q p = absurd p

  -- stamps and the generation aren't measured
  light_without : (h : ObjectView) → form.IsLight (meant d) h → IsLight d (unstamped h)
  light_without h light v x known p =
      light v (stamped x h.meta.created h.meta.deleted h.meta.generation) known (laws.unstamped.pair v (unstamped h) x h.meta.created h.meta.deleted h.meta.generation p)

  module _ (v number : ℕ) (h x y : ObjectView) (r : Request) (known : v < count_of d) (w : IsWholeValue d h) (p : IsFormAt d v h x) (like : IsLike y x)
      (numbered : y.meta.resource_version ≡ Some (decimal number)) (few : number < 2 ^ 64) (at_version : r.version ≡ v) (ns : r.ns ≡ x.meta.namespace) (name : r.name ≡ Some x.meta.name)
      (spelled : r.bytes ≡ text_of (document y)) (utf8 : IsUtf8 r.bytes) (levels : depth (document y) ≤ OBJECT_LEVELS) (light : form.IsLight (meant d) h) where
    stands : StandsAt (meant d) v x
    stands = laws.stand.pair v h x known w p

    writable : IsWritable y
    writable =
        let body_same : y.body ≡ x.body = ap (λ (z : ObjectView). z.body) like.same in
        record { body = subst IsBody (sym body_same) stands.body; created = like.created; deleted = like.deleted }

    -- ---- its parts are those of the form

    name_is : y.meta.name ≡ x.meta.name
    name_is = ap (λ (z : ObjectView). z.meta.name) like.same

    ns_is : y.meta.namespace ≡ x.meta.namespace
    ns_is = ap (λ (z : ObjectView). z.meta.namespace) like.same

    rules : KeepsRules y.meta
    rules =
        let from = stands.rules in
        let labels_is : y.meta.labels ≡ x.meta.labels = ap (λ (z : ObjectView). z.meta.labels) like.same in
        let annotations_is : y.meta.annotations ≡ x.meta.annotations = ap (λ (z : ObjectView). z.meta.annotations) like.same in
        let finalizers_is : y.meta.finalizers ≡ x.meta.finalizers = ap (λ (z : ObjectView). z.meta.finalizers) like.same in
        record {
          name = rw name_is from.name;
          namespace = rw ns_is from.namespace;
          labels = rw labels_is from.labels;
          annotations = rw annotations_is from.annotations;
          few = rw finalizers_is from.few;
          finalizers = rw finalizers_is from.finalizers;
          resource_version = rw numbered (or_right (length (decimal number) == 0) (is_number (decimal number)) (version_number number few));
        }

    -- ---- nothing is refused early

    submitted_number : number_text (fields y) ≡ Some (decimal number)
    submitted_number =
        let back : parts_in (fields y) ≡ y = ap parts_in (sym (pairs_members (fields y))) ∙ ap whole_in (sym (document-fields y)) ∙ laws.reads_back y writable in
        ap (λ (z : ObjectView). (submitted z).meta.resource_version) back ∙ some_number number few y.meta.resource_version numbered

    version_there : (version_row d r (fields y)).1 ≡ false
    version_there =
        let same : y.api_version ≡ api_version d.view.group (version_at d r.version).name =
        ap (λ (z : ObjectView). z.api_version) like.same ∙ stands.api_version ∙ ap (λ (u : ℕ). d.view.group ++ (codes "/" ++ (version_at d u).name)) (sym at_version) in
        ap (λ (o : Option Json). not (is_given_text (λ s. bytes_eq s (api_version d.view.group (version_at d r.version).name)) o)) (found_version y)
        ∙ ap not (same_text y.api_version (api_version d.view.group (version_at d r.version).name) same)

    kind_there : (kind_row d (fields y)).1 ≡ false
    kind_there =
        ap (λ (o : Option Json). not (is_given_text (λ s. bytes_eq s d.view.kind) o)) (found_kind y)
        ∙ ap not (same_text y.kind d.view.kind (ap (λ (z : ObjectView). z.kind) like.same ∙ stands.kind))

    namespace_there : (namespace_row r (fields y)).1 ≡ false
    namespace_there =
        ap (λ (ms : Pairs). not (field_keeps (is_text (λ s. bytes_eq s r.ns)) (codes "namespace") ms)) (meta_of y)
        ∙ ap (λ (o : Option Json). not (keeps (is_text (λ s. bytes_eq s r.ns)) (given_field o))) (at (codes "namespace") y.meta (some_text y.meta.namespace) refl)
        ∙ ap not (kept_text y.meta.namespace r.ns (ns_is ∙ sym ns))

    name_there : (name_row r (fields y)).1 ≡ false
    name_there =
        ap (λ (o : Option (List ℕ)). not (is_named_so o (given_field (field (codes "name") (meta_fields (fields y)))))) name
        ∙ ap (λ (ms : Pairs). not (is_given_text (λ s. bytes_eq s x.meta.name) (given_field (field (codes "name") ms)))) (meta_of y)
        ∙ ap (λ (o : Option Json). not (is_given_text (λ s. bytes_eq s x.meta.name) (given_field o))) (at (codes "name") y.meta (some_text y.meta.name) refl)
        ∙ ap not (named_text y.meta.name x.meta.name name_is (ap is_name name_is ∙ stands.rules.name))

    numbers_there : NoneThere (number_rows (given_name (fields y)) (is_some r.name) (is_some (number_text (fields y))))
    numbers_there = rw (name, submitted_number) (refl, (refl, tt))

    later_there : NoneThere (later_rows r (fields y))
    later_there =
        none_append (metadata_rows (fields y)) (number_rows (given_name (fields y)) (is_some r.name) (is_some (number_text (fields y))))
        (none_mapped (given_name (fields y)) (judged_metadata (given_field (field (codes "metadata") (fields y)))) (metadata_judged y rules)) numbers_there

    nothing_early : early d r (document y) ≡ None
    nothing_early =
        ap (early d r) (document-fields y) ∙ ap (λ (es : Pairs). first_there (rows d r es)) (pairs_members (fields y))
        ∙ none_there (rows d r (fields y)) (version_there, (kind_there, (namespace_there, (name_there, later_there))))

    -- ---- it is taken

    read : object_in (document y) ≡ submitted y
    read = ap submitted (laws.reads_back y writable)

    taken : IsTaken d r (bare x) (Some number)
    taken =
        let back = laws.text_reads (document y) like.sound like.levels (subst (λ (bytes : List ℕ). IsUtf8 bytes) spelled utf8) in
        record {
          value = document y;
          reads = reads_it back;
          nothing = nothing_early;
          object = ap (λ (s : List ℕ). at_ns s (bare x)) (sym ns) ∙ ap (at_ns r.ns) (sym like.same) ∙ ap (placed r.ns) (sym read);
          number = sym (ap expected_of read ∙ ap (option_map (digits_value 10)) (some_number number few y.meta.resource_version numbered) ∙ ap Some (decimal_is_IsNumeral number few).1);
        }
      where
        reads_it : Reads (text_of (document y)) (depth (document y)) (document y) → Reads r.bytes OBJECT_LEVELS (document y)
        reads_it back =
            subst (λ (bytes : List ℕ). Reads bytes OBJECT_LEVELS (document y)) (sym spelled)
            (back.0, back.1, (let deep = back.2 in omega (arith, deep, levels)), back.3)

    -- ---- and admitted

    plain : bare x ≡ unstamped x
    plain = plain_meta x stands.no_number stands.no_uid

    hub : IsHubOf d r.version (bare x) (unstamped h)
    hub =
        subst (λ (u : ℕ). IsHubOf d u (bare x) (unstamped h)) (sym at_version)
        (subst (λ (z : ObjectView). IsHubOf d v z (unstamped h)) (sym plain) (hub_of_form d loaded given laws v h x w p))

    own : IsOwnFilling d loaded given laws (schema_of d r) x.body
    own = subst (λ (u : ℕ). IsOwnFilling d loaded given laws (version_at d u).schema x.body) (sym at_version) (filled_at d loaded given laws v h x known w (seat d v) refl (loaded.seats v known) p)

    is_valid : fault (schema_of d r) (object (members_of x.body)) ≡ None
    is_valid =
        (faults (schema_of d r) (object (members_of x.body))).1
        (subst (λ (u : ℕ). valid (version_at d u).schema (object (members_of x.body)) ≡ true) (sym at_version) (valid_at v h x known w (seat d v) refl (loaded.seats v known) p))

    pub admitted : Admits d r (unstamped h) (Some number)
    admitted = record {
      object = bare x;
      passes = record { taken = bare x; is = taken; filling = record { filled = own.filled; sound = own.sound }; rest = refl; valid = is_valid };
      read = unread r.version (bare x) (unstamped h) hub;
      hub = hub;
      light = light_without h light;
    }
