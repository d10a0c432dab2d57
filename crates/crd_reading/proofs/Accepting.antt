-- Nothing of a document is refused exactly where it is a definition.
use Rattle.std.proofs.Common.{◌≡◌, ℕ, suc, List, true, ◌&&◌, Option, Some, None, eqb-true, refl, ap}
use Rattle.std.specs.Prelude.{nat_eq}
use Rattle.std.specs.Str.{bytes_eq}
use Rattle.std.proofs.lemmas.Slice.Eq.{bytes_eq-Decides}
use Rattle.kj_value.specs.Json.{Json, Items, no_items, item}
use Rattle.kj_value.specs.Sound.{IsSoundJson}
use Rattle.struct_schema.specs.Fault.{or_else, unless}
use Rattle.schema_reading.specs.Visit as schema
use Rattle.schema_reading.specs.Visits as schemas
use Rattle.schema_reading.specs.Accepted.{IsSchema}
use Rattle.crd_reading.specs.View.{VersionView}
use Rattle.crd_reading.specs.Refusal.{Refusal}
use Rattle.crd_reading.specs.Walk.{refusal}
use Rattle.crd_reading.specs.Spelled.{schema_in, version_items, definition_read, own_name, full_name}
use Rattle.crd_reading.specs.Offered.{names_differ, storages, some_served, are_offered}
use Rattle.crd_reading.specs.First.{at_own_name, at_versions, compared_refusal, of_schema, under_schema, schema_refusal, schemas_refusal, first_refusal}
use Rattle.crd_reading.specs.Accepted.{HaveSchemas, AreOffered, IsDefinition}
use Rattle.crd_reading.specs.declared.places.Place.TheVariants.{Document}
use Rattle.crd_reading.proofs.Nones.{both, joined, neither, none_of, held, passed}
use Rattle.crd_reading.proofs.Standing.{stands_value, unrefused_value}

-- ---- the versions together

one : (n : ℕ) → nat_eq n 1 ≡ true → n ≡ 1
one n h = eqb-true n 1 h

pub offered : (vs : List VersionView) → are_offered vs ≡ true → AreOffered vs
offered vs h =
    let p = both (names_differ vs) (nat_eq (storages vs) 1 && some_served vs) h in
    let q = both (nat_eq (storages vs) 1) (some_served vs) p.1 in
    record { differ = p.0; one_storage = one (storages vs) q.0; some_served = q.1 }

pub are : (vs : List VersionView) → AreOffered vs → are_offered vs ≡ true
are vs h =
    joined (names_differ vs) (nat_eq (storages vs) 1 && some_served vs) h.differ (joined (nat_eq (storages vs) 1) (some_served vs) (ap (λ (n : ℕ). nat_eq n 1) h.one_storage) h.some_served)

-- ---- the schemas

none_of_schema : (o : Option schema.Refusal) → of_schema o ≡ None → o ≡ None
none_of_schema None h = refl
none_of_schema (Some r) h = absurd (cc)

none_under_schema : (i : ℕ) (o : Option Refusal) → under_schema i o ≡ None → o ≡ None
none_under_schema i None h = refl
none_under_schema i (Some r) h = absurd (cc)

schema_none : (i : ℕ) (o : Option schema.Refusal) → o ≡ None → under_schema i (of_schema o) ≡ None
schema_none i None h = refl
schema_none i (Some r) h = absurd (cc)

have : ((j : Json) → schemas.first_refusal j ≡ None → IsSchema j) → (i : ℕ) (js : Items) → schemas_refusal i js ≡ None → HaveSchemas js
have law i no_items h = tt
have law i (item j js) h =
    let u = neither (schema_refusal i j) (schemas_refusal (suc i) js) h in
    (law (schema_in j) (none_of_schema (schemas.first_refusal (schema_in j)) (none_under_schema i (of_schema (schemas.first_refusal (schema_in j))) u.0)), have law (suc i) js u.1)

have_none : ((j : Json) → IsSchema j → schemas.first_refusal j ≡ None) → (i : ℕ) (js : Items) → HaveSchemas js → schemas_refusal i js ≡ None
have_none law i no_items h = refl
have_none law i (item j js) h =
    none_of (schema_refusal i j) (schemas_refusal (suc i) js) (schema_none i (schemas.first_refusal (schema_in j)) (law (schema_in j) h.0)) (have_none law (suc i) js h.1)

-- ---- the whole

pub accepted : ((j : Json) → schemas.first_refusal j ≡ None → IsSchema j) → (j : Json) → first_refusal j ≡ None → IsDefinition j
unfolding first_refusal
accepted law j h =
    let u = neither (refusal Document j) (or_else (compared_refusal j) (schemas_refusal 0 (version_items j))) h in
    let v = neither (compared_refusal j) (schemas_refusal 0 (version_items j)) u.1 in
    let w = held (bytes_eq (own_name j) (full_name (definition_read j))) at_own_name (unless (are_offered (definition_read j).versions) at_versions None) v.0 in
    let x = held (are_offered (definition_read j).versions) at_versions None w.1 in
    record {
      stands = stands_value Document j u.0;
      named = (bytes_eq-Decides (own_name j) (full_name (definition_read j))).0 w.0;
      offered = offered (definition_read j).versions x.0;
      schemas = have law 0 (version_items j) v.1;
    }

pub unrefused : ((j : Json) → IsSchema j → schemas.first_refusal j ≡ None) → (j : Json) → IsSoundJson j → IsDefinition j → first_refusal j ≡ None
unfolding first_refusal
unrefused law j s d =
    none_of (refusal Document j) (or_else (compared_refusal j) (schemas_refusal 0 (version_items j))) (unrefused_value Document j s d.stands)
    (none_of (compared_refusal j) (schemas_refusal 0 (version_items j))
    (passed (bytes_eq (own_name j) (full_name (definition_read j))) at_own_name (unless (are_offered (definition_read j).versions) at_versions None) ((bytes_eq-Decides (own_name j) (full_name (definition_read j))).1 d.named) (passed (are_offered (definition_read j).versions) at_versions None (are (definition_read j).versions d.offered) refl))
    (have_none law 0 (version_items j) d.schemas))
