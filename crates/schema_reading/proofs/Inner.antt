-- The walk over the schemas inside a node.
use Rattle.std.proofs.Common.{◌≡◌, ℕ, suc, ◌+◌, ◌<◌, List, [], ◌∷◌, ◌++◌, length, get_or, drop, map, Bool, false, Option, Some, None, refl, ap, sym, subst, ◌∙◌, drop-cons, add-one}
use Rattle.kj_value.specs.Json.{Json, object, Members, members_of}
use Rattle.kj_value.specs.Seen.{json}
use Rattle.kj_value.specs.Pair.{pair_of}
use Rattle.kj_value.specs.declared.value.Field.{Field}
use Rattle.struct_schema.specs.Path.{named}
use Rattle.struct_schema.specs.Names.{value_at}
use Rattle.struct_schema.specs.Fault.{or_else}
use Rattle.schema_reading.specs.Words.{word, passed_type}
use Rattle.schema_reading.specs.Visit.{Visit, Refusal, within, after, first, under}
use Rattle.schema_reading.specs.Visits.{visits, inner_visits, map_visits, each_visits, property_visits, meta_visits}
use Rattle.schema_reading.specs.Told.{StopsSchemaReading, Passes}
use Rattle.schema_reading.specs.declared.words.Keyword.{Keyword}
use Rattle.schema_reading.specs.declared.words.Keyword.TheVariants.{Properties}
use Rattle.schema_reading.specs.declared.trouble.Stop.{Stop}
use Rattle.schema_reading.proofs.Passing.{first-append, after-append, passes-within, passes-keywords, stops-first, stops-within, stops-keywords}
use Rattle.schema_reading.proofs.Parts.{keywords-meta}
use Rattle.schema_reading.proofs.Found.{inner_visits-some, map_visits-some}

abbrev pub Steps : List ℕ → Stop → Stop → Type 0
Steps k stop e = (o : Option Refusal) → StopsSchemaReading o stop → StopsSchemaReading (under (named k) o) e

pub stops_inner : (w : Keyword) (n d : ℕ) (ms : Members) (v : Json) (k : List ℕ) (stop e : Stop) → value_at (word w) ms ≡ Some v → k ≡ word w → StopsSchemaReading (first n (visits false (d + 1) v)) stop → Steps k stop e → StopsSchemaReading (first n (inner_visits w d ms)) e
stops_inner w n d ms v k stop e found spelled h step =
    let steps : Steps (word w) stop e = subst (λ (l : List ℕ). Steps l stop e) spelled step in
    subst (λ (vs : List Visit). StopsSchemaReading (first n vs) e) (sym (inner_visits-some w d ms v found)) (stops-within (named (word w)) n (visits false (d + 1) v) stop e steps h)

pub passes_inner : (w : Keyword) (n m d : ℕ) (ms : Members) (v : Json) → value_at (word w) ms ≡ Some v → Passes n m (visits false (d + 1) v) → Passes n m (inner_visits w d ms)
passes_inner w n m d ms v found p =
    subst (λ (vs : List Visit). Passes n m vs) (sym (inner_visits-some w d ms v found)) (passes-within (named (word w)) n m (visits false (d + 1) v) p)

pub passes_none : (n : ℕ) (vs : List Visit) → vs ≡ [] → Passes n n vs
passes_none n vs e = subst (λ (ws : List Visit). Passes n n ws) (sym e) (refl, refl)

pub stops_map : (root : Bool) (n d : ℕ) (ms : Members) (es : List (List ℕ × Json)) (k : List ℕ) (stop e : Stop) → value_at (word Properties) ms ≡ Some (object (members_of es)) → k ≡ word Properties → StopsSchemaReading (first n (each_visits root d (members_of es))) stop → Steps k stop e
    → StopsSchemaReading (first n (map_visits root d ms)) e
stops_map root n d ms es k stop e found spelled h step =
    let steps : Steps (word Properties) stop e = subst (λ (l : List ℕ). Steps l stop e) spelled step in
    subst (λ (vs : List Visit). StopsSchemaReading (first n vs) e) (sym (map_visits-some root d ms (object (members_of es)) found)) (stops-within (named (word Properties)) n (each_visits root d (members_of es)) stop e steps h)

pub passes_map : (root : Bool) (n m d : ℕ) (ms : Members) (es : List (List ℕ × Json)) → value_at (word Properties) ms ≡ Some (object (members_of es)) → Passes n m (each_visits root d (members_of es)) → Passes n m (map_visits root d ms)
passes_map root n m d ms es found p =
    subst (λ (vs : List Visit). Passes n m vs) (sym (map_visits-some root d ms (object (members_of es)) found)) (passes-within (named (word Properties)) n m (each_visits root d (members_of es)) p)

-- ---- the properties, from a place on

abbrev Here : Bool → ℕ → Field → Option (List ℕ) → List Visit
Here root d f o =
    within (named f.name.bytes) (property_visits o (json f.value) (visits false (d + 1) (json f.value)))

abbrev pub From : Bool → ℕ → List Field → List Visit
From root d fs = each_visits root d (members_of (map pair_of fs))

each_at : (root : Bool) (d : ℕ) (fs : List Field) (i : ℕ) (f : Field) → i < length fs → f ≡ get_or fs i f → From root d (drop i fs) ≡ Here root d f (passed_type root f.name.bytes) ++ From root d (drop (i + 1) fs)
each_at root d fs i f within is =
    let there : drop i fs ≡ f ∷ drop (suc i) fs = drop-cons fs i f within ∙ ap (λ (x : Field). x ∷ drop (suc i) fs) (sym is) in
    ap (From root d) there ∙ ap (λ (k : ℕ). Here root d f (passed_type root f.name.bytes) ++ From root d (drop k fs)) (sym (add-one i))

stops_here : (root : Bool) (n d : ℕ) (fs : List Field) (i : ℕ) (f : Field) (o : Option (List ℕ)) (vs : List Visit) (k : List ℕ) (stop e : Stop) → i < length fs → f ≡ get_or fs i f → passed_type root f.name.bytes ≡ o → property_visits o (json f.value) (visits false (d + 1) (json f.value)) ≡ vs
    → k ≡ f.name.bytes → StopsSchemaReading (first n vs) stop → Steps k stop e → StopsSchemaReading (first n (From root d (drop i fs))) e
stops_here root n d fs i f o vs k stop e within is passed seen spelled h step =
    let steps : Steps f.name.bytes stop e = subst (λ (l : List ℕ). Steps l stop e) spelled step in
    let inner : StopsSchemaReading (first n (property_visits o (json f.value) (visits false (d + 1) (json f.value)))) stop = subst (λ (ws : List Visit). StopsSchemaReading (first n ws) stop) (sym seen) h in
    let one : StopsSchemaReading (first n (Here root d f o)) e = stops-within (named f.name.bytes) n (property_visits o (json f.value) (visits false (d + 1) (json f.value))) stop e steps inner in
    let here : StopsSchemaReading (first n (Here root d f (passed_type root f.name.bytes))) e = subst (λ (p : Option (List ℕ)). StopsSchemaReading (first n (Here root d f p)) e) (sym passed) one in
    subst (λ (ws : List Visit). StopsSchemaReading (first n ws) e) (sym (each_at root d fs i f within is)) (stops-first n (Here root d f (passed_type root f.name.bytes)) (From root d (drop (i + 1) fs)) e here)

pub stopped_node : (root : Bool) (n d : ℕ) (fs : List Field) (i : ℕ) (f : Field) (k l : List ℕ) (stop e : Stop) → i < length fs → f ≡ get_or fs i f → None ≡ passed_type root k → k ≡ f.name.bytes → l ≡ f.name.bytes → StopsSchemaReading (first n (visits false (d + 1) (json f.value))) stop → Steps l stop e
    → StopsSchemaReading (first n (From root d (drop i fs))) e
stopped_node root n d fs i f k l stop e within is passed named_is spelled h step =
    stops_here root n d fs i f None (visits false (d + 1) (json f.value)) l stop e within is (sym (passed ∙ ap (passed_type root) named_is)) refl spelled h step

pub stopped_meta : (root : Bool) (n d : ℕ) (fs : List Field) (i : ℕ) (f : Field) (t k l : List ℕ) (stop e : Stop) → i < length fs → f ≡ get_or fs i f → Some t ≡ passed_type root k → k ≡ f.name.bytes → l ≡ f.name.bytes → StopsSchemaReading (first 0 (meta_visits t (json f.value))) stop → Steps l stop e
    → StopsSchemaReading (first n (From root d (drop i fs))) e
stopped_meta root n d fs i f t k l stop e within is passed named_is spelled h step =
    stops_here root n d fs i f (Some t) (meta_visits t (json f.value)) l stop e within is (sym (passed ∙ ap (passed_type root) named_is)) refl spelled (stops-keywords n (meta_visits t (json f.value)) stop (keywords-meta t (json f.value)) h) step

-- what passed leaves what comes after it

pub record GoesOn (n m : ℕ) (root : Bool) (d : ℕ) (fs : List Field) (i : ℕ) : Type 0 where
  pub refusal : first m (From root d (drop (i + 1) fs)) ≡ first n (From root d (drop i fs))
  pub count : after m (From root d (drop (i + 1) fs)) ≡ after n (From root d (drop i fs))

goes_here : (root : Bool) (n m d : ℕ) (fs : List Field) (i : ℕ) (f : Field) (o : Option (List ℕ)) → i < length fs → f ≡ get_or fs i f → passed_type root f.name.bytes ≡ o → Passes n m (property_visits o (json f.value) (visits false (d + 1) (json f.value))) → GoesOn n m root d fs i
goes_here root n m d fs i f o within is passed p =
    let one : Passes n m (Here root d f o) = passes-within (named f.name.bytes) n m (property_visits o (json f.value) (visits false (d + 1) (json f.value))) p in
    let here : Passes n m (Here root d f (passed_type root f.name.bytes)) = subst (λ (q : Option (List ℕ)). Passes n m (Here root d f q)) (sym passed) one in
    let xs : List Visit = Here root d f (passed_type root f.name.bytes) in
    let ys : List Visit = From root d (drop (i + 1) fs) in
    record {
      refusal = sym (ap (first n) (each_at root d fs i f within is) ∙ first-append n xs ys ∙ ap (λ (q : Option Refusal). or_else q (first (after n xs) ys)) here.0 ∙ ap (λ (k : ℕ). first k ys) (sym here.1));
      count = sym (ap (after n) (each_at root d fs i f within is) ∙ after-append n xs ys ∙ ap (λ (k : ℕ). after k ys) (sym here.1));
    }

pub goes_node : (root : Bool) (n m d : ℕ) (fs : List Field) (i : ℕ) (f : Field) (k : List ℕ) → i < length fs → f ≡ get_or fs i f → None ≡ passed_type root k → k ≡ f.name.bytes → Passes n m (visits false (d + 1) (json f.value)) → GoesOn n m root d fs i
goes_node root n m d fs i f k within is passed named_is p =
    goes_here root n m d fs i f None within is (sym (passed ∙ ap (passed_type root) named_is)) p

pub goes_meta : (root : Bool) (n d : ℕ) (fs : List Field) (i : ℕ) (f : Field) (t k : List ℕ) → i < length fs → f ≡ get_or fs i f → Some t ≡ passed_type root k → k ≡ f.name.bytes → first 0 (meta_visits t (json f.value)) ≡ None → GoesOn n n root d fs i
goes_meta root n d fs i f t k within is passed named_is p =
    goes_here root n n d fs i f (Some t) within is (sym (passed ∙ ap (passed_type root) named_is)) (passes-keywords n (meta_visits t (json f.value)) (keywords-meta t (json f.value)) p)
