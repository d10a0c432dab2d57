-- The versions of a document one by one, as a loop reads them.
use Rattle.std.proofs.Common.{◌≡◌, ℕ, suc, ◌+◌, ◌<◌, List, [], ◌∷◌, ◌++◌, length, get_or, map, drop, Option, Some, None, ap, sym, ◌∙◌, append_assoc, add-one}
use Rattle.std.proofs.lemmas.List.{drop_more, map_push}
use Rattle.kj_value.specs.Json.{items_of}
use Rattle.kj_value.specs.Seen.{json}
use Rattle.kj_value.specs.declared.value.JVal.{JVal}
use Rattle.crd_reading.specs.Seen.{version_of}
use Rattle.crd_reading.specs.Spelled.{version_read, versions_read}
use Rattle.struct_schema.specs.Fault.{or_else}
use Rattle.crd_reading.specs.Refusal.{Refusal}
use Rattle.crd_reading.specs.First.{schema_refusal, schemas_refusal}
use Rattle.crd_reading.specs.View.{VersionView}
use Rattle.crd_reading.specs.declared.definition.Version.{Version}

-- what is left begins with the item at the place
begins : (vs : List JVal) (i : ℕ) (v : JVal) → i < length vs → v ≡ get_or vs i v → drop i vs ≡ v ∷ drop (i + 1) vs
begins vs i v within is = drop_more vs i v within ∙ ap (λ (w : JVal). w ∷ drop (i + 1) vs) (sym is)

pub refused_here : (vs : List JVal) (i : ℕ) (v : JVal) {r : Refusal} → i < length vs → v ≡ get_or vs i v → Some r ≡ schema_refusal i (json v) → Some r ≡ schemas_refusal i (items_of (map json (drop i vs)))
refused_here vs i v within is here =
    let rest : Option Refusal = schemas_refusal (suc i) (items_of (map json (drop (i + 1) vs))) in
    ap (λ (o : Option Refusal). or_else o rest) here ∙ ap (λ (t : List JVal). schemas_refusal i (items_of (map json t))) (sym (begins vs i v within is))

pub not_refused_here : (vs : List JVal) (i : ℕ) (v : JVal) → i < length vs → v ≡ get_or vs i v → None ≡ schema_refusal i (json v)
    → schemas_refusal (i + 1) (items_of (map json (drop (i + 1) vs))) ≡ schemas_refusal i (items_of (map json (drop i vs)))
not_refused_here vs i v within is here =
    let rest : Option Refusal = schemas_refusal (suc i) (items_of (map json (drop (i + 1) vs))) in
    ap (λ (n : ℕ). schemas_refusal n (items_of (map json (drop (i + 1) vs)))) (add-one i)
    ∙ ap (λ (o : Option Refusal). or_else o rest) here ∙ ap (λ (t : List JVal). schemas_refusal i (items_of (map json t))) (sym (begins vs i v within is))

pub read_here : (vs : List JVal) (i : ℕ) (v : JVal) (done : List Version) (d : Version) → i < length vs → v ≡ get_or vs i v → version_of d ≡ version_read (json v)
    → map version_of (done ++ d ∷ []) ++ versions_read (items_of (map json (drop (i + 1) vs))) ≡ map version_of done ++ versions_read (items_of (map json (drop i vs)))
read_here vs i v done d within is read =
    let rest : List VersionView = versions_read (items_of (map json (drop (i + 1) vs))) in
    ap (λ (t : List VersionView). t ++ rest) (map_push version_of done d) ∙ append_assoc (map version_of done) (version_of d ∷ []) rest
    ∙ ap (λ (x : VersionView). map version_of done ++ x ∷ rest) read ∙ ap (λ (t : List JVal). map version_of done ++ versions_read (items_of (map json t))) (sym (begins vs i v within is))
