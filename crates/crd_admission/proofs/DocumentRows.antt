-- The table of early refusals, row by row.
use Rattle.std.proofs.Common.{◌≡◌, ◌∙◌, ℕ, List, [], ◌∷◌, Bool, true, false, not, Option, Some, None, map, refl, ap, ap₂, sym, subst}
use Rattle.std.specs.Prelude.{option_map, codes, if◌then◌else◌}
use Rattle.kj_value.specs.Json.{Json, object, members_of}
use Rattle.kj_value.specs.Fields.{Pairs, field}
use Rattle.kj_value.specs.declared.rule.Rule.TheVariants as rule
use Rattle.object_reading.specs.Fields.{given, object_at}
use Rattle.object_reading.specs.Parts.{text_or_empty, meta_in}
use Rattle.object_reading.specs.Refusal.{Refusal, first_holding, is_given_text}
use Rattle.object_reading.specs.Refusal as reading
use Rattle.object_reading.proofs.Lists.{pairs_members}
use Rattle.api_calls.specs.Meaning.{Fault}
use Rattle.crd_meaning.specs.Definition.{Definition}
use Rattle.crd_meaning.specs.Request.{Judged, first_there, breaks, metadata_fault, metadata_field, given_name, meta_fields}
use Rattle.crd_meaning.specs.Document.{version_path, kind_path, is_version, judged_metadata, metadata_rows, kind_row, rows, early}
use Rattle.crd_admission.specs.Steps.{IsFirst, has_kind}
use Rattle.crd_admission.specs.inner.Documents.{IsBadMetadata}

-- ---- one row

skip : (f : Fault) (b : Bool) (fs : Judged) → b ≡ true → first_there ((f, not b) ∷ fs) ≡ first_there fs
skip f true fs e = refl
skip f false fs e = absurd (cc)

there : (f : Fault) (b : Bool) (fs : Judged) → b ≡ false → first_there ((f, not b) ∷ fs) ≡ Some f
there f false fs e = refl
there f true fs e = absurd (cc)

-- ---- the version and the kind

module _ (d : Definition) (es : Pairs) where
  abbrev wrong_at : List ℕ → Fault
  wrong_at path = breaks (given_name es) path rule.Wrong

  abbrev has_version : Bool
  has_version = is_given_text (is_version d) (field (codes "apiVersion") es)

  pub at_version : has_version ≡ false → IsFirst (rows d es) (wrong_at version_path)
  at_version v = there (wrong_at version_path) has_version (kind_row d es ∷ metadata_rows es) v

  past_version : has_version ≡ true → first_there (rows d es) ≡ first_there (kind_row d es ∷ metadata_rows es)
  past_version v = skip (wrong_at version_path) has_version (kind_row d es ∷ metadata_rows es) v

  pub at_kind : has_version ≡ true → has_kind d es ≡ false → IsFirst (rows d es) (wrong_at kind_path)
  at_kind v k = past_version v ∙ there (wrong_at kind_path) (has_kind d es) (metadata_rows es) k

  past_kind : has_version ≡ true → has_kind d es ≡ true → first_there (rows d es) ≡ first_there (metadata_rows es)
  past_kind v k = past_version v ∙ skip (wrong_at kind_path) (has_kind d es) (metadata_rows es) k

-- ---- the metadata

mapped_first : (name : List ℕ) (js : reading.Judged) → first_there (map (λ j. (metadata_fault name j.0, j.1)) js) ≡ option_map (metadata_fault name) (first_holding js)
mapped_first name [] = refl
mapped_first name (j ∷ js) = by_test j.1 (mapped_first name js)
  where
    by_test : (b : Bool) → first_there (map (λ i. (metadata_fault name i.0, i.1)) js) ≡ option_map (metadata_fault name) (first_holding js)
        → (if b then Some (metadata_fault name j.0) else first_there (map (λ i. (metadata_fault name i.0, i.1)) js)) ≡ option_map (metadata_fault name) (if b then Some j.0 else first_holding js)
    by_test true e = refl
    by_test false e = e

-- what is told of metadata that are these
abbrev told : Option Json → Pairs → Option Fault
told o ms = option_map (metadata_fault (text_or_empty (field (codes "name") ms))) (first_holding (judged_metadata o))

module _ (d : Definition) (es : Pairs) (j : Json) (v : has_version d es ≡ true) (k : has_kind d es ≡ true)
    (o : given (Some j) ≡ given (field (codes "metadata") es)) (ms : object_at (Some j) ≡ meta_fields es) where
  early_told : early d (object (members_of es)) ≡ told (given (Some j)) (object_at (Some j))
  unfolding meta_in
  early_told =
      ap (λ (fs : Pairs). first_there (rows d fs)) (pairs_members es)
      ∙ past_kind d es v k
      ∙ mapped_first (given_name es) (judged_metadata (given (field (codes "metadata") es)))
      ∙ sym (ap₂ told o ms)

  pub bad_metadata : (f : Fault) → IsBadMetadata j f → early d (object (members_of es)) ≡ Some f
  bad_metadata f h = early_told ∙ h

  pub nothing_early : first_holding (judged_metadata (given (Some j))) ≡ None → early d (object (members_of es)) ≡ None
  nothing_early h =
      early_told ∙ ap (option_map (metadata_fault (text_or_empty (field (codes "name") (object_at (Some j)))))) h

pub early_first : (d : Definition) (es : Pairs) (f : Fault) → IsFirst (rows d es) f → early d (object (members_of es)) ≡ Some f
early_first d es f h = ap (λ (fs : Pairs). first_there (rows d fs)) (pairs_members es) ∙ h

-- ---- of the metadata, only a field is told

abbrev pub IsOfField : Refusal → Type 0
IsOfField reading.not_object = ⊥
IsOfField reading.bad_version = ⊥
IsOfField reading.wrong_kind = ⊥
IsOfField (reading.bad_meta f) = Unit {0}
IsOfField reading.bad_name = ⊥

abbrev AreOfFields : reading.Judged → Type 0
AreOfFields [] = Unit {0}
AreOfFields (j ∷ js) = IsOfField j.0 × AreOfFields js

one_refusal : (p q : Refusal) → IsOfField p → Some p ≡ Some q → IsOfField q
one_refusal p q a s = let same : p ≡ q = cc in subst IsOfField same a

first_field : (js : reading.Judged) (r : Refusal) → AreOfFields js → first_holding js ≡ Some r → IsOfField r
first_field [] r h e = absurd (cc)
first_field (j ∷ js) r h e = by_test (first_field js r h.1) j.1 e
  where
    by_test : (first_holding js ≡ Some r → IsOfField r) → (b : Bool) → (if b then Some j.0 else first_holding js) ≡ Some r → IsOfField r
    by_test more true q = one_refusal j.0 r h.0 q
    by_test more false q = more q

pub of_field : (m : Option Json) (r : Refusal) → first_holding (judged_metadata m) ≡ Some r → IsOfField r
of_field m r e = first_field (judged_metadata m) r (tt, (tt, (tt, (tt, (tt, (tt, tt)))))) e

pub told_field : (name f path : List ℕ) (r : Option Refusal) → path ≡ metadata_field f → r ≡ Some (reading.bad_meta f) → option_map (metadata_fault name) r ≡ Some (breaks name path rule.Kind)
told_field name f path r p e =
    ap (option_map (metadata_fault name)) e ∙ ap (λ (q : List ℕ). Some (breaks name q rule.Kind)) (sym p)

-- of a copy of the value
pub told_alike : (name : List ℕ) (k j : Json) (f : Fault) → name ≡ text_or_empty (field (codes "name") (object_at (Some j))) → k ≡ j
    → option_map (metadata_fault name) (first_holding (judged_metadata (given (Some k)))) ≡ Some f → IsBadMetadata j f
told_alike name k j f p q h =
    sym (ap₂ (λ (n : List ℕ) (i : Json). option_map (metadata_fault n) (first_holding (judged_metadata (given (Some i))))) p q) ∙ h
