-- What the versions of a document say of their flags.
use Rattle.std.proofs.Common.{◌≡◌, ℕ, zero, suc, List, [], ◌∷◌, length, Option, None, Some, refl, ap, subst}
use Rattle.std.specs.Prelude.{codes}
use Rattle.std.proofs.Common.{sym, ◌∙◌, false, map, get_or, ◌<◌, ◌≤◌, arith}
use Rattle.kj_value.specs.Seen.{json}
use Rattle.kj_value.specs.declared.value.JVal.{JVal}
use Rattle.kj_value.specs.Json.{Json, null, boolean, whole, text, list, object, items_of}
use Rattle.struct_schema.specs.Names.{value_at}
use Rattle.schema_reading.specs.Kind.{is_yes}
use Rattle.crd_reading.specs.Words.{spelled}
use Rattle.crd_reading.specs.View.{VersionView, DefinitionView}
use Rattle.crd_reading.specs.Spelled.{items_in, or_null, version_read, versions_read, definition_read}
use Rattle.crd_reading.specs.Whole.{IsWholeDefinition}
use Rattle.crd_settings.specs.declared.parts.Mark.{Mark}
use Rattle.crd_meaning.specs.Definition.{no_version}
use Rattle.crd_settings.specs.Flags.{at_name, mark_in, served_name, storage_name, versions_name, version_in, versions_given}

pub served_read : (j : Json) → (version_read j).served ≡ is_yes (at_name served_name (Some j))
unfolding spelled served_name
served_read null = refl
served_read (boolean b) = refl
served_read (whole z) = refl
served_read (text t) = refl
served_read (list js) = refl
served_read (object ms) = refl

pub storage_read : (j : Json) → (version_read j).storage ≡ is_yes (at_name storage_name (Some j))
unfolding spelled storage_name
storage_read null = refl
storage_read (boolean b) = refl
storage_read (whole z) = refl
storage_read (text t) = refl
storage_read (list js) = refl
storage_read (object ms) = refl

-- by its place
pub version_at : (items : List JVal) (v : ℕ) (d : JVal) → v < length items → version_in (versions_read (items_of (map json items))) v ≡ version_read (json (get_or items v d))
version_at [] v d h = absurd (omega arith)
version_at (x ∷ items) zero d h = refl
version_at (x ∷ items) (suc v) d h = version_at items v d (omega arith)

pub version_past : (items : List JVal) (v : ℕ) → length items ≤ v → version_in (versions_read (items_of (map json items))) v ≡ no_version
version_past [] v h = refl
version_past (x ∷ items) zero h = absurd (omega arith)
version_past (x ∷ items) (suc v) h = version_past items v (omega arith)

pub mark_at : (items : List JVal) (v : ℕ) (x : JVal) → v < length items → x ≡ get_or items v x
    → ◌≡◌ {A = Mark} (record { served = (version_read (json x)).served; storage = (version_read (json x)).storage }) (mark_in (versions_read (items_of (map json items))) v)
mark_at items v x h e =
    let version : version_read (json x) ≡ version_in (versions_read (items_of (map json items))) v =
    ap (λ (y : JVal). version_read (json y)) e ∙ sym (version_at items v x h) in
    ap (λ (w : VersionView). mark_of_version w) version
  where
    mark_of_version : VersionView → Mark
    mark_of_version w = record { served = w.served; storage = w.storage }

pub mark_past : (items : List JVal) (v : ℕ) → length items ≤ v
    → ◌≡◌ {A = Mark} (record { served = false; storage = false }) (mark_in (versions_read (items_of (map json items))) v)
mark_past items v h = ap (λ (w : VersionView). mark_of_version w) (sym (version_past items v h))
  where
    mark_of_version : VersionView → Mark
    mark_of_version w = record { served = w.served; storage = w.storage }

pub length-versions : (js : List Json) → length (versions_read (items_of js)) ≡ length js
length-versions [] = refl
length-versions (j ∷ js) = ap suc (length-versions js)

-- ---- the versions of a definition's own `spec`

own_read : (j : Json) → versions_given (Some (definition_read j).spec) ≡ (definition_read j).versions
unfolding spelled versions_name
own_read null = refl
own_read (boolean b) = refl
own_read (whole z) = refl
own_read (text t) = refl
own_read (list js) = refl
own_read (object ms) = by (value_at (codes "spec") ms)
  where
    by : (o : Option Json) → versions_read (items_in (at_name versions_name (Some (or_null o)))) ≡ versions_read (items_in (at_name versions_name o))
    by None = refl
    by (Some j) = refl

pub own_versions : (d : DefinitionView) → IsWholeDefinition d → versions_given (Some d.spec) ≡ d.versions
own_versions d w =
    subst (λ (x : DefinitionView). versions_given (Some x.spec) ≡ x.versions) w.spelled.2 (own_read w.spelled.0)
