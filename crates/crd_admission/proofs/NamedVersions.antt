-- The version that a text names.
use Rattle.std.proofs.Common.{◌≡◌, ℕ, ◌<◌, List, Bool, true, false, bytes_eq, Option, Some, None}
use Rattle.std.specs.Prelude.{MatchOption}
use Rattle.std.proofs.lemmas.List.Elements.{All-from_get_or}
use Rattle.std.proofs.lemmas.List.Folds.{list_any_none, list_any_at}
use Rattle.std.proofs.lemmas.Slice.Eq.{bytes_eq-Decides}
use Rattle.kj_value.specs.Json.{text}
use Rattle.object_reading.specs.Refusal.{is_given_text}
use Rattle.crd_reading.specs.View.{VersionView}
use Rattle.keep_laws.specs.Spokes.{api_version}
use Rattle.crd_meaning.specs.Definition.{Definition, no_version, count_of, version_at}
use Rattle.crd_meaning.specs.Document.{is_version}
use Rattle.crd_admission.specs.inner.Documents.{IsNamedBy, IsNamed}

-- ---- among the versions

module _ (d : Definition) (s : List ℕ) where
  abbrev is_named : VersionView → Bool
  is_named v = bytes_eq s (api_version d.view.group v.name)

  pub none_named : ((u : ℕ) → u < count_of d → is_named (version_at d u) ≡ false) → is_version d s ≡ false
  none_named h =
      list_any_none is_named d.view.versions (All-from_get_or (λ v. is_named v ≡ false) d.view.versions no_version h)

  pub named : (v : ℕ) → v < count_of d → is_named (version_at d v) ≡ true → IsNamedBy d s v
  named v known e = record {
    known = known;
    text = (bytes_eq-Decides s (api_version d.view.group (version_at d v).name)).0 e;
    given = list_any_at is_named d.view.versions v no_version known e;
  }

-- as the value at `apiVersion`
pub named_text : (d : Definition) (s : List ℕ) (r : Option ℕ) → MatchOption r (is_version d s ≡ false) (IsNamedBy d s)
    → MatchOption r (is_given_text (is_version d) (Some (text s)) ≡ false) (λ v. IsNamed d v (Some (text s)))
named_text d s None h = h
named_text d s (Some v) h = record { known = h.known; text = h.text; given = h.given }
