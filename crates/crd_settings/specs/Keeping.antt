-- What the body of a trim says of stored versions.
use Rattle.std.specs.Prelude.{◌≡◌, ℕ, Bool, true, false, ◌&&◌, not, List, [], ◌∷◌, length, filter, map, Option, Some, codes}
use Rattle.std.specs.List.{IsDistinct, list_any, list_all, range_with_len}
use Rattle.std.specs.Str.{bytes_eq}
use Rattle.kj_value.specs.Json.{Json, text, list, no_items, items_of}
use Rattle.kj_value.specs.Fields.{Pairs, field}
use Rattle.kj_value.specs.declared.rule.Rule.TheVariants.{Kind, Required, Unknown}
use Rattle.api_calls.specs.Bodies.{fields_in}
use Rattle.api_calls.specs.Cause.{CauseView}
use Rattle.api_calls.specs.Meaning.{Fault, bad_request, invalid}
use Rattle.crd_reading.specs.View.{DefinitionView, VersionView}
use Rattle.crd_reading.specs.Offered.{has_version}
use Rattle.crd_reading.specs.Allowed.{is_text_of, any_text}
use Rattle.crd_reading.specs.Spelled.{full_name, text_in}
use Rattle.crd_settings.specs.Body.{ReadsObject, IsNoObject}
use Rattle.crd_settings.specs.Flags.{version_in}

-- `status.storedVersions`
abbrev pub stored_given : Pairs → Option Json
stored_given fields = field (codes "storedVersions") (fields_in (field (codes "status") fields))

-- a list of texts that differ
pub record AreNames (given : Option Json) (names : List (List ℕ)) : Type 0 where
  pub texts : given ≡ Some (list (items_of (map text names)))
  pub differ : IsDistinct bytes_eq names

-- the name is among some names
abbrev pub is_among : List (List ℕ) → List ℕ → Bool
is_among names name = list_any (bytes_eq name) names

-- each name is a version's
abbrev pub are_versions : List VersionView → List (List ℕ) → Bool
are_versions vs names = list_all (λ n. has_version n vs) names

-- the places of the versions that are named
abbrev pub places_named : List VersionView → List (List ℕ) → List ℕ
places_named vs names = filter (λ v. is_among names (version_in vs v).name) (range_with_len 0 (length vs))

-- names of versions, at least one: the versions are these
pub record KeepsNamed (d : DefinitionView) (given : Option Json) (versions : List ℕ) : Type 0 where
  pub first : List ℕ
  pub rest : List (List ℕ)
  pub names : AreNames given (first ∷ rest)
  pub known : are_versions d.versions (first ∷ rest) ≡ true
  pub places : versions ≡ places_named d.versions (first ∷ rest)

abbrev pub stored_path : List ℕ
stored_path = codes "status.storedVersions"

-- the first rule that is broken
pub data BreaksStored (d : DefinitionView) (given : Option Json) (cause : CauseView) : Type 0 where
  other_shape : ((names : List (List ℕ)) → AreNames given names → ⊥) → cause ≡ record { field = stored_path; rule = Kind }
      → BreaksStored d given cause
  none : given ≡ Some (list no_items) → cause ≡ record { field = stored_path; rule = Required } → BreaksStored d given cause
  no_version : (names : List (List ℕ)) → AreNames given names → are_versions d.versions names ≡ false
      → cause ≡ record { field = stored_path; rule = Unknown } → BreaksStored d given cause

-- the versions that a body keeps in the stored list; its other fields aren't looked at
pub record KeepsVersions (d : DefinitionView) (body : List ℕ) (versions : List ℕ) : Type 0 where
  pub fields : Pairs
  pub reads : ReadsObject body fields
  pub keeps : KeepsNamed d (stored_given fields) versions

-- the body is an object that breaks a rule; the name is the definition's
pub record IsBadKeeping (d : DefinitionView) (body name : List ℕ) (cause : CauseView) : Type 0 where
  pub fields : Pairs
  pub reads : ReadsObject body fields
  pub named : name ≡ full_name d
  pub breaks : BreaksStored d (stored_given fields) cause

-- why a body keeps no versions. A version that no object can stand at is refused later, where the stored list is known.
abbrev pub RefusesKeep : DefinitionView → List ℕ → Fault → Type 0
RefusesKeep d body (bad_request why) = IsNoObject body why
RefusesKeep d body (invalid name cause) = IsBadKeeping d body name cause

-- ---- for private clauses

pub record IsBadStored (d : DefinitionView) (given : Option Json) (name : List ℕ) (cause : CauseView) : Type 0 where
  pub named : name ≡ full_name d
  pub breaks : BreaksStored d given cause

abbrev pub RefusesStored : DefinitionView → Option Json → Fault → Type 0
RefusesStored d given (bad_request why) = ⊥
RefusesStored d given (invalid name cause) = IsBadStored d given name cause

-- what the texts of a list say
abbrev pub names_in : List Json → List (List ℕ)
names_in js = map (λ j. text_in (Some j)) js

abbrev pub is_name_text : Json → Bool
is_name_text j = is_text_of any_text j

abbrev pub do_differ : List (List ℕ) → Bool
do_differ [] = true
do_differ (n ∷ ns) = not (is_among ns n) && do_differ ns
