-- What every definition keeps in its type: some accepted document spells it, and what follows of its versions.
use Rattle.std.specs.Prelude.{◌≡◌, ◌≤◌, List, [], ◌∷◌, length}
use Rattle.kj_value.specs.Json.{Json}
use Rattle.struct_schema.specs.OwnDefaults.{HasOwnDefaults}
use Rattle.prune_default.specs.SoundDefaults.{HasSoundDefaults}
use Rattle.crd_reading.specs.View.{VersionView, DefinitionView}
use Rattle.crd_reading.specs.Spelled.{definition_read}
use Rattle.crd_reading.specs.Accepted.{AreOffered, IsDefinition}
use Rattle.crd_reading.specs.declared.places.TheConstants.{MIN_VERSIONS, MAX_VERSIONS}

-- each default of each version's schema is its own filling
abbrev pub HaveOwnDefaults : List VersionView → Type 0
HaveOwnDefaults [] = Unit {0}
HaveOwnDefaults (v ∷ vs) = HasOwnDefaults v.schema × HaveOwnDefaults vs

-- and is a JSON value
abbrev pub HaveSoundDefaults : List VersionView → Type 0
HaveSoundDefaults [] = Unit {0}
HaveSoundDefaults (v ∷ vs) = HasSoundDefaults v.schema × HaveSoundDefaults vs

pub record IsWholeDefinition (d : DefinitionView) : Type 0 where
  pub spelled : (j : Json) × IsDefinition j × (definition_read j ≡ d)
  pub offered : AreOffered d.versions
  pub least : MIN_VERSIONS ≤ length d.versions
  pub most : length d.versions ≤ MAX_VERSIONS
  pub defaults : HaveOwnDefaults d.versions
  pub sound : HaveSoundDefaults d.versions
