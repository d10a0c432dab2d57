-- The settings of a definition's meaning: what bodies say of flags and of stored versions, and how it is shown.
use Rattle.std.specs.Prelude.{◌≡◌, refl}
use Rattle.api_calls.specs.declared.flags.Flags.{Flags}
use Rattle.crd_reading.specs.View.{DefinitionView}
use Rattle.crd_meaning.specs.Definition.{Definition, opening_of}
use Rattle.crd_meaning.specs.Meant.{Settings}
use Rattle.crd_settings.specs.Flags.{flags_of}
use Rattle.crd_settings.specs.Setting.{Sets, RefusesFlags}
use Rattle.crd_settings.specs.Keeping.{KeepsVersions, RefusesKeep}
use Rattle.crd_settings.specs.Shown.{shown, show_room}

abbrev pub settings_of : DefinitionView → Settings
settings_of d = record {
  sets = Sets d;
  refuses_flags = RefusesFlags d;
  keeps = KeepsVersions d;
  refuses_keep = RefusesKeep d;
  shown = shown d;
  show_room = show_room d;
}

-- a loaded definition opens with the flags of its versions
pub opening-flags : (d : Definition) → opening_of d ≡ flags_of d.view.versions
opening-flags d = refl
