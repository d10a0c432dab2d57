-- That each default of each version's schema is valid at its node and its own filling.
use Rattle.std.specs.Prelude.{List, [], ◌∷◌}
use Rattle.schema_reading.specs.ValidDefaults.{HasValidDefaults}
use Rattle.crd_reading.specs.View.{VersionView}

abbrev pub HaveValidDefaults : List VersionView → Type 0
HaveValidDefaults [] = Unit {0}
HaveValidDefaults (v ∷ vs) = HasValidDefaults v.schema × HaveValidDefaults vs
