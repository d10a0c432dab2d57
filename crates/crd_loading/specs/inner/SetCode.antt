-- How the logic stores a loaded definition: as a tree of numbers, one for each.
use Rattle.std.specs.Prelude.{ℕ, refl}
use Rattle.std.specs.Coded.{Coded, code_by, coded_ℕ, coded×}
use Rattle.crd_reading.specs.View.{DefinitionView}
use Rattle.crd_reading.specs.laws.ViewCode.{definition_code}
use Rattle.keep_laws.specs.Spokes.{Spokes}
use Rattle.spoke_keep.specs.laws.SpokesCode.{spokes_code}
use Rattle.crd_meaning.specs.Definition.{Definition}

abbrev pub set_code : Coded Definition
set_code =
    code_by (DefinitionView × (ℕ × Spokes)) (coded× definition_code (coded× coded_ℕ spokes_code)) (λ d. (d.view, (d.hub, d.spokes))) (λ t. record { view = t.0; hub = t.1.0; spokes = t.1.1 }) (λ _. refl)
