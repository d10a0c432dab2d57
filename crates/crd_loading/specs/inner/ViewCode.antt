-- How the logic stores a definition with its fitted rules: as a tree of numbers, one for each.
use Rattle.std.specs.Prelude.{ℕ, List, refl}
use Rattle.std.specs.Coded.{Coded, code_by, coded_ℕ, coded_list, coded×}
use Rattle.hub_cells.specs.Fit.{Fit}
use Rattle.hub_cells.specs.laws.FitCode.{fit_code}
use Rattle.crd_reading.specs.View.{DefinitionView}
use Rattle.crd_reading.specs.laws.ViewCode.{definition_code}
use Rattle.crd_loading.specs.View.{LoadedView}

abbrev pub loaded_code : Coded LoadedView
loaded_code =
    code_by (DefinitionView × (ℕ × List Fit)) (coded× definition_code (coded× coded_ℕ (coded_list fit_code))) (λ l. (l.definition, (l.hub, l.spokes))) (λ t. record { definition = t.0; hub = t.1.0; spokes = t.1.1 }) (λ _. refl)
