-- How the logic stores a spoke and a definition: as pairs of their parts.
use Rattle.std.specs.Prelude.{List, refl}
use Rattle.std.specs.Coded.{Coded, code_by, coded×, coded_ℕ, coded_list}
use Rattle.hub_cells.specs.Level.{Name}
use Rattle.hub_cells.specs.Fit.{Fit}
use Rattle.hub_cells.specs.laws.FitCode.{fit_code}
use Rattle.keep_laws.specs.Spokes.{Spoke, Spokes}

abbrev pub spoke_code : Coded Spoke
spoke_code =
    code_by (Name × Fit) (coded× (coded_list coded_ℕ) fit_code) (λ s. (s.name, s.fit)) (λ p. record { name = p.0; fit = p.1 }) (λ _. refl)

abbrev pub spokes_code : Coded Spokes
spokes_code =
    code_by (Name × (Name × List Spoke)) (coded× (coded_list coded_ℕ) (coded× (coded_list coded_ℕ) (coded_list spoke_code))) (λ a. (a.group, (a.hub, a.items))) (λ p. record { group = p.0; hub = p.1.0; items = p.1.1 }) (λ _. refl)
