-- A definition with its fitted rules: the hub's place, and one fit for each spoke, in the order of the versions.
use Rattle.std.specs.Prelude.{◌≡◌, ℕ, List, [], ◌∷◌, Option, None, Some, Result, Ok, Err, slice_get}
use Rattle.kj_value.specs.Json.{Json}
use Rattle.struct_schema.specs.Shape.{Shape}
use Rattle.hub_cells.specs.Fit.{Fit}
use Rattle.struct_schema.specs.PathText.{Path}
use Rattle.rule_reading.specs.SetRead.{Spoke}
use Rattle.crd_reading.specs.View.{VersionView, DefinitionView}
use Rattle.crd_reading.specs.Whole.{IsWholeDefinition}
use Rattle.hub_fills.specs.LateNames.{first_late}
use Rattle.crd_loading.specs.Fits.{IsRuled, Placed, version_from, spokes_of, fits_of, levels_in, RuleSet, rules_in}

pub record LoadedView : Type 0 where
  pub definition : DefinitionView
  pub hub : ℕ
  pub spokes : List Fit

-- ---- what every one keeps in its type

-- each level is what some rules mean for the schema of its version and the hub's, and no names of objects lead to it
abbrev pub FitVersions : Shape → List VersionView → List Fit → Type 0
FitVersions h [] [] = Unit {0}
FitVersions h [] (f ∷ fs) = ⊥
FitVersions h (v ∷ vs) [] = ⊥
FitVersions h (v ∷ vs) (f ∷ fs) = (f.spoke ≡ v.schema) × (f.hub ≡ h) × (f.depth ≡ 0) × IsRuled f × FitVersions h vs fs

-- the hub is a version, and each other version has a fit
abbrev pub FitHub : Option VersionView → ℕ → List VersionView → List Fit → Type 0
FitHub None hub vs fs = ⊥
FitHub (Some h) hub vs fs = FitVersions h.schema (spokes_of hub vs) fs

pub record IsTogether (l : LoadedView) : Type 0 where
  pub whole : IsWholeDefinition l.definition
  pub fits : FitHub (slice_get l.definition.versions l.hub) l.hub l.definition.versions l.spokes
  pub late : first_late (levels_in l.spokes) ≡ None

-- ---- what a document of rules makes of a definition. Where it is refused, it says nothing

-- the hub's place and the fits of the spokes
abbrev pub Placement : Type 0
Placement = ℕ × List Fit

abbrev pub placed_at : Option Placed → List Spoke → List VersionView → Placement
placed_at None ss vs = (0, [])
placed_at (Some h) ss vs = (h.0, fits_of h.1.schema ss (spokes_of h.0 vs))

abbrev pub placed_by : Result RuleSet Path → List VersionView → Placement
placed_by (Err p) vs = (0, [])
placed_by (Ok s) vs = placed_at (version_from 0 s.0 vs) s.1 vs

abbrev pub together : DefinitionView → Placement → LoadedView
together d p = record { definition = d; hub = p.0; spokes = p.1 }

unfoldable pub loaded_of : DefinitionView → Json → LoadedView
loaded_of d j = together d (placed_by (rules_in d.versions j) d.versions)
