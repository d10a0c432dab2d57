-- What a definition with its fitted rules is in memory: the hub by its place, and the other versions by their names, each with
-- its rules.
use Rattle.std.specs.Prelude.{List, [], ◌∷◌, slice_index_or}
use Rattle.hub_cells.specs.Fit.{Fit}
use Rattle.keep_laws.specs.Spokes.{Spoke, Spokes}
use Rattle.crd_reading.specs.View.{VersionView}
use Rattle.crd_loading.specs.Fits.{spokes_of}
use Rattle.crd_loading.specs.View.{LoadedView}
use Rattle.crd_meaning.specs.Definition.{Definition, no_version}

-- each version with the fit in its place
abbrev pub named_fits : List VersionView → List Fit → List Spoke
named_fits [] fs = []
named_fits (v ∷ vs) [] = []
named_fits (v ∷ vs) (f ∷ fs) = record { name = v.name; fit = f } ∷ named_fits vs fs

abbrev pub spokes_in : LoadedView → Spokes
spokes_in l = record {
  group = l.definition.group;
  hub = (slice_index_or l.definition.versions l.hub no_version).name;
  items = named_fits (spokes_of l.hub l.definition.versions) l.spokes;
}

abbrev pub set_of : LoadedView → Definition
set_of l = record { view = l.definition; hub = l.hub; spokes = spokes_in l }
