-- For private clauses: the names of versions.
use Rattle.std.specs.Prelude.{List, map}
use Rattle.hub_cells.specs.Level.{Name}
use Rattle.crd_reading.specs.View.{VersionView}

abbrev pub version_names : List VersionView → List Name
version_names vs = map (λ v. v.name) vs
