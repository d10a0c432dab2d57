-- What a place between keys is seen as.
use Rattle.kube_meta.specs.Plan.{Bound, Start, After, End}
use Rattle.migrate_core.specs.declared.bound.BoundPlace.{BoundPlace}
use Rattle.migrate_core.specs.declared.bound.BoundPlace.TheVariants.{Start as AtStart, After as AtKey, End as AtEnd}

abbrev pub bound_of : BoundPlace → Bound
bound_of AtStart = Start
bound_of (AtKey k) = After k
bound_of AtEnd = End
