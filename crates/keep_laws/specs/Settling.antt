-- An object without what has no place in it: the annotation of its own side, those of no known spoke, and dead entries; and
-- with the names that have a default in some version.
use Rattle.std.specs.Prelude.{◌≡◌, List, [], ◌∷◌, None}
use Rattle.kj_value.specs.Fields.{Pairs}
use Rattle.kube_meta.specs.View.{ObjectView}
use Rattle.keep_laws.specs.Complete.{completed}
use Rattle.keep_laws.specs.Spokes.{Spoke, Spokes, fills_at}
use Rattle.keep_laws.specs.Notes.{IsObject, without_notes}
use Rattle.keep_laws.specs.Pair.{IsPairOf}
use Rattle.keep_laws.specs.WholeHub.{IsWholeHub}
use Rattle.keep_laws.specs.Judging.{Carries}
use Rattle.keep_laws.specs.Over.{GoesOver}

-- y is x but for annotations and for the body
pub record IsRestOf (x y : ObjectView) : Type 0 where
  pub version : y.api_version ≡ x.api_version
  pub kind : y.kind ≡ x.kind
  pub meta : without_notes y.meta ≡ without_notes x.meta
  pub object : IsObject y

-- a body of the hub, completed along the first spoke's level: a name that some spoke lacks has no default but the hub's
abbrev pub completed_first : Spokes → List Spoke → Pairs → Pairs
completed_first all [] body = body
completed_first all (s ∷ ss) body = completed (fills_at all s) s.fit.level body

abbrev pub completed_hub : Spokes → Pairs → Pairs
completed_hub all body = completed_first all all.items body

-- y is x without what has no place at the hub, and completed; entries are judged at the completed body
pub record SettlesAtHub (all : Spokes) (x y : ObjectView) : Type 0 where
  pub rest : IsRestOf x y
  pub body : y.body ≡ completed_hub all x.body
  pub notes : Carries all None y.body x.meta.annotations y.meta.annotations

-- y is the form, at the spoke, of the whole object of the hub that x becomes
pub record SettlesAtSpoke (all : Spokes) (s : Spoke) (x y : ObjectView) : Type 0 where
  pub hub : ObjectView
  pub over : GoesOver all s x hub
  pub whole : IsWholeHub all hub
  pub object : IsObject y
  pub pair : IsPairOf all s y hub
