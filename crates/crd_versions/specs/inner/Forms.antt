-- For private clauses: an object of a spoke that was made of a hub value.
use Rattle.std.specs.Prelude.{◌≡◌, ℕ, Some, slice_get}
use Rattle.kube_meta.specs.View.{ObjectView}
use Rattle.keep_laws.specs.Spokes.{Spoke, Spokes}
use Rattle.keep_laws.specs.Notes.{IsObject}
use Rattle.keep_laws.specs.Pair.{IsPairOf}
use Rattle.keep_laws.specs.WholeHub.{IsWholeHub}

-- x stands at the spoke at place p, and is one with a whole h of the hub
pub record IsFormOf (all : Spokes) (p : ℕ) (x h : ObjectView) : Type 0 where
  pub spoke : Spoke
  pub place : slice_get all.items p ≡ Some spoke
  pub object : IsObject x
  pub whole : IsWholeHub all h
  pub pair : IsPairOf all spoke x h
