-- What a stored text tells of the finalizers and the deletion stamp of an object.
use Rattle.std.specs.Prelude.{◌≡◌, Bool, IsTrue}
use Rattle.kube_meta.specs.View.{ObjectView}
use Rattle.api_calls.specs.Meaning.{Meaning}
use Rattle.api_calls.specs.Values.{has_finalizer, is_marked}

-- a value is taken for h, which it is where it is known what values mean, and has a finalizer and a stamp or has none
pub record HoldsAs (m : Meaning) (h : ObjectView) (held marked : Bool) : Type 0 where
  pub old : ObjectView
  pub takes : IsTrue m.honest → old ≡ h
  pub holds : has_finalizer old ≡ held
  pub ends : is_marked old ≡ marked
