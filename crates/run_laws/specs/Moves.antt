-- What is left as it was where only a resource version moves.
use Rattle.std.specs.Prelude.{◌≡◌, ◌⊎◌, List, [], ◌∷◌, Option, Some}
use Rattle.kube_meta.specs.Key.{KeyView}
use Rattle.api_calls.specs.Objects.{Stored}
use Rattle.api_calls.specs.State.{State}

-- an object is as it was; or it is the one of this key, and only its number and the version at which it is stored are others
abbrev pub HasMoved : Option KeyView → Stored → Stored → Type 0
HasMoved k e f = (f ≡ e) ⊎ ((k ≡ Some e.key) × (f ≡ record e { number = f.number; at = f.at }))

-- the same of each of the objects, which stand in the same order
abbrev pub AreMoved : Option KeyView → List Stored → List Stored → Type 0
AreMoved k [] [] = Unit {0}
AreMoved k [] (f ∷ fs) = ⊥
AreMoved k (e ∷ es) [] = ⊥
AreMoved k (e ∷ es) (f ∷ fs) = HasMoved k e f × AreMoved k es fs

-- At most one object moved to another number and another stored version. No object came, went, or got another value, and the
-- flags and the stored versions are as they were.
pub record MovesNumbers (before after : State) : Type 0 where
  pub key : Option KeyView
  pub objects : AreMoved key before.objects after.objects
  pub flags : after.flags ≡ before.flags
  pub stored : after.stored ≡ before.stored
