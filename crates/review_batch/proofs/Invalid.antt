-- Of an object that isn't converted a field is told that breaks a rule.
use Rattle.std.proofs.Common.{◌≡◌, [], ◌∷◌, Bool, true, false, cond, Some, subst}
use Rattle.std.specs.Prelude.{is_none}
use Rattle.kj_value.specs.Json.{Json, null, boolean, whole, text, list, object}
use Rattle.kj_value.specs.Kinds.{as_object, pairs_of}
use Rattle.api_calls.specs.Cause.{WhyView}
use Rattle.api_calls.specs.Meaning.{Fault, bad_request, invalid}
use Rattle.std.proofs.Math.Logic.{∥∥₁_elim}
use Rattle.crd_meaning.specs.Definition.{Definition, IsLoaded}
use Rattle.crd_meaning.specs.Document.{early, rows}
use Rattle.crd_meaning.specs.Request.{Judged, first_there}
use Rattle.crd_meaning.specs.Unconverted.{IsUnconverted, is_early, is_broken, badly_kept}

abbrev IsInvalid : Fault → Type 0
IsInvalid (bad_request w) = ⊥
IsInvalid (invalid name cause) = Unit {0}

abbrev AreInvalid : Judged → Type 0
AreInvalid [] = Unit {0}
AreInvalid (f ∷ fs) = IsInvalid f.0 × AreInvalid fs

some_same : (f g : Fault) → Some f ≡ Some g → f ≡ g
some_same f g e = cc

first_invalid : (w : WhyView) (fs : Judged) → AreInvalid fs → first_there fs ≡ Some (bad_request w) → ⊥
first_invalid w [] h e = cc
first_invalid w (f ∷ fs) h e = by_test (first_invalid w fs h.1) f.1 e
  where
    by_test : (first_there fs ≡ Some (bad_request w) → ⊥) → (b : Bool) → cond b (Some f.0) (first_there fs) ≡ Some (bad_request w) → ⊥
    by_test later true q = subst IsInvalid (some_same f.0 (bad_request w) q) h.0
    by_test later false q = later q

never_early : (d : Definition) (w : WhyView) (j : Json) → is_none (as_object j) ≡ false → early d j ≡ Some (bad_request w) → ⊥
never_early d w null k e = cc
never_early d w (boolean b) k e = cc
never_early d w (whole z) k e = cc
never_early d w (text s) k e = cc
never_early d w (list js) k e = cc
never_early d w (object ms) k e = first_invalid w (rows d (pairs_of ms)) (tt, (tt, (tt, (tt, (tt, (tt, (tt, (tt, tt)))))))) e

pub never_bad : (d : Definition) (w : WhyView) (j : Json) → is_none (as_object j) ≡ false → IsUnconverted d j (bad_request w) → ⊥
never_bad d w j k (is_early e) = never_early d w j k e
never_bad d w j k (is_broken b) =
    let told = b.told in
    cc
never_bad d w j k (badly_kept b) =
    let told = b.told in
    cc

-- a contradiction from the mere fact that a definition was loaded
pub from_loaded : (d : Definition) → ∥ IsLoaded d ∥₁ → (IsLoaded d → ⊥) → ⊥
from_loaded d l h = ∥∥₁_elim l (λ x y. absurd x) h
