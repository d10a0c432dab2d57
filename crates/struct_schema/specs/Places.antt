-- Where texts and whole numbers stand first in a list of values.
use Rattle.std.specs.Prelude.{◌≡◌, ℕ, ◌+◌, ℤ, List, [], ◌∷◌, cond, Option, Some, None}
use Rattle.std.specs.Ordering.{int_eq}
use Rattle.std.specs.HashMap.{get_by, get_by_text}
use Rattle.kj_value.specs.Json.{Json, whole, text}
use Rattle.kj_value.specs.Same.{json_same}
use Rattle.struct_schema.specs.declared.places.Places.{Places}
use Rattle.struct_schema.specs.declared.places.Place.{Place}
use Rattle.struct_schema.specs.declared.places.Place.TheVariants.{First, Nowhere, Unknown}

-- the first place of a value in a list whose first place is i
abbrev pub first_from : ℕ → Json → List Json → Option ℕ
first_from i j [] = None
first_from i j (x ∷ xs) = cond (json_same x j) (Some i) (first_from (i + 1) j xs)

pub record ArePlaces (p : Places) (i : ℕ) (js : List Json) : Type 0 where
  pub texts : (t : List ℕ) → get_by_text p.texts t ≡ first_from i (text t) js
  pub wholes : (z : ℤ) → get_by (int_eq z) p.wholes ≡ first_from i (whole z) js

-- a place, or that there is none, or nothing
abbrev pub Tells : Place → Option ℕ → Type 0
Tells (First i) o = o ≡ Some i
Tells Nowhere o = o ≡ None
Tells Unknown o = Unit {0}
